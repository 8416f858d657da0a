use Rattle.std.proofs.Common.{◌∙◌, ap}
use Rattle.std.specs.Option.{is_some}
use Rattle.kv_types.specs.Snapshots.{is_open}
use Rattle.chain_core.specs.States.{Core}
use Rattle.chain_core.proofs.Snapshots.{open_at}
use Rattle.chain_core.proofs.state.CoreState.is_open.Goals as goal

pub returns : goal.returns
returns c = c.is_some.ensures ∙ (ap is_some c.place_of.ensures
    ∙ (open_at c.args.number 0 c.self.inside.snapshots.items
    ∙ ap (λ (v : Core). is_open c.args.number v.snapshots) c.self.view_is))
