use Rattle.std.proofs.Common.{◌∙◌}
use Rattle.chain_core.proofs.Ends.{one_tail}
use Rattle.chain_core.proofs.places.is_tail.Goals as goal

pub returns : goal.returns
returns c = c.eq.ensures ∙ one_tail c.args.config.now c.tail.result c.args.id c.tail.ensures
