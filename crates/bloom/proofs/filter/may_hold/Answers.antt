use Rattle.std.proofs.Common.{ℕ, subst}
use Rattle.std.specs.Prelude.{◌↔◌, IsTrue}
use Rattle.bloom.specs.Filters.{CoversHashed}
use Rattle.bloom.proofs.filter.may_hold.Goals as goal

pub returns : goal.returns
returns c =
    subst (λ (hashes : ℕ × ℕ). IsTrue c.may_hold_hashed.result
    ↔ CoversHashed c.args.filter.now hashes)
    c.of.ensures c.may_hold_hashed.ensures
