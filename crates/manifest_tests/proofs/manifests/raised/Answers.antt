use Rattle.std.proofs.Common.{arith, refl}
use Rattle.manifest_tests.proofs.Edits.{numbers_fit}
use Rattle.manifest_tests.proofs.manifests.raised.Goals as goal

pub returns : goal.returns
returns c =
    let max = c.max.ensures in
    rw (← c.version.view_is) (numbers_fit _ _ _ _ _ _ _ _ _ _ c.version.invariant refl
    (omega (arith, max), omega (arith, max, c.version.invariant.floor)) refl refl
    c.in_ok-clone.ensures
    c.new.ensures.items c.new-2.ensures.items c.new-3.ensures.items c.new-4.ensures.items)
