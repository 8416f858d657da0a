-- A test that failed.
use Rattle.std.proofs.Common.{◌≡◌, Bool, false, sym, ◌∙◌}
use Rattle.std.specs.Prelude.{IsTrue}
use Rattle.std.proofs.lemmas.Bool.{false≢true}

pub not_true : {b : Bool} → b ≡ false → IsTrue b → ⊥
not_true is wrong = false≢true (sym is ∙ wrong)
