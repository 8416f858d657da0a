-- That open files are usable is a fact: it has one proof at most.
use Rattle.std.specs.Prelude.{ℕ, List, [], ◌∷◌, Bool}
use mathlib.Core.Bool.{Bool-set}
use mathlib.Core.HLevel.{×_prop, Unit-prop}
use Rattle.std.proofs.Props as facts
use Rattle.kv_types.specs.{AllDifferent}
use Rattle.manifest.specs.Versions.{AreInOrder}

-- two proofs that ids differ are one
pub AllDifferent-prop : (ids : List ℕ) → IsProp (AllDifferent ids)
AllDifferent-prop [] = Unit-prop
AllDifferent-prop (x ∷ ids) = ×_prop (Bool-set _ _) (AllDifferent-prop ids)

-- two proofs that lines are in order are one
pub AreInOrder-prop : {A : Type 0} (before : A → A → Bool) (xs : List A) →
    IsProp (AreInOrder before xs)
AreInOrder-prop before [] = Unit-prop
AreInOrder-prop before (x ∷ xs) =
    ×_prop (Prim.hlevel facts.props) (AreInOrder-prop before xs)

pub ruleset props = (AllDifferent-prop, AreInOrder-prop, facts.props)
