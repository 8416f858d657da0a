-- Prefixes, parts and places of lists.
use Rattle.std.specs.Prelude.{◌≡◌, ◌⊎◌, ℕ, zero, suc, List, [], ◌∷◌, ◌++◌, Option, Some, None}
use Rattle.std.specs.Prelude.{Bool, true, false, if◌then◌else◌, ◌==◌}

-- l is a prefix of m (van Renesse and Schneider 2004, section 3)
pub record IsPrefix {A : Type 0} (l m : List A) : Type 0 where
  pub rest : List A
  pub whole : l ++ rest ≡ m

-- l is a sublist of m: m with some places left out, order kept
abbrev pub Part : {A : Type 0} → List A → List A → Type 0
Part [] m = Unit {0}
Part (x ∷ l) [] = ⊥
Part (x ∷ l) (y ∷ m) = ((x ≡ y) × Part l m) ⊎ Part (x ∷ l) m

-- the element at place n of a list, the first place being 1
abbrev pub place : {A : Type 0} → List A → ℕ → Option A
place [] n = None
place (x ∷ l) zero = None
place (x ∷ l) (suc zero) = Some x
place (x ∷ l) (suc (suc n)) = place l (suc n)

-- whether a list has x
abbrev pub has : List ℕ → ℕ → Bool
has [] x = false
has (y ∷ c) x = if y == x then true else has c x

-- no number occurs twice in the list
abbrev pub AllDifferent : List ℕ → Type 0
AllDifferent [] = Unit {0}
AllDifferent (x ∷ c) = (has c x ≡ false) × AllDifferent c

-- whether d is c with some places left out, order kept
abbrev pub is_part : List ℕ → List ℕ → Bool
is_part [] c = true
is_part (x ∷ d) [] = false
is_part (x ∷ d) (y ∷ c) = if x == y then is_part d c else is_part (x ∷ d) c
