-- Node ids in a list, as code looks for them and as the chain's model does.
use Rattle.std.proofs.Common.{◌≡◌, ◌↔◌, ℕ, suc, ◌-◌, ◌≤◌, List, [], ◌∷◌, length, Bool, true, false}
use Rattle.std.proofs.Common.{take, drop, get_or, ◌==◌, if◌then◌else◌, ◌||◌, refl, sym, subst}
use Rattle.std.proofs.Common.{◌∙◌, arith, eq-eqb}
use Rattle.std.specs.List.{list_any}
use Rattle.std.proofs.lemmas.Bool.{false≢true}
use Rattle.std.proofs.lemmas.List.{take_all}
use Rattle.configurations.specs.NodeLists.{is_tail}
use Rattle.kv_types.specs.{AllDifferent, has}

or_is_if : (b u v : Bool) → u ≡ v → (b || u) ≡ (if b then true else v)
or_is_if true u v e = refl
or_is_if false u v e = e

-- a list has an id if any of its own is that
pub any_has : (c : List ℕ) (x : ℕ) → list_any (λ y. y == x) c ≡ has c x
any_has [] x = refl
any_has (y ∷ c) x = or_is_if (y == x) (list_any (λ z. z == x) c) (has c x) (any_has c x)

-- the tail is at the last place
pub tail_last : (c : List ℕ) (d : ℕ) → 1 ≤ length c → is_tail c (get_or c (length c - 1) d) ≡ true
tail_last [] d some = absurd (omega (arith, some))
tail_last (y ∷ []) d some = eq-eqb y y refl
tail_last (y ∷ z ∷ c) d some =
    let place : suc (suc (length c) - 1) ≡ suc (suc (length c)) - 1 = omega arith in
    subst (λ n. is_tail (z ∷ c) (get_or (y ∷ z ∷ c) n d) ≡ true) place
    (tail_last (z ∷ c) d (omega arith))

-- the ids behind the first
abbrev pub later : List ℕ → List ℕ
later ids = take (length ids - 1) (drop 1 ids)

later_is : (x : ℕ) (l : List ℕ) → later (x ∷ l) ≡ l
later_is x l = take_all (length (x ∷ l) - 1) l (omega arith)

-- an id that occurs again behind the first place is repeated
pub first_repeats : (ids : List ℕ) → 1 ≤ length ids
    → list_any (λ y. y == get_or ids 0 0) (later ids) ≡ true → AllDifferent ids → ⊥
first_repeats [] some again d = absurd (omega (arith, some))
first_repeats (x ∷ l) some again d =
    let found = subst (λ m. list_any (λ y. y == x) m ≡ true) (later_is x l) again in
    false≢true (sym d.0 ∙ sym (any_has l x) ∙ found)

-- else the ids differ exactly if those behind the first do
pub others_differ : (ids : List ℕ) → 1 ≤ length ids
    → list_any (λ y. y == get_or ids 0 0) (later ids) ≡ false
    → AllDifferent (later ids) ↔ AllDifferent ids
others_differ [] some none = absurd (omega (arith, some))
others_differ (x ∷ l) some none =
    let all = later_is x l in
    let first = sym (any_has l x) ∙ subst (λ m. list_any (λ y. y == x) m ≡ false) all none in (
      λ d. (first, subst AllDifferent all d),
      λ d. subst AllDifferent (sym all) d.1,
    )
