-- The first of a number in a list, by its place.
use Rattle.std.proofs.Common.{◌≡◌, ℕ, suc, ◌<◌, ◌≤◌, List, [], ◌∷◌, length, Bool, true, false, eqb}
use Rattle.std.proofs.Common.{Some, None, cond, arith, ap, refl, sym, subst, inl, inr, ◌∙◌}
use Rattle.std.proofs.lemmas.Bool.{cases_lt}
use Rattle.std.proofs.lemmas.Bool.Decides.{nat_tests}
use Rattle.std.specs.List.{All, position, position_or_len, remove}
use Rattle.std.proofs.lemmas.List.Elements.{All-cons, All-tail}
use Rattle.kv_types.specs.Snapshots.{is_open, without}
use Rattle.engine.specs.Snapshots.{AreReadable, IsReadable}

-- without this place, the list is as without the number, which is there
abbrev pub IsAt : ℕ → List ℕ → ℕ → Type 0
IsAt number numbers place =
    (remove numbers place ≡ without number numbers) × (is_open number numbers ≡ true)

-- where the first one is not the number, a place of the number is one further
further : (number first : ℕ) (numbers : List ℕ) (place : ℕ) → eqb number first ≡ false
    → IsAt number numbers place → IsAt number (first ∷ numbers) (suc place)
further number first numbers place is there = rw is (ap (λ l. first ∷ l) there.0, there.1)

-- how far the first place is
there_place : (number first : ℕ) (numbers : List ℕ) → eqb number first ≡ false
    → position_or_len (eqb number) (first ∷ numbers)
    ≡ suc (position_or_len (eqb number) numbers)
there_place number first numbers is = rw is (omega arith)

here_place : (number first : ℕ) (numbers : List ℕ) → eqb number first ≡ true
    → position_or_len (eqb number) (first ∷ numbers) ≡ 0
here_place number first numbers is = rw is refl

found_now : (number first : ℕ) (numbers : List ℕ) → eqb number first ≡ true
    → IsAt number (first ∷ numbers) 0
found_now number first numbers is = rw is (refl, refl)

-- a number whose first place is in the list stands there
found_at : (number : ℕ) (numbers : List ℕ)
    → position_or_len (eqb number) numbers < length numbers
    → IsAt number numbers (position_or_len (eqb number) numbers)
found_at number [] within = absurd (omega arith)
found_at number (first ∷ numbers) within =
    step (eqb number first) refl (λ less. found_at number numbers less)
  where
    step : (same : Bool) → eqb number first ≡ same
        → (position_or_len (eqb number) numbers < length numbers
        → IsAt number numbers (position_or_len (eqb number) numbers))
        → IsAt number (first ∷ numbers) (position_or_len (eqb number) (first ∷ numbers))
    step true is later =
        subst (IsAt number (first ∷ numbers)) (sym (here_place number first numbers is))
        (found_now number first numbers is)
    step false is later =
        let place = there_place number first numbers is in
        subst (IsAt number (first ∷ numbers)) (sym place)
        (further number first numbers (position_or_len (eqb number) numbers) is
        (later (omega (arith, within, place))))

-- one whose first place is not in the list is not open
not_found : (number : ℕ) (numbers : List ℕ)
    → length numbers ≤ position_or_len (eqb number) numbers
    → (is_open number numbers ≡ false) × (numbers ≡ without number numbers)
not_found number [] beyond = (refl, refl)
not_found number (first ∷ numbers) beyond =
    step (eqb number first) refl (λ more. not_found number numbers more)
  where
    step : (same : Bool) → eqb number first ≡ same
        → (length numbers ≤ position_or_len (eqb number) numbers
        → (is_open number numbers ≡ false) × (numbers ≡ without number numbers))
        → (is_open number (first ∷ numbers) ≡ false)
        × (first ∷ numbers ≡ without number (first ∷ numbers))
    step true is later =
        let place = here_place number first numbers is in
        absurd (omega (arith, beyond, place))
    step false is later =
        let place = there_place number first numbers is in
        let rest = later (omega (arith, beyond, place)) in
        rw is (rest.0, ap (λ l. first ∷ l) rest.1)

-- what the search for the number found
pub place_found : (number : ℕ) (numbers : List ℕ) (place : ℕ)
    → position (eqb number) numbers ≡ Some place
    → IsAt number numbers place × (place < length numbers)
place_found number numbers place is =
    elim (cases_lt (position_or_len (eqb number) numbers) (length numbers)) [
      | inl less ↦
          let here : place ≡ position_or_len (eqb number) numbers = grind (arith, nat_tests) in (
            subst (IsAt number numbers) (sym here) (found_at number numbers less),
            omega (arith, here, less),
          )
      | inr more ↦
          let none : position (eqb number) numbers ≡ None = grind (arith, nat_tests) in
          absurd (let no : Some place ≡ None = sym is ∙ none in cc)
    ]

-- where it found nothing, the number is not open, and nothing is removed
pub none_found : (number : ℕ) (numbers : List ℕ) → position (eqb number) numbers ≡ None
    → (is_open number numbers ≡ false) × (numbers ≡ without number numbers)
none_found number numbers is =
    elim (cases_lt (position_or_len (eqb number) numbers) (length numbers)) [
      | inl less ↦
          let some : position (eqb number) numbers ≡ Some (position_or_len (eqb number) numbers) =
          grind (arith, nat_tests) in
          absurd (let no : Some (position_or_len (eqb number) numbers) ≡ None = sym some ∙ is in cc)
      | inr more ↦ not_found number numbers more
    ]

-- without a number, a list has no other elements, and is no longer
pub readable_without : (floor committed number : ℕ) (numbers : List ℕ)
    → AreReadable floor committed numbers → AreReadable floor committed (without number numbers)
readable_without floor committed number numbers all = record {
  each = all_without (IsReadable floor committed) number numbers all.each;
  few = let less = length-without number numbers in let few = all.few in omega (arith, less, few);
}
  where
    all_without : (P : ℕ → Type 0) (s : ℕ) (l : List ℕ) → All P l → All P (without s l)
    all_without P s [] each = each
    all_without P s (first ∷ l) each = elim (eqb s first) as
        (λ same. All P (cond same l (first ∷ without s l))) [
          | true ↦ All-tail P first l each
          | false ↦ All-cons P first (without s l) (each 0 first (omega arith))
              (all_without P s l (All-tail P first l each))
        ]

    length-without : (s : ℕ) (l : List ℕ) → length (without s l) ≤ length l
    length-without s [] = omega arith
    length-without s (first ∷ l) = elim (eqb s first) as
        (λ same. length (cond same l (first ∷ without s l)) ≤ length (first ∷ l)) [
          | true ↦ omega arith
          | false ↦ let less = length-without s l in omega (arith, less)
        ]
