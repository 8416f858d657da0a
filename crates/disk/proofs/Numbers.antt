-- The numbers of the files that are there.
use Rattle.std.proofs.Common.{◌≡◌, ◌≢◌, ◌⊎◌, ℕ, zero, suc, List, [], ◌∷◌}
use Rattle.std.proofs.Common.{Bool, true, false, refl, sym, ap, subst, ◌∙◌, inl, inr, eq-eqb, arith}
use Rattle.std.specs.Prelude.{Contains, IsSome, is_some, if◌then◌else◌, filter, Option, Some, None}
use Rattle.std.specs.List.{AllByRecursion}
use Rattle.std.specs.List.Sorted.{IsStrictlySortedBy}
use Rattle.std.specs.declared.cmp.Ordering.TheVariants.{Less, Greater}
use Rattle.std.specs.BTreeMap.{insert_entry}
use Rattle.std.specs.Cmp.{nat_cmp_is}
use Rattle.std.proofs.Common.{◌++◌}
use Rattle.std.specs.Ordering.{nat_cmp}
use Rattle.std.specs.Map.{keys_of, lookup}
use Rattle.std.specs.BTreeMap.{is_at}
use Rattle.std.specs.Cmp.{unsigned_tied}
use Rattle.std.proofs.lemmas.Bool.{cases_eq}
use Rattle.std.proofs.lemmas.Bool.Decides.{nat_tests}
use Rattle.std.proofs.lemmas.Map.Keys.{IsStrictlyIncreasing-from_sorted}
use Rattle.std.proofs.Common.{map}
use Rattle.std.specs.Option.{option_map}
use Rattle.std.proofs.lemmas.Map.Made.{lookup-map_values}
use Rattle.disk.specs.States.{Slot, Absent, seen}
use Rattle.disk.specs.Calls.{ListsFiles}
use Rattle.disk.specs.Memory.{state_of, slot_found}

-- the numbers of the files that are there
abbrev pub numbers_of : List (ℕ × Slot) → List ℕ
numbers_of [] = []
numbers_of (one ∷ others) =
    if is_some (seen one.1) then one.0 ∷ numbers_of others else numbers_of others

-- ---- one slot before the others

-- a number is found at itself
is_at_here : (file k : ℕ) → file ≡ k → is_at (nat_cmp file) k ≡ true
is_at_here file k is = unsigned_tied file k ∙ eq-eqb file k is

-- a number is not found at another
is_at_apart : (file k : ℕ) → file ≢ k → is_at (nat_cmp file) k ≡ false
is_at_apart file k apart = unsigned_tied file k ∙ grind (arith, nat_tests)

-- the slot is under its own number
state_of_here : (one : ℕ × Slot) (others : List (ℕ × Slot)) (file : ℕ) → file ≡ one.0
    → state_of (one ∷ others) file ≡ one.1
state_of_here one others file is = rw (is_at_here file one.0 is) refl

-- the other slots are under the other numbers
state_of_others : (one : ℕ × Slot) (others : List (ℕ × Slot)) (file : ℕ) → file ≢ one.0
    → state_of (one ∷ others) file ≡ state_of others file
state_of_others one others file apart = rw (is_at_apart file one.0 apart) refl

-- an element behind the first
contains_later : (x y : ℕ) (xs : List ℕ) → Contains xs y → Contains (x ∷ xs) y
contains_later x y xs c = (suc c.0, omega (arith, c.1), c.2)

-- the first, or one behind it
contains_cases : (x y : ℕ) (xs : List ℕ) → Contains (x ∷ xs) y → (x ≡ y) ⊎ Contains xs y
contains_cases x y xs (zero, lt, is) = inl is
contains_cases x y xs (suc k, lt, is) = inr (k, omega (arith, lt), is)

-- ---- they rise

-- a number below all is below those of the existing files
below_numbers : (k : ℕ) (slots : List (ℕ × Slot))
    → AllByRecursion (λ y. nat_cmp k y ≡ Less) (keys_of slots)
    → AllByRecursion (λ y. nat_cmp k y ≡ Less) (numbers_of slots)
below_numbers k [] below = tt
below_numbers k (one ∷ others) below =
    elim (is_some (seen one.1)) as (λ b. AllByRecursion (λ y. nat_cmp k y ≡ Less)
    (if b then one.0 ∷ numbers_of others else numbers_of others)) [
      | true ↦ (below.0, below_numbers k others below.1)
      | false ↦ below_numbers k others below.1
    ]

-- the numbers of the files that are there rise as all do
sorted_numbers : (slots : List (ℕ × Slot)) → IsStrictlySortedBy nat_cmp (keys_of slots)
    → IsStrictlySortedBy nat_cmp (numbers_of slots)
unfolding IsStrictlySortedBy
sorted_numbers [] sorted = tt
sorted_numbers (one ∷ others) sorted =
    elim (is_some (seen one.1)) as (λ b. IsStrictlySortedBy nat_cmp
    (if b then one.0 ∷ numbers_of others else numbers_of others)) [
      | true ↦ (below_numbers one.0 others sorted.0, sorted_numbers others sorted.1)
      | false ↦ sorted_numbers others sorted.1
    ]

-- ---- they are exact

-- a number above all of these is none of them
apart_from : (k file : ℕ) (xs : List ℕ) → AllByRecursion (λ y. nat_cmp k y ≡ Less) xs
    → Contains xs file → file ≢ k
apart_from k file [] below c = absurd (omega (arith, c.1))
apart_from k file (x ∷ xs) below c = elim (contains_cases x file xs c) [
  | inl here ↦ λ is. absurd (grind (arith, nat_tests, below.0))
  | inr later ↦ apart_from k file xs below.1 later
]

-- `is_there` for one slot before the others
there_at : (b : Bool) (one : ℕ × Slot) (others : List (ℕ × Slot)) (file : ℕ)
    → is_some (seen one.1) ≡ b → (Contains (numbers_of others) file → file ≢ one.0)
    → (Contains (numbers_of others) file → IsSome (seen (state_of others file)))
    → Contains (if b then one.0 ∷ numbers_of others else numbers_of others) file
    → IsSome (seen (state_of (one ∷ others) file))
there_at true one others file is apart rest c =
    elim (contains_cases one.0 file (numbers_of others) c) [
      | inl here ↦ subst (λ (s : Slot). IsSome (seen s))
          (sym (state_of_here one others file (sym here))) is
      | inr later ↦ subst (λ (s : Slot). IsSome (seen s))
          (sym (state_of_others one others file (apart later))) (rest later)
    ]
there_at false one others file is apart rest c =
    subst (λ (s : Slot). IsSome (seen s)) (sym (state_of_others one others file (apart c))) (rest c)

-- each listed file exists
is_there : (file : ℕ) (slots : List (ℕ × Slot)) → IsStrictlySortedBy nat_cmp (keys_of slots)
    → Contains (numbers_of slots) file → IsSome (seen (state_of slots file))
unfolding IsStrictlySortedBy
is_there file [] sorted c = absurd (omega (arith, c.1))
is_there file (one ∷ others) sorted c =
    there_at (is_some (seen one.1)) one others file refl
    (apart_from one.0 file (numbers_of others) (below_numbers one.0 others sorted.0))
    (is_there file others sorted.1) c

-- `is_listed` for one slot before the others
listed_at : (b : Bool) (one : ℕ × Slot) (others : List (ℕ × Slot)) (file : ℕ)
    → is_some (seen one.1) ≡ b
    → (IsSome (seen (state_of others file)) → Contains (numbers_of others) file)
    → IsSome (seen (state_of (one ∷ others) file))
    → (file ≡ one.0) ⊎ (file ≢ one.0)
    → Contains (if b then one.0 ∷ numbers_of others else numbers_of others) file
listed_at true one others file is rest there (inl here) = (0, omega arith, sym here)
listed_at true one others file is rest there (inr apart) =
    contains_later one.0 file (numbers_of others)
    (rest (subst (λ (s : Slot). IsSome (seen s)) (state_of_others one others file apart) there))
listed_at false one others file is rest there (inl here) =
    let some : is_some (seen one.1) ≡ true =
    subst (λ (s : Slot). IsSome (seen s)) (state_of_here one others file here) there in
    absurd cc
listed_at false one others file is rest there (inr apart) =
    rest (subst (λ (s : Slot). IsSome (seen s)) (state_of_others one others file apart) there)

-- each existing file is listed
is_listed : (file : ℕ) (slots : List (ℕ × Slot)) → IsSome (seen (state_of slots file))
    → Contains (numbers_of slots) file
is_listed file [] there = absurd cc
is_listed file (one ∷ others) there =
    listed_at (is_some (seen one.1)) one others file refl (is_listed file others) there
    (cases_eq file one.0)

-- the numbers are those of the files that are there, rising
pub lists_numbers : (slots : List (ℕ × Slot)) → IsStrictlySortedBy nat_cmp (keys_of slots)
    → ListsFiles (state_of slots) (numbers_of slots)
lists_numbers slots sorted = record {
  rising = IsStrictlyIncreasing-from_sorted (numbers_of slots) (sorted_numbers slots sorted);
  exact = λ file. (is_there file slots sorted, is_listed file slots);
}

-- what is done to each slot is done under each number, if it leaves nothing where nothing was
pub state_of-map : (g : Slot → Slot) (slots : List (ℕ × Slot)) (file : ℕ)
    → g (Absent None) ≡ Absent None
    → state_of (map (λ e. (e.0, g e.1)) slots) file ≡ g (state_of slots file)
state_of-map g slots file none =
    ap slot_found (lookup-map_values g (is_at (nat_cmp file)) slots)
    ∙ found-map (lookup (is_at (nat_cmp file)) slots)
  where
    found-map : (found : Option Slot) → slot_found (option_map g found) ≡ g (slot_found found)
    found-map None = sym none
    found-map (Some slot) = refl

-- a number above all others goes to the end
pub insert_entry-last : (passed rest : List (ℕ × Slot)) (number : ℕ) (slot : Slot)
    → IsStrictlySortedBy nat_cmp (keys_of (passed ++ (number, slot) ∷ rest))
    → insert_entry nat_cmp passed number slot ≡ passed ++ (number, slot) ∷ []
unfolding IsStrictlySortedBy
insert_entry-last [] rest number slot sorted = refl
insert_entry-last (one ∷ passed) rest number slot sorted =
    rw (greater one.0 number (above passed rest number slot one.0 sorted.0))
    (ap (λ (others : List (ℕ × Slot)). one ∷ others)
    (insert_entry-last passed rest number slot sorted.1))
  where
    greater : (k number : ℕ) → nat_cmp k number ≡ Less → nat_cmp number k ≡ Greater
    greater k number less = sym (nat_cmp_is number k Greater (grind (arith, nat_tests)))

    above : (passed rest : List (ℕ × Slot)) (number : ℕ) (slot : Slot) (k : ℕ)
        → AllByRecursion (λ y. nat_cmp k y ≡ Less) (keys_of (passed ++ (number, slot) ∷ rest))
        → nat_cmp k number ≡ Less
    above [] rest number slot k all = all.0
    above (one ∷ passed) rest number slot k all = above passed rest number slot k all.1

-- ---- without the slots that hold no file

-- there is no slot under a number below all others
nothing_below : (k file : ℕ) (slots : List (ℕ × Slot)) → file ≡ k
    → AllByRecursion (λ y. nat_cmp k y ≡ Less) (keys_of slots) → state_of slots file ≡ Absent None
nothing_below k file [] is above = refl
nothing_below k file (one ∷ others) is above =
    state_of_others one others file (λ here. absurd (grind (arith, nat_tests, above.0)))
    ∙ nothing_below k file others is above.1

-- a slot that holds no file says as little as none
abbrev pub SaysNothing : ℕ × Slot → Type 0
SaysNothing one = is_some (seen one.1) ≡ false → one.1 ≡ Absent None

-- `state_of-filter` for one slot before the others
filter_at : (b : Bool) (one : ℕ × Slot) (others rest : List (ℕ × Slot)) (file : ℕ)
    → is_some (seen one.1) ≡ b → SaysNothing one
    → (file ≡ one.0 → state_of others file ≡ Absent None)
    → state_of rest file ≡ state_of others file
    → (file ≡ one.0) ⊎ (file ≢ one.0)
    → state_of (if b then one ∷ rest else rest) file ≡ state_of (one ∷ others) file
filter_at true one others rest file is says below same (inl here) =
    state_of_here one rest file here ∙ sym (state_of_here one others file here)
filter_at true one others rest file is says below same (inr apart) =
    state_of_others one rest file apart ∙ same ∙ sym (state_of_others one others file apart)
filter_at false one others rest file is says below same (inl here) =
    same ∙ below here ∙ sym (state_of_here one others file here ∙ says is)
filter_at false one others rest file is says below same (inr apart) =
    same ∙ sym (state_of_others one others file apart)

-- so they can go
pub state_of-filter : (slots : List (ℕ × Slot)) (file : ℕ)
    → IsStrictlySortedBy nat_cmp (keys_of slots) → AllByRecursion SaysNothing slots
    → state_of (filter (λ one. is_some (seen one.1)) slots) file ≡ state_of slots file
unfolding IsStrictlySortedBy
state_of-filter [] file sorted says = refl
state_of-filter (one ∷ others) file sorted says =
    filter_at (is_some (seen one.1)) one others (filter (λ e. is_some (seen e.1)) others) file refl
    says.0 (λ here. nothing_below one.0 file others here sorted.0)
    (state_of-filter others file sorted.1 says.1) (cases_eq file one.0)
