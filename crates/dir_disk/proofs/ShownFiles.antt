-- The files that are shown of a disk: the list of its files without those that were removed.
use Rattle.std.proofs.Common.{◌≡◌, ℕ, List, Bool, true, false, refl, inl, inr, arith}
use Rattle.std.specs.Prelude.{Contains, IsSome, None, cond, filter, not}
use Rattle.std.proofs.lemmas.List.Elements.{All-contains, All-contains_itself, All-filter}
use Rattle.std.proofs.lemmas.List.Elements.{Contains-append_cases, filter_passes}
use Rattle.std.proofs.lemmas.List.Kept.{IsStrictlyIncreasing-filter}
use Rattle.std.proofs.lemmas.List.Sorted.{Contains-permutation, IsPermutation-filter_both}
use Rattle.disk.specs.{Absent, Slot, State, seen}
use Rattle.disk.specs.Calls.{ListsFiles}
use Rattle.dir_disk.specs.Disks.{is_left_out, shown_state}

-- the test of a file that was not removed
abbrev pub is_shown : List ℕ → ℕ → Bool
is_shown removed file = not (is_left_out removed file)

-- a number that passes is kept
kept_by : (test : ℕ → Bool) (numbers : List ℕ) (x : ℕ) → Contains numbers x → test x ≡ true
    → Contains (filter test numbers) x
kept_by test numbers x has passes =
    let all = Contains-permutation numbers _ x
    (IsPermutation-filter_both test (λ y. not (test y)) (λ _. refl) numbers) has in
    elim (Contains-append_cases (filter test numbers) (filter (λ y. not (test y)) numbers) x all) [
      | inl here ↦ here
      | inr there ↦
          let other : not (test x) ≡ true = All-contains (λ y. not (test y) ≡ true) _ x
          (filter_passes (λ y. not (test y)) numbers) there in absurd (grind (arith, other, passes))
    ]

-- what is kept was there
was_there : (test : ℕ → Bool) (numbers : List ℕ) (x : ℕ) → Contains (filter test numbers) x
    → Contains numbers x
was_there test numbers x =
    All-contains (Contains numbers) (filter test numbers) x
    (All-filter test (Contains numbers) numbers (All-contains_itself numbers))

-- what is kept passes
passes_test : (test : ℕ → Bool) (numbers : List ℕ) (x : ℕ) → Contains (filter test numbers) x
    → test x ≡ true
passes_test test numbers x =
    All-contains (λ y. test y ≡ true) (filter test numbers) x (filter_passes test numbers)

-- a slot that is shown is that of no file which was removed, and has a file
shown_slot : (removed : Bool) (slot : Slot) → IsSome (seen (cond removed (Absent None) slot))
    → (not removed ≡ true) × IsSome (seen slot)
shown_slot true slot there = absurd (grind (arith, there))
shown_slot false slot there = (refl, there)

-- the slot of a file that was not removed is shown
slot_shown : (removed : Bool) (slot : Slot) → not removed ≡ true → IsSome (seen slot)
    → IsSome (seen (cond removed (Absent None) slot))
slot_shown true slot stays there = absurd (grind (arith, stays))
slot_shown false slot stays there = there

-- the numbers that are kept are those of the files that are shown
pub lists_shown : (removed : List ℕ) (disk : State) (numbers : List ℕ) → ListsFiles disk numbers
    → ListsFiles (shown_state removed disk) (filter (is_shown removed) numbers)
lists_shown removed disk numbers lists = record {
  rising = IsStrictlyIncreasing-filter (is_shown removed) numbers lists.rising;
  exact = λ file. (
    λ has. slot_shown (is_left_out removed file) (disk file)
        (passes_test (is_shown removed) numbers file has)
        ((lists.exact file).0 (was_there (is_shown removed) numbers file has)),
    λ there.
        let shown = shown_slot (is_left_out removed file) (disk file) there in
        kept_by (is_shown removed) numbers file ((lists.exact file).1 shown.1) shown.0,
  );
}
