-- The place of a key and number in a sorted list.
use Rattle.std.proofs.Common.{◌≡◌, inl, inr, ◌<◌, ◌≤◌, ℕ, Bool, true, false, refl, sym, ◌∙◌}
use Rattle.std.proofs.Common.{ap, subst}
use Rattle.std.proofs.Common.{List, length, get_or, IsTrue, arith}
use Rattle.std.specs.List.Sorted.{IsPartitionedBy, IsPartitionPoint}
use Rattle.std.specs.Ordering.{is_lt}
use Rattle.std.specs.declared.cmp.Ordering.TheVariants.{Less}
use Rattle.std.proofs.lemmas.Option.{slice_get_cases, slice_get-get_or}
use Rattle.merge_iter.specs.declared.direction.Direction.TheVariants.{Forward}
use Rattle.merge_iter.specs.declared.owned_entry.OwnedEntry.{OwnedEntry}
use Rattle.kv_types.specs.{Entry}
use Rattle.merge_iter.specs.Order.{entry_cmp, EntryPrecedes}
use Rattle.merge_iter.specs.Positions.{On, IsFirst}
use Rattle.merge_iter.specs.ListEntries.{entry_of, position_of, position_at, ListHolds}
use Rattle.merge_iter.specs.ListEntries.{IsSortedList}
use Rattle.merge_iter.specs.EntryOrder.{chain}
use Rattle.merge_iter.specs.OrderLemmas.{less_iff}
use Rattle.merge_iter.specs.ListPlacesLemmas.{apart, on_within, read_at, seek_of}

-- whether the entry comes before the place
abbrev pub is_early : Entry → OwnedEntry → Bool
is_early place e = is_lt (entry_cmp (entry_of e) place)

early_less : (place : Entry) (e : OwnedEntry) → is_early place e ≡ true
    → entry_cmp (entry_of e) place ≡ Less
early_less place e h = (less_iff (entry_cmp (entry_of e) place)).0 (subst IsTrue (sym h) refl)

less_early : (place : Entry) (e : OwnedEntry) → entry_cmp (entry_of e) place ≡ Less
    → is_early place e ≡ true
less_early place e h = ap is_lt h

-- an element within the list
stands : (xs : List OwnedEntry) (i : ℕ) (d : OwnedEntry) → i < length xs
    → position_at xs i ≡ On (entry_of (get_or xs i d))
stands xs i d w = ap position_of (slice_get-get_or xs i d w)

pub partitioned : (xs : List OwnedEntry) (place : Entry) → IsSortedList xs
    → IsPartitionedBy (is_early place) xs
partitioned xs place rising i j d le w early = elim (apart i j) [
  | inl lt ↦ less_early place (get_or xs i d) (chain Forward (entry_of (get_or xs i d))
      (entry_of (get_or xs j d)) place
      (rising i j _ _ lt (stands xs i d (omega (arith, lt, w))) (stands xs j d w))
      (early_less place (get_or xs j d) early))
  | inr m ↦ elim m [
    | inl e ↦ subst (λ k. is_early place (get_or xs k d) ≡ true) (sym e) early
    | inr gt ↦ absurd (omega (arith, gt, le))
  ]
]

-- the element of the list whose entry stands at a place
found_at : (xs : List OwnedEntry) (k : ℕ) (entry : Entry) → position_at xs k ≡ On entry
    → (x : OwnedEntry) × (entry ≡ entry_of x) × (get_or xs k x ≡ x)
found_at xs k entry on = elim (slice_get_cases xs k).1 [
  | inl (x, w, is, at) ↦ (x, read_at xs k x entry w (sym at) on, at)
  | inr (past, is) ↦ absurd (let w = on_within xs k entry on in omega (arith, past, w))
]

-- place n of the list has the first entry that does not come before the place
abbrev pub IsSought : List OwnedEntry → Entry → ℕ → Type 0
IsSought xs place n =
    IsFirst Forward
    (λ entry. ListHolds xs entry × (EntryPrecedes Forward entry place → ⊥)) (position_at xs n)

pub sought : (xs : List OwnedEntry) (place : Entry) (n : ℕ) → IsSortedList xs → n ≤ length xs
    → IsPartitionPoint (λ e. is_early place e ≡ true) (λ e. is_early place e ≡ false) xs n
    → IsSought xs place n
sought xs place n rising within point =
    seek_of xs n place rising within
    (λ k entry lt on.
    let it = found_at xs k entry on in
    subst (λ r. EntryPrecedes Forward r place) (sym it.1)
    (early_less place it.0 (subst (λ y. is_early place y ≡ true) it.2
    (point.0 k it.0 (omega arith) lt))))
    (λ entry on early.
    let it = found_at xs n entry on in
    let late : is_early place it.0 ≡ false =
    subst (λ y. is_early place y ≡ false) it.2
    (point.1 n it.0 (omega arith) (on_within xs n entry on)) in
    let comes : is_early place it.0 ≡ true =
    less_early place it.0 (subst (λ r. EntryPrecedes Forward r place) it.1 early) in
    let both : true ≡ false = sym comes ∙ late in
    cc)
