-- Standing at the first or last of some places of a rising list.
use Rattle.std.proofs.Common.{◌≡◌, ◌<◌, ◌≤◌, ◌+◌, ℕ, ◌⊎◌, inl, inr, refl, sym, ◌∙◌, ap, subst, List}
use Rattle.std.proofs.Common.{length, get_or, Ok, arith}
use Rattle.std.proofs.lemmas.Option.{slice_get_cases, slice_get_read}
use Rattle.merge_iter.specs.declared.direction.Direction.{Direction}
use Rattle.merge_iter.specs.declared.direction.Direction.TheVariants.{Forward, Backward}
use Rattle.merge_iter.specs.declared.owned_entry.OwnedEntry.{OwnedEntry}
use Rattle.kv_types.specs.{Entry}
use Rattle.merge_iter.specs.Order.{EntryPrecedes}
use Rattle.merge_iter.specs.Positions.{Position, On, Off, IsFirst, IfOn, After}
use Rattle.merge_iter.specs.ListEntries.{entry_of, position_of, position_at, ListHolds}
use Rattle.merge_iter.specs.ListEntries.{IsSortedList}
use Rattle.merge_iter.specs.Moves.{MoveFinds}
use Rattle.merge_iter.specs.EntryOrder.{never, not_both}

-- place i comes before place j on a walk
abbrev pub Earlier : Direction → ℕ → ℕ → Type 0
Earlier Forward i j = i < j
Earlier Backward i j = j < i

-- one of two numbers is less, or they are equal
pub apart : (i j : ℕ) → (i < j) ⊎ ((i ≡ j) ⊎ (j < i))
apart i j = grind arith

-- an earlier place of a sorted list has the earlier entry
pub in_turn : (way : Direction) (xs : List OwnedEntry) (i j : ℕ) (a b : Entry) → IsSortedList xs
    → Earlier way i j → position_at xs i ≡ On a → position_at xs j ≡ On b → EntryPrecedes way a b
in_turn Forward xs i j a b rising e p q = rising i j a b e p q
in_turn Backward xs i j a b rising e p q = rising j i b a e q p

-- of two places one is earlier in a direction, or they are equal
pub turned : (way : Direction) (i j : ℕ) → Earlier way i j ⊎ ((i ≡ j) ⊎ Earlier way j i)
turned Forward i j = apart i j
turned Backward i j =
    elim (apart j i) [
      | inl h ↦ inl h
      | inr k ↦ elim k [
        | inl e ↦ inr (inl (sym e))
        | inr l ↦ inr
            (inr l)
      ]
    ]

same_row : (xs : List OwnedEntry) (i j : ℕ) (a b : Entry) → i ≡ j → position_at xs i ≡ On a
    → position_at xs j ≡ On b → a ≡ b
same_row xs i j a b e p q = let h : On a ≡ On b = sym p ∙ (ap (position_at xs) e ∙ q) in cc

-- of two entries of a rising list, the one that comes first stands earlier
pub earlier : (way : Direction) (xs : List OwnedEntry) (i j : ℕ) (a b : Entry) → IsSortedList xs
    → position_at xs i ≡ On a → position_at xs j ≡ On b → EntryPrecedes way a b → Earlier way i j
earlier way xs i j a b rising p q h =
    elim (turned way i j) [
      | inl k ↦ k
      | inr k ↦ elim k [
        | inl e ↦ absurd (never way b (subst (λ x. EntryPrecedes way x b)
            (same_row xs i j a b e p q) h))
        | inr l ↦ absurd (not_both way a b h (in_turn way xs j i b a rising l q p))
      ]
    ]

-- where there is no entry, a cursor on none stands on the first
pub off_empty : (way : Direction) (P : Entry → Type 0) (s : Position) → s ≡ Off
    → ((entry : Entry) → P entry → ⊥) → IsFirst way P s
off_empty way P s e none = subst (λ x. IsFirst way P x) (sym e) none

-- an entry that none precedes is the first
pub on_first : (way : Direction) (P : Entry → Type 0) (s : Position) (entry : Entry) → s ≡ On entry
    → P entry → ((other : Entry) → P other → EntryPrecedes way other entry → ⊥) → IsFirst way P s
on_first way P s entry e p least = subst (λ x. IsFirst way P x) (sym e) (p, least)

-- the place n is the first of those with P, or there is none
pub stands_first : (way : Direction) (xs : List OwnedEntry) (P : Entry → Type 0) (n : ℕ)
    → IsSortedList xs
    → ((entry : Entry) → position_at xs n ≡ On entry → P entry)
    → ((entry : Entry) → P entry → (i : ℕ) × (n < length xs) × (Earlier way i n → ⊥)
    × (position_at xs i ≡ On entry))
    → IsFirst way P (position_at xs n)
stands_first way xs P n rising here among =
    elim (slice_get_cases xs n).1 [
      | inl (e, within, is, at) ↦
          let s : position_at xs n ≡ On (entry_of e) = ap position_of is in
          on_first way P (position_at xs n) (entry_of e) s (here (entry_of e) s)
          (λ other p precedes. let a = among other p in
          a.2 (earlier way xs a.0 n other (entry_of e) rising a.3 s precedes))
      | inr (past, is) ↦
          off_empty way P (position_at xs n) (ap position_of is) (λ entry p. let a =
          among entry p in let h : n < length xs = a.1 in omega arith)
    ]

-- an entry stands within the list
pub on_within : (xs : List OwnedEntry) (i : ℕ) (entry : Entry) → position_at xs i ≡ On entry
    → i < length xs
on_within xs i entry e =
    elim (slice_get_cases xs i).1 [
      | inl (x, within, is, at) ↦ within
      | inr (past, is) ↦ let h : Off ≡ On entry = sym (ap position_of is) ∙ e in cc
    ]

-- an entry that is not before a place needs a list that is longer
pub at_least : (xs : List OwnedEntry) (i n : ℕ) (entry : Entry) → position_at xs i ≡ On entry
    → (i < n → ⊥) → n < length xs
at_least xs i n entry e late = let w : i < length xs = on_within xs i entry e in grind arith

-- the least place
pub first_of : (xs : List OwnedEntry) → IsSortedList xs → IsFirst Forward
    (λ entry. ListHolds xs entry × Unit {0}) (position_at xs 0)
first_of xs rising = stands_first Forward xs (λ entry. ListHolds xs entry × Unit {0}) 0 rising
    (λ entry e. ((0, e), tt))
    (λ entry p. (
      p.0.0,
      at_least xs p.0.0 0 entry p.0.1 (λ h. omega arith),
      (λ h. omega arith),
      p.0.1,
    ))

-- the greatest place
pub last_found : (xs : List OwnedEntry) (n : ℕ) → IsSortedList xs
    → ((length xs ≡ 0) ⊎ (n + 1 ≡ length xs)) → IsFirst Backward (λ entry. ListHolds xs entry
    × Unit {0}) (position_at xs n)
last_found xs n rising end =
    stands_first Backward xs (λ entry. ListHolds xs entry × Unit {0}) n rising
    (λ entry e. ((n, e), tt))
    (λ entry p. let i = p.0.0 in let w : i < length xs = on_within xs i entry p.0.1 in
    let t : n + 1 ≡ length xs = grind arith in
    (i, omega arith, (λ h. let k : n < i = h in omega arith), p.0.1))

-- a step from place n to place m, with no place between
pub step_of : (way : Direction) (xs : List OwnedEntry) (n m : ℕ) (entry : Entry) → IsSortedList xs
    → position_at xs n ≡ On entry
    → ((i : ℕ) → i < length xs → Earlier way n i → (m < length xs) × (Earlier way i m → ⊥))
    → (m < length xs → Earlier way n m)
    → IsFirst way (λ other. ListHolds xs other × EntryPrecedes way entry other) (position_at xs m)
step_of way xs n m entry rising e next after =
    stands_first way xs (λ other. ListHolds xs other × EntryPrecedes way entry other) m rising
    (λ other is. (
      (m, is),
      in_turn way xs n m entry other rising (after (on_within xs m other is)) e
          is,
    ))
    (λ other p. let i = p.0.0 in
    let w : i < length xs = on_within xs i other p.0.1 in
    let t = next i w (earlier way xs n i entry other rising e p.0.1 p.1) in
    (i, t.0, t.1, p.0.1))

-- the same from wherever the cursor stands
pub steps_of : (way : Direction) (xs : List OwnedEntry) (n m : ℕ) → IsSortedList xs
    → (n < length xs → ((i : ℕ) → i < length xs → Earlier way n i → (m < length xs)
    × (Earlier way i m → ⊥)) × (m < length xs → Earlier way n m))
    → IfOn (position_at xs n) (λ entry. MoveFinds {R = Unit {0}} way (After entry) (ListHolds xs)
    (Ok tt) (position_at xs m))
steps_of way xs n m rising facts =
    elim (slice_get_cases xs n).1 [
      | inl (x, within, is, at) ↦
          let s : position_at xs n ≡ On (entry_of x) = ap position_of is in
          let f = facts within in
          subst (λ v. IfOn v (λ entry. MoveFinds {R = Unit {0}} way (After entry) (ListHolds xs)
          (Ok tt) (position_at xs m))) (sym s) (step_of way xs n m (entry_of x) rising s f.0
          f.1)
      | inr (past, is) ↦
          let s : position_at xs n ≡ Off = ap position_of is in
          subst (λ v. IfOn v (λ entry. MoveFinds {R = Unit {0}} way (After entry) (ListHolds xs)
          (Ok tt) (position_at xs m))) (sym s) tt
    ]

-- the first place at which the entries before the spot end
pub seek_of : (xs : List OwnedEntry) (n : ℕ) (spot : Entry) → IsSortedList xs → n ≤ length xs
    → ((k : ℕ) (entry : Entry) → k < n → position_at xs k ≡ On entry → EntryPrecedes Forward entry
    spot)
    → ((entry : Entry) → position_at xs n ≡ On entry → EntryPrecedes Forward entry spot → ⊥)
    → IsFirst Forward (λ entry. ListHolds xs entry × (EntryPrecedes Forward entry spot → ⊥))
    (position_at xs n)
seek_of xs n spot rising most before here =
    stands_first Forward xs (λ entry. ListHolds xs entry × (EntryPrecedes Forward entry spot → ⊥)) n
    rising
    (λ entry e. ((n, e), here entry e))
    (λ entry p. (
      p.0.0,
      at_least xs p.0.0 n entry p.0.1 (λ h. p.1 (before p.0.0 entry h p.0.1)),
      (λ h. p.1 (before p.0.0 entry h p.0.1)),
      p.0.1,
    ))

-- an entry read at a place is the entry that stands there
pub read_at : (xs : List OwnedEntry) (i : ℕ) (x : OwnedEntry) (entry : Entry) → i < length xs
    → x ≡ get_or xs i x → position_at xs i ≡ On entry → entry ≡ entry_of x
read_at xs i x entry w e s = let h : On entry ≡ On (entry_of x) = sym s ∙ ap position_of
    (slice_get_read xs (length xs) i x refl w e) in cc

-- what holds before a place and at it holds up to it
pub upto : (xs : List OwnedEntry) (i : ℕ) (P : Entry → Type 0) → ((k : ℕ) (entry : Entry) → k < i
    → position_at xs k ≡ On entry → P entry) → ((entry : Entry) → position_at xs i ≡ On entry
    → P entry) → (k : ℕ) (entry : Entry) → k < i + 1 → position_at xs k ≡ On entry → P entry
upto xs i P before here k entry h s =
    elim (apart k i) [
      | inl l ↦ before k entry l s
      | inr m ↦ elim m [
        | inl e ↦ here entry (subst (λ v. position_at xs v ≡ On entry) e s)
        | inr g ↦
            absurd (omega arith)
      ]
    ]
