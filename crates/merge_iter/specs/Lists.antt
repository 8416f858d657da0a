-- A list in memory keeps what every cursor keeps.
use Rattle.std.proofs.Common.{◌≡◌, ℕ, ◌⊎◌, inl, inr, ◌<◌, ◌≤◌, ◌+◌, sym, ap, ◌∙◌, arith, List}
use Rattle.std.proofs.Common.{length, Bool, true, false, nat_lt, if◌then◌else◌}
use Rattle.std.proofs.Common.{refl, Option, Some, None}
use Rattle.std.specs.List.{slice_get}
use Rattle.std.specs.declared.cmp.Ordering.TheVariants.{Less, Equal}
use Rattle.merge_iter.specs.declared.direction.Direction.{Direction}
use Rattle.merge_iter.specs.declared.direction.Direction.TheVariants.{Forward, Backward}
use Rattle.merge_iter.specs.declared.owned_entry.OwnedEntry.{OwnedEntry}
use Rattle.merge_iter.specs.declared.list.ListCursor.{ListCursor}
use Rattle.merge_iter.specs.Order.{IsApart}
use Rattle.merge_iter.specs.Positions.{On, IfOn}
use Rattle.merge_iter.specs.TableEntries.{IsTableEntry}
use Rattle.merge_iter.specs.ListEntries.{position_at, position_of, ListHolds, IsSortedList}
use Rattle.merge_iter.specs.ListEntries.{entries_left}
use Rattle.merge_iter.specs.Moves.{AreCursorLaws}
use Rattle.merge_iter.specs.EntryOrder.{never, same_right, equal_back}
use Rattle.std.proofs.lemmas.Bool.{ltb-true}

places : (i j : ℕ) → (i < j) ⊎ ((i ≡ j) ⊎ (j < i))
places i j = grind arith

-- entries of one key and number stand at one place
pub one_place : (xs : List OwnedEntry) → IsSortedList xs → IsApart (ListHolds xs)
one_place xs rising a b p q e = elim (places p.0 q.0) [
  | inl l ↦ let h : Less ≡ Equal = sym (rising p.0 q.0 a b l p.1 q.1) ∙ e in cc
  | inr m ↦ elim m [
    | inl s ↦ let h : On a ≡ On b = sym p.1 ∙ (ap (position_at xs) s ∙ q.1) in cc
    | inr l ↦ absurd (never Backward a (same_right Backward a b a (equal_back a b e)
        (rising q.0 p.0 b a l q.1 p.1)))
  ]
]

behind_if : (at len : ℕ) (b : Bool) → nat_lt at len ≡ b → (if b then at + 1 else 0) ≤ len
behind_if at len true e = let h = ltb-true at len e in omega (arith, h)
behind_if at len false e = omega arith

behind : (at len : ℕ) → (if nat_lt at len then at + 1 else 0) ≤ len
behind at len = behind_if at len (nat_lt at len) refl

-- no more steps are left than there are entries
pub left_within : (xs : List OwnedEntry) (at : ℕ) (way : Direction) → entries_left xs at way ≤
    length xs
left_within xs at Forward = omega arith
left_within xs at Backward = behind at (length xs)

-- the laws of a cursor hold of one over a list
pub list_laws : AreCursorLaws {C = ListCursor} {S = Unit {0}} {K =
    Unit {0}} (λ _. tt) (λ _ _. Unit {0})
    (λ _ c _. ListHolds c.entries.items) (λ _ c _. IsSortedList c.entries.items)
    (λ _ _ _. Unit {0}) (λ _ _. Unit {0}) (λ _ _ _. Unit {0})
    (λ c. entries_left c.entries.items c.at)
    (λ c. length c.entries.items)
list_laws = record {
  itself = λ a. tt;
  through = λ a b c h k. tt;
  makes_itself = λ a. tt;
  makes_through = λ r a b c h k. tt;
  lasts = λ m a b h k. tt;
  whole = λ a. tt;
  stays = λ m c a b h s. (s, λ entry. ((λ x. x), (λ x. x)), λ v w z. z);
  suited = λ m c a b h s. (s, λ entry. ((λ x. x), (λ x. x)), λ v w z. z);
  apart = λ m c a s. one_place c.entries.items s;
  within = λ c way. left_within c.entries.items c.at way;
}

-- an entry in memory keeps its limits
owned_fits : (e : Option OwnedEntry) → IfOn (position_of e) IsTableEntry
owned_fits None = tt
owned_fits (Some e) = e.limits

-- so does the one on which a list's cursor stands
pub list_fits : (c : ListCursor) → IfOn (position_at c.entries.items c.at) IsTableEntry
list_fits c = owned_fits (slice_get c.entries.items c.at)
