-- A cursor over a memtable keeps what every cursor keeps.
use Rattle.std.proofs.Common.{◌≡◌, ℕ, suc, ◌⊎◌, inl, inr, ◌<◌, ◌≤◌, sym, ap, ◌∙◌, subst, arith}
use Rattle.std.proofs.Common.{List, [], ◌∷◌, length, Bool, true, false, cond, Option, Some, None}
use Rattle.std.proofs.Common.{refl}
use Rattle.std.specs.Option.{ForSome}
use Rattle.std.specs.List.{slice_get}
use Rattle.std.proofs.lemmas.Option.{same_Some}
use Rattle.merge_iter.specs.declared.direction.Direction.{Direction}
use Rattle.kv_types.specs.{Entry}
use Rattle.merge_iter.specs.{IfOn, IsTableEntry, Position, On, Off, Broken, IsApart}
use Rattle.merge_iter.specs.EntryParts.{equal_parts}
use Rattle.merge_iter.specs.{AreCursorLaws}
use Rattle.memtable.specs.declared.cursor.MemCursor.{MemCursor}
use Rattle.memtable.specs.declared.place.VersionPlace.{VersionPlace}
use Rattle.memtable.specs.declared.version.Version.{Version}
use Rattle.memtable.specs.declared.version.Versions.{Versions}
use Rattle.memtable.specs.Maps.{VersionMap, MapHolds, HasRisingNumbers, versions_at, entry_version}
use Rattle.memtable.specs.Maps.{HasLimits, found, version_entry}
use Rattle.memtable.specs.Places.{IsVersionPlace, cursor_position, position_on}
use Rattle.memtable.specs.Versions.{all_of}
use Rattle.memtable.specs.Left.{map_entries, count, left_on}

one : (b : Bool) (m n : ℕ) → m ≤ n → cond b (suc m) m ≤ suc n
one true m n h = omega (arith, h)
one false m n h = omega (arith, h)

count_within : (p : Entry → Bool) (xs : List Entry) → count p xs ≤ length xs
count_within p [] = omega arith
count_within p (x ∷ xs) = one (p x) (count p xs) (length xs) (count_within p xs)

left_within : (entries : List Entry) (way : Direction) (s : Position) → left_on entries way s ≤
    length entries
left_within entries way (On here) = count_within _ entries
left_within entries way Off = omega arith
left_within entries way Broken = omega arith

sides : (i j : ℕ) → (i < j) ⊎ ((i ≡ j) ⊎ (j < i))
sides i j = grind arith

apart : (m : VersionMap) → HasRisingNumbers m → IsApart (MapHolds m)
apart m rising a b p q e =
    let parts = equal_parts a b e in
    let there = subst (λ k. slice_get (versions_at m k) p.0 ≡ Some (entry_version a)) parts.0 p.1 in
    elim (sides p.0 q.0) [
      | inl l ↦ absurd (let n = rising b.key p.0 q.0 (entry_version a) (entry_version b) l there q.1
          in let s = parts.1 in omega (arith, n, s))
      | inr h ↦ elim h [
        | inl s ↦
            let v : entry_version a ≡ entry_version b = same_Some (entry_version a)
            (entry_version b) (sym there ∙ (ap (slice_get (versions_at m b.key)) s ∙ q.1)) in
            ap (λ k. version_entry k (entry_version a)) parts.0 ∙ ap (version_entry b.key) v
        | inr l ↦ absurd (let n = rising b.key q.0 p.0 (entry_version b) (entry_version a) l q.1
            there in let s = parts.1 in omega (arith, n, s))
      ]
    ]

-- ---- the entry that it stands on

fits_on : (map : VersionMap) (place : VersionPlace) (version : Option Version) → HasLimits map
    → IsVersionPlace map place → slice_get (all_of place.versions.now) place.at ≡ version
    → IfOn (position_on place.key.now version) IsTableEntry
fits_on map place None limits is here = tt
fits_on map place (Some version) limits is here =
    limits (version_entry place.key.now version)
    (place.at, ap (λ (o : Option Versions). slice_get (found o) place.at) is.found ∙ here)

-- it keeps the limits that each entry of the map keeps
mem_fits : (map : VersionMap) (has_failed : Bool) (place : Option VersionPlace)
    → HasLimits map → ForSome place (IsVersionPlace map)
    → IfOn (cursor_position has_failed place) IsTableEntry
mem_fits map has_failed (Some place) limits placed =
    fits_on map place (slice_get (all_of place.versions.now) place.at) limits (placed place refl)
    refl
mem_fits map true None limits placed = tt
mem_fits map false None limits placed = tt

-- ---- what the cursor is as one

-- where it stands
abbrev pub mem_position : MemCursor → Position
mem_position cursor = cursor_position cursor.has_failed cursor.place

-- the entries that it goes through
abbrev pub MemCursorHolds : MemCursor → Entry → Type 0
MemCursorHolds cursor = MapHolds cursor.map.now

-- the steps that are left in a direction
abbrev pub mem_left : MemCursor → Direction → ℕ
mem_left cursor way = left_on (map_entries cursor.map.now.entries) way (mem_position cursor)

-- the steps from one end to the other
abbrev pub mem_most : MemCursor → ℕ
mem_most cursor = length (map_entries cursor.map.now.entries)

-- the laws of a cursor hold of one over a memtable
pub cursor_laws : AreCursorLaws {C = MemCursor} {S = Unit {0}} {K = Unit {0}} (λ _. tt)
    (λ _ _. Unit {0}) (λ _ c _. MemCursorHolds c) (λ _ _ _. Unit {0}) (λ _ _ _. Unit {0})
    (λ _ _. Unit {0}) (λ _ _ _. Unit {0}) mem_left mem_most
cursor_laws = record {
  itself = λ a. tt;
  through = λ a b c h k. tt;
  makes_itself = λ a. tt;
  makes_through = λ r a b c h k. tt;
  lasts = λ m a b h k. tt;
  whole = λ a. tt;
  stays = λ m c a b h s. (tt, λ entry. ((λ x. x), (λ x. x)), λ v w z. z);
  suited = λ m c a b h s. (tt, λ entry. ((λ x. x), (λ x. x)), λ v w z. z);
  apart = λ m c a s. apart c.map.now c.rising;
  within = λ c way. left_within (map_entries c.map.now.entries) way (mem_position c);
}

-- the entry on which the cursor stands keeps its limits
pub cursor_fits : (c : MemCursor) → IfOn (mem_position c) IsTableEntry
cursor_fits c = mem_fits c.map.now c.has_failed c.place c.limits c.placed
