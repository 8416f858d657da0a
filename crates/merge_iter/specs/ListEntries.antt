-- A list of entries in memory as a set of entries.
use Rattle.std.specs.Prelude.{◌≡◌, ℕ, ◌+◌, ◌-◌, ◌<◌, List, length, slice_get}
use Rattle.std.specs.Prelude.{Option, Some, None, nat_lt, if◌then◌else◌}
use Rattle.std.specs.Option.{option_map}
use Rattle.std.specs.declared.cmp.Ordering.TheVariants.{Less}
use Rattle.merge_iter.specs.declared.direction.Direction.{Direction}
use Rattle.merge_iter.specs.declared.direction.Direction.TheVariants.{Forward, Backward}
use Rattle.merge_iter.specs.declared.owned_entry.OwnedEntry.{OwnedEntry}
use Rattle.kv_types.specs.{Entry}
use Rattle.merge_iter.specs.Order.{entry_cmp}
use Rattle.merge_iter.specs.Positions.{Position, On, Off}

-- an entry in memory, as a version of a key
abbrev pub entry_of : OwnedEntry → Entry
entry_of e =
    record { key = e.key; number = e.number; value = option_map (λ v. v.items) e.value }

-- the position on an entry, if there is one
abbrev pub position_of : Option OwnedEntry → Position
position_of None = Off
position_of (Some e) = On (entry_of e)

-- the position at a place of the list
abbrev pub position_at : List OwnedEntry → ℕ → Position
position_at entries i = position_of (slice_get entries i)

-- the list has the entry
abbrev pub ListHolds : List OwnedEntry → Entry → Type 0
ListHolds entries entry = (i : ℕ) × (position_at entries i ≡ On entry)

-- the entries rise along the list
abbrev pub IsSortedList : List OwnedEntry → Type 0
IsSortedList entries =
    (i j : ℕ) (a b : Entry) → i < j → position_at entries i ≡ On a → position_at entries j ≡ On b →
    entry_cmp a b ≡ Less

-- how many entries are left from a place on
abbrev pub entries_left : List OwnedEntry → ℕ → Direction → ℕ
entries_left entries at Forward = length entries - at
entries_left entries at Backward = if nat_lt at (length entries) then at + 1 else 0
