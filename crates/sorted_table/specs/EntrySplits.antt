-- Where a place divides the entries of a block.
use Rattle.std.specs.Prelude.{◌≡◌, ℕ, ◌<◌, ◌≤◌, List, length, slice_get, Option, Some, None}
use Rattle.std.specs.Prelude.{Bool, false}
use Rattle.std.specs.Ordering.{is_lt}
use Rattle.kv_types.specs.{Entry}
use Rattle.merge_iter.specs.declared.Direction.TheVariants.{Forward}
use Rattle.merge_iter.specs.{EntryPrecedes, entry_cmp}

-- whether an entry that was read comes before the place
abbrev pub is_read_before : Option Entry → Entry → Bool
is_read_before None place = false
is_read_before (Some entry) place = is_lt (entry_cmp entry place)

-- the entries before place n of the list come before the entry, and no other ones do
pub record SplitsEntries (entries : List Entry) (place : Entry) (n : ℕ) : Type 0 where
  pub within : n ≤ length entries
  pub before : (k : ℕ) (entry : Entry) → k < n → slice_get entries k ≡ Some entry →
      EntryPrecedes Forward entry place
  pub behind : (k : ℕ) (entry : Entry) → n ≤ k → slice_get entries k ≡ Some entry →
      EntryPrecedes Forward entry place → ⊥
