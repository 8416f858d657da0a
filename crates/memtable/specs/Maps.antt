-- The entries of a map from keys to their versions.
use Rattle.std.specs.Prelude.{◌≡◌, ℕ, ◌<◌, List, [], ◌∷◌, ◌++◌, map, slice_get}
use Rattle.std.specs.Prelude.{Option, Some, None}
use Rattle.std.specs.BTreeMap.{BTreeMap, get}
use Rattle.byte_fields.specs.{StoredKey, stored_cmp}
use Rattle.kv_types.specs.declared.edit.Edit.{Edit}
use Rattle.kv_types.specs.declared.mark.Mark.{Mark}
use Rattle.kv_types.specs.{Entry, last_edit}
use Rattle.kv_types.specs.Entries.{mark_edits, row_edit}
use Rattle.merge_iter.specs.{IsTableEntry}
use Rattle.memtable.specs.declared.version.Version.{Version}
use Rattle.memtable.specs.declared.version.Versions.{Versions}
use Rattle.memtable.specs.Versions.{all_of, IsRisingList}

-- versions by their keys
abbrev pub VersionMap : Type 0
VersionMap = BTreeMap StoredKey Versions

-- the versions that were found
abbrev pub found : Option Versions → List Version
found None = []
found (Some versions) = all_of versions

-- the versions of a key
abbrev pub versions_at : VersionMap → StoredKey → List Version
versions_at map key = found (get stored_cmp map key)

-- the entry of a key's version
abbrev pub version_entry : StoredKey → Version → Entry
version_entry key version =
    record { key = key; number = version.number; value = version.value }

-- the version of an entry
abbrev pub entry_version : Entry → Version
entry_version entry = record { number = entry.number; value = entry.value }

-- the map has the entry
abbrev pub MapHolds : VersionMap → Entry → Type 0
MapHolds map entry =
    (i : ℕ) × (slice_get (versions_at map entry.key) i ≡ Some (entry_version entry))

-- the numbers of each key rise
abbrev pub HasRisingNumbers : VersionMap → Type 0
HasRisingNumbers map = (key : StoredKey) → IsRisingList (versions_at map key)

-- each entry of the map keeps its limits
abbrev pub HasLimits : VersionMap → Type 0
HasLimits map = (entry : Entry) → MapHolds map entry → IsTableEntry entry

-- one more version of a key, if there is one
abbrev pub added : List Version → ℕ → Option (Option (List ℕ)) → List Version
added versions number None = versions
added versions number (Some value) =
    versions ++ record { number = number; value = value } ∷ []

-- ---- what a batch adds

-- the number is greater than those of all versions
abbrev pub IsAbove : ℕ → VersionMap → Type 0
IsAbove number map =
    (key : StoredKey) (i : ℕ) (version : Version) →
    slice_get (versions_at map key) i ≡ Some version → version.number < number

-- the second map has what the last of these edits of each key left, at the number, and what the
-- first has
abbrev pub Adds : ℕ → List Edit → VersionMap → VersionMap → Type 0
Adds number edits old new =
    (key : StoredKey) → versions_at new key ≡ added (versions_at old key) number
    (last_edit edits key)

-- edits of rows, and the edit of a mark behind them, by stored keys
abbrev pub edits_put : List Edit → Option Mark → List Edit
edits_put edits mark = map row_edit edits ++ mark_edits mark
