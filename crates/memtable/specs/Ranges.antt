-- The keys of a map on one side of a key, with their versions.
use Rattle.std.specs.Prelude.{◌≡◌, List, [], ◌∷◌, ◌++◌, length, Option, MatchOption}
use Rattle.std.specs.BTreeMap.Range.{entries_between}
use Rattle.std.specs.declared.collections.Bound.TheVariants.{Excluded, Unbounded}
use Rattle.byte_fields.specs.{StoredKey, stored_cmp}
use Rattle.memtable.specs.declared.place.VersionPlace.{VersionPlace}
use Rattle.memtable.specs.declared.version.Versions.{Versions}
use Rattle.memtable.specs.Maps.{VersionMap}

-- keys with their versions, in order
abbrev pub KeyList : Type 0
KeyList = List (StoredKey × Versions)

-- the keys behind this one, each with its versions
abbrev pub keys_after : VersionMap → StoredKey → KeyList
keys_after map key = entries_between stored_cmp (Excluded key) Unbounded map.entries

-- the keys before this one, each with its versions
abbrev pub keys_before : VersionMap → StoredKey → KeyList
keys_before map key = entries_between stored_cmp Unbounded (Excluded key) map.entries

-- the first key is taken from the list, at its newest version
abbrev pub IsPopped : KeyList → KeyList → Option VersionPlace → Type 0
IsPopped old new place = MatchOption place (old ≡ [])
    (λ place. (old ≡ (place.key.now, place.versions.now) ∷ new)
    × (place.at ≡ length place.versions.now.older.items))

-- the last key is taken from the list, at its oldest version
abbrev pub IsPoppedBack : KeyList → KeyList → Option VersionPlace → Type 0
IsPoppedBack old new place = MatchOption place (old ≡ [])
    (λ place. (old ≡ new ++ (place.key.now, place.versions.now) ∷ []) × (place.at ≡ 0))
