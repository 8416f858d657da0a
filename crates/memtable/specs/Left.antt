-- How many entries a walk has left.
use Rattle.std.specs.Prelude.{ℕ, suc, List, [], ◌∷◌, ◌++◌, Bool, not, if◌then◌else◌}
use Rattle.std.specs.Ordering.{is_lt}
use Rattle.merge_iter.specs.declared.direction.Direction.{Direction}
use Rattle.merge_iter.specs.declared.direction.Direction.TheVariants.{Forward, Backward}
use Rattle.byte_fields.specs.{StoredKey}
use Rattle.kv_types.specs.{Entry}
use Rattle.merge_iter.specs.{Position, On, Off, Broken, entry_cmp}
use Rattle.memtable.specs.declared.version.Version.{Version}
use Rattle.memtable.specs.declared.version.Versions.{Versions}
use Rattle.memtable.specs.Versions.{all_of}
use Rattle.memtable.specs.Maps.{version_entry}

-- the entries of a key
abbrev pub key_entries : StoredKey → List Version → List Entry
key_entries key [] = []
key_entries key (version ∷ versions) = version_entry key version ∷ key_entries key versions

-- the entries of all keys
abbrev pub map_entries : List (StoredKey × Versions) → List Entry
map_entries [] = []
map_entries (entry ∷ entries) = key_entries entry.0 (all_of entry.1) ++ map_entries entries

-- whether a walk in this direction meets the first before the second
abbrev pub is_met_first : Direction → Entry → Entry → Bool
is_met_first Forward a b = is_lt (entry_cmp a b)
is_met_first Backward a b = is_lt (entry_cmp b a)

-- how many entries pass a test
abbrev pub count : (Entry → Bool) → List Entry → ℕ
count test [] = 0
count test (entry ∷ entries) = if test entry then suc (count test entries) else count test entries

-- how many entries are left, from where the walk stands on
abbrev pub left_on : List Entry → Direction → Position → ℕ
left_on entries way (On here) = count (λ entry. not (is_met_first way entry here)) entries
left_on entries way Off = 0
left_on entries way Broken = 0
