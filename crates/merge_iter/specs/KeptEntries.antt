-- An entry that is kept in memory.
use Rattle.std.specs.Prelude.{Some}
use Rattle.merge_iter.specs.declared.kept.KeptEntry.{KeptEntry}
use Rattle.kv_types.specs.{Entry}

-- the entry that was kept
abbrev pub kept_entry : KeptEntry → Entry
kept_entry k = record { key = k.key; number = k.number; value = Some k.value.items }
