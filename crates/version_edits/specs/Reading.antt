-- Reading an edit from left to right.
use Rattle.std.specs.Prelude.{◌≡◌, ℕ, List, [], ◌∷◌, length, nat_le, ◌==◌, Bool, not}
use Rattle.std.specs.Prelude.{Option, Some, None, Result, Ok, Err, if◌then◌else◌}
use Rattle.std.specs.Global.{Vec}
use Rattle.std.specs.Int.{w8, w16, w32, w64}
use Rattle.std.specs.Ordering.{is_lt}
use Rattle.byte_fields.specs.{Reader, both, mapped, only, counted, number_at, ◌>>=◌}
use Rattle.configurations.specs.{is_config}
use Rattle.byte_fields.specs.{StoredKey, key_at_in, stored_cmp}
use Rattle.kv_types.specs.declared.bounds.TheConstants.{MAX_NUMBER}
use Rattle.version_edits.specs.declared.error.EditError.{EditError}
use Rattle.version_edits.specs.declared.error.EditError.TheVariants as edit_error
use Rattle.byte_fields.specs.declared.format.Format.{Format}
use Rattle.version_edits.specs.declared.line.TheConstants.{MAX_NEXT}
use Rattle.version_edits.specs.declared.line.LogLine.{LogLine}
use Rattle.version_edits.specs.declared.line.TableName.{TableName}
use Rattle.version_edits.specs.declared.line.TableLine.{TableLine}
use Rattle.version_edits.specs.Versions.{Change}

-- ---- fields

-- the first byte, as a number
unfoldable pub byte_field : Reader ℕ
byte_field [] = None
byte_field (b ∷ rest) = Some (b, rest)

-- a number within the limit of all numbers
unfoldable pub count_field : Reader ℕ
count_field bytes = only (λ n. nat_le n MAX_NUMBER) (number_at w64) bytes

-- a number, or the one behind the last of all
unfoldable pub next_field : Reader ℕ
next_field bytes = only (λ n. nat_le n MAX_NEXT) (number_at w64) bytes

-- the first number of a log
unfoldable pub first_field : Reader ℕ
first_field bytes = only (λ n. nat_le 1 n) next_field bytes

-- the place of one of at most 16 configurations
unfoldable pub epoch_field : Reader ℕ
epoch_field bytes = only (λ n. nat_le n 15) (number_at w32) bytes

-- a level, from 0 to 6
unfoldable pub level_field : Reader ℕ
level_field bytes = only (λ n. nat_le n 6) byte_field bytes

-- the ids of a configuration, behind their number in one byte
unfoldable pub config_field : Reader (List ℕ)
config_field bytes = only is_config (counted (number_at w8) (number_at w16)) bytes

-- ---- lines

-- a file and a first number, as a log's line
abbrev pub as_log : ℕ × ℕ → LogLine
as_log x = record { file = x.0; first = x.1 }

-- a log's line: its file and its first number
unfoldable pub log_line_at : Reader LogLine
log_line_at bytes = mapped as_log (both count_field first_field) bytes

-- a level and a file, as a table's name
abbrev pub as_name : ℕ × ℕ → TableName
as_name x = record { level = x.0; file = x.1 }

-- a table's name: its level and its file
unfoldable pub table_name_at : Reader TableName
table_name_at bytes = mapped as_name (both level_field count_field) bytes

-- the parts of a table's line, as a line
abbrev pub as_table : (ℕ × (ℕ × ℕ)) × (StoredKey × StoredKey) → TableLine
as_table x = record {
  level = x.0.0;
  file = x.0.1.0;
  length = x.0.1.1;
  least = x.1.0;
  greatest = x.1.1;
}

-- the least key does not stand behind the greatest
abbrev pub has_range : TableLine → Bool
has_range line = not (is_lt (stored_cmp line.greatest line.least))

-- a table's line: level, file, length, least and greatest key, in this order
unfoldable pub table_line_at : Format → Reader TableLine
table_line_at format bytes =
    only has_range (mapped as_table (both (both level_field (both count_field count_field))
    (both (key_at_in format) (key_at_in format)))) bytes

-- ---- an edit

-- numbers of files, behind how many they are
unfoldable pub files_at : Reader (List ℕ)
files_at bytes = counted (number_at w16) count_field bytes

-- lines of logs, behind how many they are
unfoldable pub logs_at : Reader (List LogLine)
logs_at bytes = counted (number_at w16) log_line_at bytes

-- names of tables, behind how many they are
unfoldable pub names_at : Reader (List TableName)
names_at bytes = counted (number_at w16) table_name_at bytes

-- lines of tables, behind how many they are
unfoldable pub tables_at : Format → Reader (List TableLine)
tables_at format bytes = counted (number_at w16) (table_line_at format) bytes

-- the fields of an edit, one behind the other
abbrev pub Fields : Type 0
Fields = ℕ × (ℕ × (ℕ × (ℕ × (List ℕ × (List ℕ × (List LogLine × (List TableName
    × List TableLine)))))))

-- the fields of an edit, as an edit
abbrev pub as_change : Fields → Change
as_change x = record {
  next_file = x.0;
  floor = x.1.0;
  flushed = x.1.1.0;
  epoch = x.1.1.1.0;
  ids = x.1.1.1.1.0;
  logs_gone = x.1.1.1.1.1.0;
  logs_added = x.1.1.1.1.1.1.0;
  tables_gone = x.1.1.1.1.1.1.1.0;
  tables_added = x.1.1.1.1.1.1.1.1;
}

-- an edit at the front of bytes: three numbers, the epoch, the ids and four lists
unfoldable pub change_front : Format → Reader Change
change_front format bytes =
    mapped as_change (both next_field (both count_field (both count_field (both epoch_field
    (both config_field (both files_at (both logs_at (both names_at (tables_at format)))))))))
    bytes

-- an edit that is all of the bytes
unfoldable pub change_of : Format → List ℕ → Option Change
change_of format bytes =
    change_front format bytes >>= λ x. if length x.1 == 0 then Some x.0 else None

-- ---- what functions return

-- a refusal: Damaged only where nothing is read
abbrev pub RefusesChange : {Y : Type 0} → EditError → Option Y → Type 0
RefusesChange edit_error.Damaged read = read ≡ None
RefusesChange edit_error.Memory read = Unit {0}

-- what a function returned is what was read, with the bytes after it, unless memory ran out
abbrev pub ReadsChangeField : {X : Type 0} → Result X EditError → List ℕ → Option (X × List ℕ)
    → Type 0
ReadsChangeField (Ok x) rest read = read ≡ Some (x, rest)
ReadsChangeField (Err e) rest read = RefusesChange e read

-- what a function returned is what was read, unless memory ran out
abbrev pub ReadsChange : {X : Type 0} → Result X EditError → Option X → Type 0
ReadsChange (Ok x) read = read ≡ Some x
ReadsChange (Err e) read = RefusesChange e read

-- a list with what stands in it
abbrev pub items_read : {A E : Type 0} → Result (Vec A) E → Result (List A) E
items_read (Ok v) = Ok v.items
items_read (Err e) = Err e
