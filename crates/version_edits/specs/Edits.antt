-- The one spelling of an edit.
use Rattle.std.specs.Prelude.{◌≡◌, ℕ, ◌<◌, ◌≤◌, ◌^◌, List, ◌∷◌, ◌++◌, length, All}
use Rattle.std.specs.List.{flat_map}
use Rattle.std.specs.Int.{w16, w32, w64, to_be_bytes}
use Rattle.byte_fields.specs.{IsStoredKey, key_bytes_in, space_of}
use Rattle.byte_fields.specs.Order.{IsBelow}
use Rattle.kv_types.specs.declared.bounds.TheConstants.{MAX_NUMBER}
use Rattle.configurations.specs.{IsConfig, config_text}
use Rattle.byte_fields.specs.declared.format.Format.{Format}
use Rattle.byte_fields.specs.declared.format.Format.TheVariants as formats
use Rattle.version_edits.specs.declared.line.TheConstants.{MAX_NEXT}
use Rattle.version_edits.specs.declared.line.LogLine.{LogLine}
use Rattle.version_edits.specs.declared.line.TableName.{TableName}
use Rattle.version_edits.specs.declared.line.TableLine.{TableLine}
use Rattle.version_edits.specs.Versions.{Change}

-- two bytes that count the items, and these in order
abbrev pub counted_bytes : {A : Type 0} → (A → List ℕ) → List A → List ℕ
counted_bytes spelled items = to_be_bytes w16 (length items) ++ flat_map spelled items

-- the file of a log, and the number of its first batch, in eight bytes each
abbrev pub log_line_bytes : LogLine → List ℕ
log_line_bytes line = to_be_bytes w64 line.file ++ to_be_bytes w64 line.first

-- a table's level in one byte, and its file in eight
abbrev pub table_name_bytes : TableName → List ℕ
table_name_bytes one = one.level ∷ to_be_bytes w64 one.file

-- the level of a table in one byte, its file and its length in eight each
abbrev pub table_head_bytes : TableLine → List ℕ
table_head_bytes line = line.level ∷ to_be_bytes w64 line.file ++ to_be_bytes w64 line.length

-- the head of a table's line, and its least and its greatest key
unfoldable pub table_line_bytes : Format → TableLine → List ℕ
table_line_bytes format line =
    table_head_bytes line ++ (key_bytes_in format line.least ++ key_bytes_in format line.greatest)

-- the numbers, the ids behind their count, and four lists
unfoldable pub change_text_in : Format → Change → List ℕ
change_text_in format change =
    to_be_bytes w64 change.next_file ++ to_be_bytes w64 change.floor
    ++ to_be_bytes w64 change.flushed ++ to_be_bytes w32 change.epoch
    ++ config_text change.ids
    ++ counted_bytes (λ file. to_be_bytes w64 file) change.logs_gone
    ++ counted_bytes log_line_bytes change.logs_added
    ++ counted_bytes table_name_bytes change.tables_gone
    ++ counted_bytes (table_line_bytes format) change.tables_added

-- the spelling of an edit that is written, which is that of format 2
abbrev pub change_text : Change → List ℕ
change_text change = change_text_in formats.Two change

-- a table's line names a level from 0 to 6, keys in their bounds, and the least key first
pub record IsTableLine (line : TableLine) : Type 0 where
  pub level : line.level ≤ 6
  pub file : line.file ≤ MAX_NUMBER
  pub bytes : line.length < 2 ^ 63
  pub least : IsStoredKey line.least
  pub greatest : IsStoredKey line.greatest
  pub proper : IsBelow line.greatest line.least → ⊥

-- a log's line names the number of its first batch, which is not 0, and for a log that has no room
-- for one is 2^63
abbrev pub IsLogLine : LogLine → Type 0
IsLogLine line = (line.file ≤ MAX_NUMBER) × ((1 ≤ line.first) × (line.first ≤ MAX_NEXT))

-- each field is within its limits
pub record IsChange (change : Change) : Type 0 where
  pub next_file : change.next_file ≤ MAX_NEXT
  pub floor : change.floor ≤ MAX_NUMBER
  pub flushed : change.flushed ≤ MAX_NUMBER
  pub epoch : change.epoch ≤ 15
  pub ids : IsConfig change.ids
  pub logs_gone : (length change.logs_gone < 2 ^ 16)
      × All (λ file. file ≤ MAX_NUMBER) change.logs_gone
  pub logs_added : (length change.logs_added < 2 ^ 16)
      × All IsLogLine change.logs_added
  pub tables_gone : (length change.tables_gone < 2 ^ 16)
      × All (λ one. (one.level ≤ 6) × (one.file ≤ MAX_NUMBER)) change.tables_gone
  pub tables_added : (length change.tables_added < 2 ^ 16) × All IsTableLine change.tables_added

-- the keys of a table's line are those of rows
abbrev pub HasRowKeys : TableLine → Type 0
HasRowKeys line = (space_of line.least ≡ 0) × (space_of line.greatest ≡ 0)

-- a table's line that a format spells: in format 1 its keys are those of rows
abbrev pub IsTableLineIn : Format → TableLine → Type 0
IsTableLineIn formats.One line = IsTableLine line × HasRowKeys line
IsTableLineIn formats.Two line = IsTableLine line

-- an edit that a format spells, likewise
abbrev pub IsChangeIn : Format → Change → Type 0
IsChangeIn formats.One change = IsChange change × All HasRowKeys change.tables_added
IsChangeIn formats.Two change = IsChange change

-- no two edits have one spelling in a format
abbrev pub ChangesDiffer : Type 0
ChangesDiffer = (format : Format) (a b : Change) → IsChangeIn format a → IsChangeIn format b →
    change_text_in format a ≡ change_text_in format b → a ≡ b
