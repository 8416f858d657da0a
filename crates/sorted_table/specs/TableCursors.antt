-- Where a cursor over a table stands, and over which entries.
use Rattle.std.specs.Prelude.{◌≡◌, ℕ, ◌≤◌, List, length, slice_get, Contains}
use Rattle.std.specs.Prelude.{Option, Some, None, IfSome, Bool, true, false}
use Rattle.disk.specs.{Slot, seen}
use Rattle.kv_types.specs.{Entry}
use Rattle.merge_iter.specs.{Position, On, Off, Broken}
use Rattle.merge_iter.specs.declared.Direction.{Direction}
use Rattle.merge_iter.specs.declared.CursorError.{CursorError}
use Rattle.merge_iter.specs.declared.CursorError.TheVariants as cursor
use Rattle.table_format.specs.{Block, TableRepresentsIn, block_entries, block_lines}
use Rattle.byte_fields.specs.declared.format.Format.{Format}
use Rattle.table_format.specs.declared.IndexLine.{IndexLine}
use Rattle.table_format.specs.declared.FileError.{FileError}
use Rattle.table_format.specs.declared.FileError.TheVariants as reading
use Rattle.sorted_table.specs.Open.{FileRepresents}
use Rattle.sorted_table.specs.declared.block_place.BlockPlace.{BlockPlace}
use Rattle.sorted_table.specs.BlockPlaces.{IsAtEnd, PlaceReads, place_entry}

-- ---- positions

-- on an entry, if there is one
abbrev pub entry_position : Option Entry → Position
entry_position None = Off
entry_position (Some entry) = On entry

-- on the entry of a place, and on none where a refusal came before
abbrev pub table_position : Bool → Option BlockPlace → Position
table_position has_failed (Some place) = entry_position (place_entry place)
table_position true None = Broken
table_position false None = Off

-- ---- the table

-- the file represents entries, and this is one of them
abbrev pub FileHolds : Slot → Entry → Type 0
FileHolds file entry = (entries : List Entry) × FileRepresents file entries × Contains entries entry

-- the file represents a table in the format whose index has these lines
pub record HasLines (format : Format) (file : Slot) (lines : List IndexLine) : Type 0 where
  pub bytes : List ℕ
  pub present : seen file ≡ Some bytes
  pub entries : List Entry
  pub represents : TableRepresentsIn format bytes entries
  pub indexed : lines ≡ block_lines format 0 represents.blocks

-- the place is in one of these blocks, the one of its line
pub record IsPlaceIn (blocks : List Block) (place : BlockPlace) : Type 0 where
  pub block : Block
  pub present : slice_get blocks place.line ≡ Some block
  pub reads : PlaceReads place (block_entries block)

-- the file represents a table in the format with these lines, and the place is in one of its blocks
pub record CursorServes (format : Format) (file : Slot) (lines : List IndexLine)
    (place : Option BlockPlace) : Type 0 where
  pub table : HasLines format file lines
  pub here : IfSome place (IsPlaceIn table.represents.blocks)

-- ---- entering a block

-- a walk entered the block of this line, or there is no such line
abbrev pub HasEntered : List IndexLine → ℕ → Direction → Option BlockPlace → Type 0
HasEntered lines line way None = length lines ≤ line
HasEntered lines line way (Some place) = (place.line ≡ line) × IsAtEnd way place

-- a cursor stands in the block of this line, or on none where there is no such line
abbrev pub HasReached : List IndexLine → ℕ → Bool → Option BlockPlace → Type 0
HasReached lines line has_failed None = (has_failed ≡ false) × (length lines ≤ line)
HasReached lines line has_failed (Some place) = place.line ≡ line

-- how a cursor reports the errors of tables
abbrev pub move_error : FileError → CursorError
move_error reading.Disk = cursor.Disk
move_error reading.Memory = cursor.Memory
move_error reading.Damaged = cursor.Damaged
