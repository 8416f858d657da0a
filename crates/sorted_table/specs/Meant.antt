-- Blocks at the lines of an index, and files that are as they were meant but for damaged blocks.
use Rattle.std.specs.Prelude.{◌≡◌, ℕ, ◌+◌, List, length, slice_get, Some, IfSome}
use Rattle.std.specs.Prelude.{Result, Ok, Err}
use Rattle.std.specs.Rc.{rc_slice_items}
use Rattle.disk.specs.{Slot, seen}
use Rattle.kv_types.specs.{Entry}
use Rattle.merge_iter.specs.declared.Direction.TheVariants.{Forward}
use Rattle.merge_iter.specs.{EntryPrecedes}
use Rattle.table_files.specs.{IsPartAt}
use Rattle.table_files.specs.declared.block.CheckedBlock.{CheckedBlock}
use Rattle.table_format.specs.{IsBlock, end_spot, last_entry}
use Rattle.byte_fields.specs.declared.format.Format.{Format}
use Rattle.table_format.specs.declared.IndexLine.{IndexLine}
use Rattle.table_format.specs.declared.FileError.{FileError}
use Rattle.table_format.specs.declared.FileError.TheVariants.{Damaged}

-- ---- blocks at lines

-- the entry has the key and the number of the line
pub record HasEndOf (line : IndexLine) (entry : Entry) : Type 0 where
  pub key : entry.key ≡ line.key
  pub number : entry.number ≡ line.number

-- the entry comes behind the last entry of the block before that of line n
abbrev pub IsBehindLine : List IndexLine → ℕ → Entry → Type 0
IsBehindLine lines n entry =
    (k : ℕ) (before : IndexLine) → k + 1 ≡ n → slice_get lines k ≡ Some before →
    EntryPrecedes Forward (end_spot before) entry

-- The entries lie where line n says: the last one has its key and number, and the first one comes
-- behind the line before.
pub record AreAtLine (lines : List IndexLine) (n : ℕ) (line : IndexLine) (entries : List Entry)
    : Type 0 where
  pub last : IfSome (last_entry entries) (HasEndOf line)
  pub first : IfSome (slice_get entries 0) (IsBehindLine lines n)

-- the bytes are a block of some entries in the format, which lie where line n says
abbrev pub IsPlacedBlock : Format → List IndexLine → ℕ → IndexLine → List ℕ → Type 0
IsPlacedBlock format lines n line part =
    (entries : List Entry) × IsBlock format part entries × AreAtLine lines n line entries

-- The file has this part at the place of line n, and it is a block of entries that lie where the
-- line says. What a file has there else is a damaged block.
pub record IsBlockAtLine (format : Format) (lines : List IndexLine) (n : ℕ) (file : Slot)
    (part : List ℕ) : Type 0 where
  pub line : IndexLine
  pub at : slice_get lines n ≡ Some line
  pub len : length part ≡ line.len
  pub there : IsPartAt (seen file) line.place part
  pub checked : ∥ IsPlacedBlock format lines n line part ∥₁

-- The answers of a search for the block of line n: the block that the file has for it, and
-- `Damaged` only where it has none.
abbrev pub LineBlockAnswer : Format → List IndexLine → ℕ → Slot
    → Result CheckedBlock FileError → Type 0
LineBlockAnswer format lines n file (Ok block) =
    IsBlockAtLine format lines n file (rc_slice_items block.bytes)
LineBlockAnswer format lines n file (Err e) =
    e ≡ Damaged → (part : List ℕ) → IsBlockAtLine format lines n file part → ⊥

-- ---- files that are as they were meant

-- A block that the file has for one of these lines is the one that it was meant to have there. The
-- other blocks may be damaged.
abbrev pub AreAsMeant : Format → Slot → Slot → List IndexLine → Type 0
AreAsMeant format file meant lines =
    (n : ℕ) (part : List ℕ) → IsBlockAtLine format lines n file part
    → IsBlockAtLine format lines n meant part

-- a file is as it was meant where it was meant to be as it is
pub as_meant_itself : (format : Format) (file : Slot) (lines : List IndexLine)
    → AreAsMeant format file file lines
as_meant_itself format file lines n part is = is
