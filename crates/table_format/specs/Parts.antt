-- The parts of a table by themselves: what their bytes represent.
use Rattle.std.specs.Prelude.{◌≡◌, ◌⊎◌, ℕ, ◌+◌, ◌<◌, ◌≤◌, ◌^◌, List, [], ◌∷◌, length, map, All}
use Rattle.std.specs.Prelude.{Option, Some, None, Result, Ok, Err}
use Rattle.byte_fields.specs.{IsKeyOf, IsStoredKey}
use Rattle.kv_types.specs.declared.bounds.TheConstants.{MAX_NUMBER}
use Rattle.kv_types.specs.{Entry}
use Rattle.merge_iter.specs.{spot}
use Rattle.table_format.specs.declared.error.FileError.{FileError}
use Rattle.table_format.specs.declared.error.FileError.TheVariants.{Memory, Damaged}
use Rattle.table_format.specs.declared.line.IndexLine.{IndexLine}
use Rattle.table_format.specs.declared.footer.Footer.{Footer}
use Rattle.byte_fields.specs.declared.format.Format.{Format}
use Rattle.table_format.specs.Blocks.{AreRising}
use Rattle.table_format.specs.Tables.{filter_part, index_part, footer_part}

-- ---- results of readers

-- The result is the one value that is right. There is none only where no value is right.
abbrev pub ReadsPart : {A X : Type 0} → (A → Type 0) → (X → A) → Option X → Type 0
ReadsPart {A} Is view (Some x) = Is (view x) × ((a : A) → Is a → a ≡ view x)
ReadsPart {A} Is view None = (a : A) → Is a → ⊥

-- the same, unless memory runs out
abbrev pub ReadsPartOr : {A X : Type 0} → (A → Type 0) → (X → A) → Result X FileError → Type 0
ReadsPartOr {A} Is view (Ok x) = Is (view x) × ((a : A) → Is a → a ≡ view x)
ReadsPartOr {A} Is view (Err e) = (e ≡ Memory) ⊎ ((e ≡ Damaged) × ((a : A) → Is a → ⊥))

-- ---- the footer

-- the fields of a footer are in their ranges
pub record HasFieldRanges (it : Footer) : Type 0 where
  pub index : it.index < 2 ^ 64
  pub index_len : it.index_len < 2 ^ 32
  pub filter : it.filter < 2 ^ 64
  pub filter_len : it.filter_len < 2 ^ 32
  pub entries : it.entries < 2 ^ 64

-- the part is this footer, spelled with its digest, and its fields are in range
pub record IsFooter (part : List ℕ) (it : Footer) : Type 0 where
  pub spelled : part ≡ footer_part it
  pub ranges : HasFieldRanges it

-- ---- the filter

-- the part is this filter, spelled behind its length and with its digest
pub record IsFilterPart (part filter : List ℕ) : Type 0 where
  pub spelled : part ≡ filter_part filter
  pub short : length filter < 2 ^ 32

-- ---- the index

-- the fields of a line are in their ranges, and a table of the format may have its key
pub record IsIndexLine (format : Format) (line : IndexLine) : Type 0 where
  pub place : line.place < 2 ^ 64
  pub len : line.len < 2 ^ 32
  pub key : IsStoredKey line.key
  pub space : IsKeyOf format line.key
  pub number : line.number ≤ MAX_NUMBER

-- the spot of the last entry of a line's block
abbrev pub end_spot : IndexLine → Entry
end_spot line = spot line.key line.number

-- the lines' blocks fill the places from one to another
abbrev pub FillsPlaces : ℕ → List IndexLine → ℕ → Type 0
FillsPlaces place [] end = place ≡ end
FillsPlaces place (line ∷ lines) end =
    (line.place ≡ place) × FillsPlaces (place + line.len) lines end

-- the lines of blocks that fill the file from its first place to this one
pub record IsIndex (format : Format) (part : List ℕ) (end : ℕ) (lines : List IndexLine)
    : Type 0 where
  pub spelled : part ≡ index_part format lines
  pub some : 1 ≤ length lines
  pub few : length lines < 2 ^ 32
  pub each : All (IsIndexLine format) lines
  pub rising : AreRising (map end_spot lines)
  pub fills : FillsPlaces 0 lines end
