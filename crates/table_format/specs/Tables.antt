-- Which entries the bytes of a table file represent.
use Rattle.std.specs.Prelude.{◌≡◌, ℕ, ◌+◌, ◌<◌, ◌≤◌, ◌^◌, List, [], ◌∷◌, ◌++◌, length, All}
use Rattle.std.specs.Prelude.{Bool, false, if◌then◌else◌}
use Rattle.std.specs.List.{flat_map}
use Rattle.std.specs.Str.{bytes_eq}
use Rattle.bloom.specs.{IsFilter}
use Rattle.byte_fields.specs.{StoredKey, key_bytes_in}
use Rattle.kv_types.specs.{Entry}
use Rattle.table_format.specs.declared.sizes.TheConstants.{MAX_DATA}
use Rattle.table_format.specs.declared.line.IndexLine.{IndexLine}
use Rattle.table_format.specs.declared.footer.Footer.{Footer}
use Rattle.byte_fields.specs.declared.format.Format.{Format}
use Rattle.table_format.specs.Blocks.{sealed, be32, be64, IsEntryOf, AreRising}
use Rattle.table_format.specs.Blocks.{block_part}
use Rattle.table_format.specs.Formats.{filter_keys, format_number}

-- ---- blocks one behind the other

-- the entries of a block: the last, and those before it
pub record Block : Type 0 where
  pub front : List Entry
  pub last : Entry

-- the entries of a block, with the last one
abbrev pub block_entries : Block → List Entry
block_entries block = block.front ++ block.last ∷ []

-- a block, spelled
abbrev pub block_bytes : Format → Block → List ℕ
block_bytes format block = block_part format (block_entries block)

-- the entries of blocks in order
abbrev pub entries_of_blocks : List Block → List Entry
entries_of_blocks blocks = flat_map block_entries blocks

-- blocks, one behind the other
abbrev pub data_bytes : Format → List Block → List ℕ
data_bytes format blocks = flat_map (block_bytes format) blocks

-- ---- the index

-- where a block stands, how long it is with its digest, and its last entry's key and number
abbrev pub block_line : Format → ℕ → Block → IndexLine
block_line format place block = record {
  place = place;
  len = length (block_bytes format block);
  key = block.last.key;
  number = block.last.number;
}

-- the lines of blocks of which the first stands at this place
abbrev pub block_lines : Format → ℕ → List Block → List IndexLine
block_lines format place [] = []
block_lines format place (block ∷ blocks) =
    block_line format place block ∷ block_lines format (place + length (block_bytes format block))
    blocks

-- a line of the index, spelled
abbrev pub line_bytes : Format → IndexLine → List ℕ
line_bytes format line =
    be64 line.place ++ (be32 line.len ++ (key_bytes_in format line.key ++ be64 line.number))

-- the number of lines, and the lines
abbrev pub index_content : Format → List IndexLine → List ℕ
index_content format lines = be32 (length lines) ++ flat_map (line_bytes format) lines

-- the index with its digest
abbrev pub index_part : Format → List IndexLine → List ℕ
index_part format lines = sealed (index_content format lines)

-- ---- the filter

-- the number of bytes, and the bytes
abbrev pub filter_part : List ℕ → List ℕ
filter_part filter = sealed (be32 (length filter) ++ filter)

-- whether the first entry has the key
abbrev pub begins_with : StoredKey → List Entry → Bool
begins_with key [] = false
begins_with key (entry ∷ entries) = bytes_eq key entry.key

-- the keys of rising entries, each once
abbrev pub different_keys : List Entry → List StoredKey
different_keys [] = []
different_keys (entry ∷ entries) =
    if begins_with entry.key entries then different_keys entries
    else entry.key ∷ different_keys entries

-- ---- the footer

-- `CRLSMT01`
abbrev pub magic : List ℕ
magic = 67 ∷ 82 ∷ 76 ∷ 83 ∷ 77 ∷ 84 ∷ 48 ∷ 49 ∷ []

-- the fields, the number of the format, and the magic
abbrev pub footer_content : Footer → List ℕ
footer_content it =
    be64 it.index ++ (be32 it.index_len ++ (be64 it.filter ++ (be32 it.filter_len
    ++ (be64 it.entries ++ (be32 (format_number it.format) ++ magic)))))

-- the footer with its digest
abbrev pub footer_part : Footer → List ℕ
footer_part it = sealed (footer_content it)

-- where index and filter are, how long they are with their digests, the number of entries, and the
-- format
abbrev pub table_footer : Format → List Block → List ℕ → Footer
table_footer format blocks filter = record {
  index = length (data_bytes format blocks) + length (filter_part filter);
  index_len = length (index_part format (block_lines format 0 blocks));
  filter = length (data_bytes format blocks);
  filter_len = length (filter_part filter);
  entries = length (entries_of_blocks blocks);
  format = format;
}

-- ---- a table

-- blocks, filter, index and footer, each directly behind the one before
abbrev pub table_spelling : Format → List Block → List ℕ → List ℕ
table_spelling format blocks filter =
    data_bytes format blocks ++ (filter_part filter
    ++ (index_part format (block_lines format 0 blocks)
    ++ footer_part (table_footer format blocks filter)))

-- the lengths that are spelled in a table fit their fields
pub record FitsFields (format : Format) (blocks : List Block) (filter : List ℕ) : Type 0 where
  pub data_len : length (data_bytes format blocks) ≤ MAX_DATA
  pub each : All (λ block. length (block_bytes format block) < 2 ^ 32) blocks
  pub filter_len : length (filter_part filter) < 2 ^ 32
  pub index_len : length (index_part format (block_lines format 0 blocks)) < 2 ^ 32

-- The bytes are a table of these entries in the format: the entries rise and keep the limits, they
-- stand in blocks of any division, and the filter is that of their keys.
pub record TableRepresentsIn (format : Format) (bytes : List ℕ) (entries : List Entry)
    : Type 0 where
  pub blocks : List Block
  pub filter : List ℕ
  pub spelled : bytes ≡ table_spelling format blocks filter
  pub division : entries ≡ entries_of_blocks blocks
  pub some : 1 ≤ length entries
  pub each : All (IsEntryOf format) entries
  pub rising : AreRising entries
  pub exact : IsFilter (filter_keys format (different_keys entries)) filter
  pub fits : FitsFields format blocks filter

-- the bytes are a table of these entries in one of the formats
pub record TableRepresents (bytes : List ℕ) (entries : List Entry) : Type 0 where
  pub format : Format
  pub table : TableRepresentsIn format bytes entries

-- bytes represent at most one list of entries
abbrev pub TableIsUnique : Type 0
TableIsUnique = (bytes : List ℕ) (entries others : List Entry) → TableRepresents bytes entries →
    TableRepresents bytes others → entries ≡ others
