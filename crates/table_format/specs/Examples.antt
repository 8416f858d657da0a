-- Tables of one entry in both formats, worked out.
use Rattle.std.specs.Prelude.{◌≡◌, ℕ, List, [], ◌∷◌, length, codes, Option, Some, None}
use Rattle.bloom.specs.{IsFilter}
use Rattle.byte_fields.specs.{row_key}
use Rattle.kv_types.specs.{Entry}
use Rattle.table_format.specs.declared.footer.Footer.{Footer}
use Rattle.table_format.specs.Blocks.{block_content, block_part}
use Rattle.table_format.specs.Formats.{filter_keys}
use Rattle.table_format.specs.Tables.{Block, block_lines, filter_part, footer_part, index_content}
use Rattle.table_format.specs.Tables.{TableRepresentsIn, different_keys, index_part}
use Rattle.table_format.specs.Tables.{table_spelling}
use Rattle.byte_fields.specs.declared.format.Format.{Format}
use Rattle.byte_fields.specs.declared.format.Format.TheVariants.{One, Two}

-- what the batch with number 1 left of `a`
abbrev pub of_a : Option (List ℕ) → Entry
of_a value = record { key = row_key (codes "a"); number = 1; value = value }

-- a put of 1 at the key a
abbrev pub put_a : Entry
put_a = of_a (Some (codes "1"))

-- the block with one entry
abbrev pub single : Entry → Block
single entry = record { front = []; last = entry }

-- the table of the entry in one block with this filter, in the format
abbrev pub single_table : Format → Entry → List ℕ → List ℕ
single_table format entry filter = table_spelling format (single entry ∷ []) filter

-- the first number for format 1, the second one for format 2
abbrev pub by_format : Format → ℕ → ℕ → ℕ
by_format One first second = first
by_format Two first second = second

-- the bytes of a block of one entry and of its line, and which keys filters hold
pub record PartExamples : Type 0 where
  pub content_one : block_content One (put_a ∷ [])
      ≡ 0 ∷ 0 ∷ 0 ∷ 1 ∷ 0 ∷ 1 ∷ 97 ∷ 0 ∷ 0 ∷ 0 ∷ 0 ∷ 0 ∷ 0 ∷ 0 ∷ 1 ∷ 1 ∷ 0 ∷ 1 ∷ 49 ∷ []
  pub content_two : block_content Two (put_a ∷ [])
      ≡ 0 ∷ 0 ∷ 0 ∷ 1 ∷ 0 ∷ 0 ∷ 1 ∷ 97 ∷ 0 ∷ 0 ∷ 0 ∷ 0 ∷ 0 ∷ 0 ∷ 0 ∷ 1 ∷ 1 ∷ 0 ∷ 1 ∷ 49 ∷ []
  pub line_one : index_content One (block_lines One 0 (single put_a ∷ []))
      ≡ 0 ∷ 0 ∷ 0 ∷ 1 ∷ 0 ∷ 0 ∷ 0 ∷ 0 ∷ 0 ∷ 0 ∷ 0 ∷ 0 ∷ 0 ∷ 0 ∷ 0 ∷ 27 ∷ 0 ∷ 1 ∷ 97
      ∷ 0 ∷ 0 ∷ 0 ∷ 0 ∷ 0 ∷ 0 ∷ 0 ∷ 1 ∷ []
  pub line_two : index_content Two (block_lines Two 0 (single put_a ∷ []))
      ≡ 0 ∷ 0 ∷ 0 ∷ 1 ∷ 0 ∷ 0 ∷ 0 ∷ 0 ∷ 0 ∷ 0 ∷ 0 ∷ 0 ∷ 0 ∷ 0 ∷ 0 ∷ 28 ∷ 0 ∷ 0 ∷ 1 ∷ 97
      ∷ 0 ∷ 0 ∷ 0 ∷ 0 ∷ 0 ∷ 0 ∷ 0 ∷ 1 ∷ []
  pub keys : different_keys (put_a ∷ of_a None ∷ []) ≡ row_key (codes "a") ∷ []
  pub held_one : filter_keys One (row_key (codes "a") ∷ []) ≡ codes "a" ∷ []
  pub held_two : filter_keys Two (row_key (codes "a") ∷ []) ≡ row_key (codes "a") ∷ []

-- the lengths of the parts of a table of one entry, and of the table
pub record TableExamples : Type 0 where
  pub block : (format : Format) → length (block_part format (put_a ∷ [])) ≡ by_format format 27 28
  pub filter : (bytes : List ℕ) → length bytes ≡ 8 → length (filter_part bytes) ≡ 20
  pub index : (format : Format) →
      length (index_part format (block_lines format 0 (single put_a ∷ []))) ≡ by_format format 35 36
  pub footer : (it : Footer) → length (footer_part it) ≡ 52
  pub smallest : (format : Format) (bytes : List ℕ) →
      TableRepresentsIn format bytes (put_a ∷ []) → length bytes ≡ by_format format 134 136
  pub deletion : (format : Format) (bytes : List ℕ) →
      TableRepresentsIn format bytes (of_a None ∷ []) → length bytes ≡ by_format format 131 133
  pub longer : (format : Format) (bytes value : List ℕ) → length value ≡ 200 →
      TableRepresentsIn format bytes (of_a (Some value) ∷ []) →
      length bytes ≡ by_format format 333 335
  pub represented : (format : Format) (filter : List ℕ) →
      IsFilter (filter_keys format (row_key (codes "a") ∷ [])) filter →
      TableRepresentsIn format (single_table format put_a filter) (put_a ∷ [])
