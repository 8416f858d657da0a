-- Reading entries, lines and footers from left to right.
use Rattle.std.specs.Prelude.{ℕ, zero, suc, List, [], ◌∷◌, Option, Some, None, nat_le}
use Rattle.std.specs.Option.{option_map}
use Rattle.std.specs.Int.{w32, w64}
use Rattle.byte_fields.specs.{StoredKey, key_at_in, lent_key}
use Rattle.kv_types.specs.declared.bounds.TheConstants.{MAX_VALUE, MAX_NUMBER}
use Rattle.kv_types.specs.{Entry}
use Rattle.byte_fields.specs.{◌>>=◌, text_at, Reader, both, mapped, only, number_at}
use Rattle.table_format.specs.declared.line.IndexLine.{IndexLine}
use Rattle.table_format.specs.declared.line.LentLine.{LentLine}
use Rattle.table_format.specs.declared.footer.Footer.{Footer}
use Rattle.byte_fields.specs.declared.format.Format.{Format}
use Rattle.table_format.specs.declared.entry.LentEntry.{LentEntry}
use Rattle.table_format.specs.Formats.{format_at}

-- ---- entries

-- a number of a batch
unfoldable pub stored_number_at : Reader ℕ
stored_number_at bytes = only (λ n. nat_le n MAX_NUMBER) (number_at w64) bytes

-- what an entry leaves: the byte 1 and a value, or the byte 2 for a deletion
unfoldable pub change_at : Reader (Option (List ℕ))
change_at [] = None
change_at (zero ∷ rest) = None
change_at (suc zero ∷ rest) = text_at MAX_VALUE rest >>= λ value. Some (Some value.0, value.1)
change_at (suc (suc zero) ∷ rest) = Some (None, rest)
change_at (suc (suc (suc b)) ∷ rest) = None

-- the parts of an entry, as an entry
abbrev pub as_entry : StoredKey × (ℕ × Option (List ℕ)) → Entry
as_entry x = record { key = x.0; number = x.1.0; value = x.1.1 }

-- an entry: its key, its number and what it leaves
unfoldable pub table_entry_at : Format → Reader Entry
table_entry_at format bytes =
    mapped as_entry (both (key_at_in format) (both stored_number_at change_at)) bytes

-- an entry that is lent, as an entry
abbrev pub lent_entry : LentEntry → Entry
lent_entry it = record {
  key = lent_key it.key;
  number = it.number;
  value = option_map (λ v. v.now) it.value;
}

-- ---- lines of an index

-- a line that is lent, as a line
abbrev pub lent_line : LentLine → IndexLine
lent_line it = record { place = it.place; len = it.len; key = lent_key it.key; number = it.number }

-- the parts of an index's line, as a line
abbrev pub as_line : ℕ × (ℕ × (StoredKey × ℕ)) → IndexLine
as_line x = record { place = x.0; len = x.1.0; key = x.1.1.0; number = x.1.1.1 }

-- a line of the index: place and length of a block, key and number of its last entry
unfoldable pub line_at : Format → Reader IndexLine
line_at format bytes =
    mapped as_line (both (number_at w64) (both (number_at w32)
    (both (key_at_in format) stored_number_at))) bytes

-- ---- the footer

-- the parts of a footer, as a footer
abbrev pub as_footer : ℕ × (ℕ × (ℕ × (ℕ × (ℕ × Format)))) → Footer
as_footer x = record {
  index = x.0;
  index_len = x.1.0;
  filter = x.1.1.0;
  filter_len = x.1.1.1.0;
  entries = x.1.1.1.1.0;
  format = x.1.1.1.1.1;
}

-- place and length of the index, those of the filter, the number of entries, and the format
unfoldable pub footer_at : Reader Footer
footer_at bytes =
    mapped as_footer (both (number_at w64) (both (number_at w32) (both (number_at w64)
    (both (number_at w32) (both (number_at w64) format_at))))) bytes
