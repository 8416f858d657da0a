-- The tail of a table: its filter and its index, behind the blocks and before the footer.
use Rattle.std.specs.Prelude.{◌≡◌, ℕ, ◌+◌, ◌≤◌, List, ◌++◌, length, take, drop}
use Rattle.table_format.specs.{Block, IsFilterPart, IsFooter, IsIndex, block_lines, data_bytes}
use Rattle.table_format.specs.{filter_part, footer_part, index_part}
use Rattle.table_format.specs.declared.Footer.{Footer}
use Rattle.byte_fields.specs.declared.format.Format.{Format}
use Rattle.table_format.specs.declared.IndexLine.{IndexLine}
use Rattle.sorted_table.specs.declared.tail.Tail.{Tail}

-- ---- the tail of a file

-- the footer says that the filter's part and the index stand behind the blocks, in this order
pub record SaysPlaces (footer : Footer) (front middle last : List ℕ) : Type 0 where
  pub filter : footer.filter ≡ length front
  pub filter_len : footer.filter_len ≡ length middle
  pub index : footer.index ≡ length front + length middle
  pub index_len : footer.index_len ≡ length last

-- The bytes end in this filter, the index of these lines in the format, and a footer of the format
-- that says where both stand. The blocks of the lines fill the bytes before.
pub record HasTail (format : Format) (bytes : List ℕ) (lines : List IndexLine)
    (filter : List ℕ) : Type 0 where
  pub front : List ℕ
  pub footer : Footer
  pub spelled : bytes
      ≡ front ++ (filter_part filter ++ (index_part format lines ++ footer_part footer))
  pub is_filter : IsFilterPart (filter_part filter) filter
  pub is_index : IsIndex format (index_part format lines) (length front) lines
  pub is_footer : IsFooter (footer_part footer) footer
  pub places : SaysPlaces footer front (filter_part filter) (index_part format lines)
  pub read_in : footer.format ≡ format

-- ---- the tail as it is read

-- the bytes of the tail
abbrev pub tail_bytes : Format → List Block → List ℕ → List ℕ
tail_bytes format blocks filter =
    filter_part filter ++ index_part format (block_lines format 0 blocks)

-- the place, the lengths and the format of the tail
pub record IsTail (format : Format) (blocks : List Block) (filter : List ℕ) (tail : Tail)
    : Type 0 where
  pub place : tail.place ≡ length (data_bytes format blocks)
  pub filter_len : tail.filter_len ≡ length (filter_part filter)
  pub len : tail.len ≡ length (tail_bytes format blocks filter)
  pub read_in : tail.format ≡ format

-- the part is a footer by which this tail, of its format, stands directly before it
pub record FooterSays (part : List ℕ) (end : ℕ) (tail : Tail) : Type 0 where
  pub footer : Footer
  pub is_footer : IsFooter part footer
  pub filter : footer.filter ≡ tail.place
  pub filter_len : footer.filter_len ≡ tail.filter_len
  pub index : footer.index ≡ tail.place + tail.filter_len
  pub index_len : footer.index + footer.index_len ≡ end
  pub ends : tail.place + tail.len ≡ end
  pub within : tail.filter_len ≤ tail.len
  pub read_in : footer.format ≡ tail.format

-- the bytes have this tail by their last 52, and this is its content
pub record ReadsTail (part : List ℕ) (tail : Tail) (bytes : List ℕ) : Type 0 where
  pub end : ℕ
  pub len : end + 52 ≡ length bytes
  pub says : FooterSays (take 52 (drop end bytes)) end tail
  pub content : part ≡ take tail.len (drop tail.place bytes)

-- the bytes have some tail by their last 52
abbrev pub HasReadTail : List ℕ → Type 0
HasReadTail bytes = (part : List ℕ) × (tail : Tail) × ReadsTail part tail bytes
