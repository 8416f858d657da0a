-- The length of a table of one entry.
use Rattle.std.proofs.Common.{◌≡◌, ℕ, ◌+◌, List, [], ◌∷◌, ◌++◌, length, refl, sym, ap, ◌∙◌, arith}
use Rattle.std.proofs.Common.{length-append, Some, None}
use Rattle.std.specs.List.{flat_map}
use Rattle.std.proofs.Common.{All, ◌<◌, ◌^◌}
use Rattle.std.proofs.lemmas.List.Elements.{All-from_recursion}
use Rattle.bloom.specs.{IsFilter}
use Rattle.bloom.specs.{bytes_for}
use Rattle.table_format.specs.Blocks.{AreRising, IsEntryOf, IsTableEntry}
use Rattle.table_format.specs.Formats.{filter_keys}
use Rattle.table_format.specs.FormatsLemmas.{length-filter_keys}
use Rattle.table_format.specs.Tables.{different_keys}
use Rattle.table_format.specs.Examples.{single_table}
use Rattle.std.proofs.lemmas.List.{append-nil}
use Rattle.std.proofs.lemmas.List.Concat.{flat_map-cons}
use Rattle.kv_types.specs.{Entry}
use Rattle.table_format.specs.FrontsLemmas.{length-block_part}
use Rattle.table_format.specs.SealedLemmas.{length-sealed}
use Rattle.table_format.specs.TablesLemmas.{length-footer, length-table}
use Rattle.table_format.specs.Blocks.{be32, be64, entries_bytes, block_part}
use Rattle.table_format.specs.Examples.{PartExamples, TableExamples, by_format, of_a, put_a}
use Rattle.table_format.specs.Examples.{single}
use Rattle.table_format.specs.Tables.{Block, TableRepresentsIn, block_bytes, block_entries}
use Rattle.table_format.specs.Tables.{block_lines, data_bytes}
use Rattle.table_format.specs.Tables.{entries_of_blocks, filter_part, index_content}
use Rattle.table_format.specs.Tables.{index_part, line_bytes, block_line}
use Rattle.byte_fields.specs.{key_bytes_in}
use Rattle.byte_fields.specs.declared.format.Format.{Format}
use Rattle.byte_fields.specs.declared.format.Format.TheVariants.{One, Two}

-- one entry stands in one block
single_by : (front : List Entry) (last entry : Entry) (others : List Entry)
    → entry ∷ [] ≡ (front ++ last ∷ []) ++ others → (front ≡ []) × (last ≡ entry) × (others ≡ [])
single_by [] last entry [] is = (refl, cc, refl)
single_by [] last entry (y ∷ others) is = absurd (omega (arith, ap length is))
single_by (x ∷ front) last entry others is =
    absurd (omega (
      arith,
      ap length is,
      length-append (front ++ last ∷ []) others,
      length-append front (last ∷ []),
    ))

no_blocks : (blocks : List Block) → entries_of_blocks blocks ≡ [] → blocks ≡ []
no_blocks [] is = refl
no_blocks (b ∷ blocks) is =
    absurd (omega (
      arith,
      ap length (sym (flat_map-cons block_entries b blocks) ∙ is),
      length-append (block_entries b) (entries_of_blocks blocks),
      length-append b.front (b.last ∷ []),
    ))

single_block : (blocks : List Block) (entry : Entry) → entry ∷ [] ≡ entries_of_blocks blocks
    → blocks ≡ single entry ∷ []
single_block [] entry is = absurd (omega (arith, ap length is))
single_block (b ∷ blocks) entry is =
    let s = single_by b.front b.last entry (entries_of_blocks blocks)
    (is ∙ flat_map-cons block_entries b blocks) in
    let fronts : b.front ≡ [] = s.0 in
    let ends : b.last ≡ entry = s.1 in
    ap (λ (f : List Entry). record { front = f; last = b.last } ∷ blocks) fronts
    ∙ ap (λ (e : Entry). single e ∷ blocks) ends
    ∙ ap (λ (bs : List Block). single entry ∷ bs) (no_blocks blocks s.2)

length-filter_part : (filter : List ℕ) → length (filter_part filter) ≡ length filter + 12
length-filter_part filter =
    omega (
      arith,
      length-sealed (be32 (length filter) ++ filter),
      length-append (be32 (length filter)) filter,
    )

-- the index of one block
length-single_index : (format : Format) (entry : Entry)
    → length (index_part format (block_lines format 0 (single entry ∷ [])))
    ≡ 32 + length (key_bytes_in format entry.key)
length-single_index format entry =
    let line = block_line format 0 (single entry) in
    omega (
      arith,
      length-sealed (index_content format (block_lines format 0 (single entry ∷ []))),
      length-append (be32 1) (flat_map (line_bytes format) (line ∷ [])),
      ap length (flat_map-cons (line_bytes format) line []),
      length-append (line_bytes format line) [],
      length-append (key_bytes_in format entry.key) (be64 entry.number),
    )

-- the table of one entry
pub length-single : (f : Format) (bytes : List ℕ) (entry : Entry)
    → TableRepresentsIn f bytes (entry ∷ [])
    → length bytes ≡ 116 + (length (entries_bytes f (entry ∷ []))
    + length (key_bytes_in f entry.key))
length-single f bytes entry t =
    let one = single_block t.blocks entry t.division in
    let blocks : length (data_bytes f t.blocks) ≡ length (block_part f (entry ∷ [])) =
    ap (λ (bs : List Block). length (data_bytes f bs)) one
    ∙ ap length (flat_map-cons (block_bytes f) (single entry) [])
    ∙ ap length (append-nil (block_part f (entry ∷ []))) in
    let index : length (index_part f (block_lines f 0 t.blocks))
    ≡ 32 + length (key_bytes_in f entry.key) =
    ap (λ (bs : List Block). length (index_part f (block_lines f 0 bs))) one
    ∙ length-single_index f entry in
    let filter : length t.filter ≡ 8 =
    t.exact.len ∙ ap bytes_for (length-filter_keys f (different_keys (entry ∷ []))) in
    omega (
      arith,
      ap length t.spelled,
      length-table f t.blocks t.filter,
      length-append (data_bytes f t.blocks)
          (filter_part t.filter ++ index_part f (block_lines f 0 t.blocks)),
      length-append (filter_part t.filter) (index_part f (block_lines f 0 t.blocks)),
      blocks,
      index,
      filter,
      length-filter_part t.filter,
      length-block_part f (entry ∷ []),
    )

-- the index of one block of this length, which ends with `a` at 1
abbrev one_line : Format → ℕ → List ℕ
one_line format len =
    index_content format (record { place = 0; len = len; key = put_a.key; number = 1 } ∷ [])

put_a_fits : IsTableEntry put_a
put_a_fits = record { key = (omega arith, omega arith); number = omega arith; value = omega arith }

is_put : (format : Format) → IsEntryOf format put_a
is_put One = record { limits = put_a_fits; key = refl }
is_put Two = record { limits = put_a_fits; key = tt }

each_fits : (format : Format) → All (IsEntryOf format) (put_a ∷ [])
each_fits format = All-from_recursion (IsEntryOf format) (put_a ∷ []) (is_put format, tt)

alone : AreRising (put_a ∷ [])
alone i j d lt short = absurd (omega (arith, lt, short))

block_size : (format : Format) → length (block_part format (put_a ∷ [])) ≡ by_format format 27 28
block_size One = length-block_part One (put_a ∷ [])
block_size Two = length-block_part Two (put_a ∷ [])

index_size : (format : Format)
    → length (index_part format (block_lines format 0 (single put_a ∷ []))) ≡ by_format format 35 36
index_size One = length-single_index One put_a
index_size Two = length-single_index Two put_a

few : (format : Format) (first second : ℕ) → first < 2 ^ 32 → second < 2 ^ 32
    → by_format format first second < 2 ^ 32
few One first second a b = a
few Two first second a b = b

small : (format : Format)
    → All (λ block. length (block_bytes format block) < 2 ^ 32) (single put_a ∷ [])
small format =
    let fits = few format 27 28 (omega arith) (omega arith) in
    All-from_recursion (λ block. length (block_bytes format block) < 2 ^ 32) (single put_a ∷ [])
    (omega (arith, fits, block_size format), tt)

single_data : (format : Format)
    → length (data_bytes format (single put_a ∷ [])) ≡ by_format format 27 28
single_data format = ap length (flat_map-cons (block_bytes format) (single put_a) [])
    ∙ ap length (append-nil (block_part format (put_a ∷ []))) ∙ block_size format

single_represented : (format : Format) (filter : List ℕ)
    → IsFilter (filter_keys format (different_keys (put_a ∷ []))) filter
    → TableRepresentsIn format (single_table format put_a filter) (put_a ∷ [])
single_represented format filter exact =
    let len : length filter ≡ 8 =
    exact.len ∙ ap bytes_for (length-filter_keys format (different_keys (put_a ∷ []))) in
    let room = few format 27 28 (omega arith) (omega arith) in
    let index = few format 35 36 (omega arith) (omega arith) in
    record {
      blocks = single put_a ∷ [];
      filter = filter;
      spelled = refl;
      division = refl;
      some = omega arith;
      each = each_fits format;
      rising = alone;
      exact = exact;
      fits = record {
        data_len = omega (arith, room, single_data format);
        each = small format;
        filter_len = omega (arith, len, length-filter_part filter);
        index_len = omega (arith, index, index_size format);
      };
    }

-- the length of the table of an entry in a format
abbrev size_of : Format → Entry → ℕ
size_of format entry =
    116 + (length (entries_bytes format (entry ∷ [])) + length (key_bytes_in format entry.key))

put_size : (format : Format) → size_of format put_a ≡ by_format format 134 136
put_size One = refl
put_size Two = refl

deletion_size : (format : Format) → size_of format (of_a None) ≡ by_format format 131 133
deletion_size One = refl
deletion_size Two = refl

longer_size : (format : Format) (value : List ℕ) → length value ≡ 200
    → size_of format (of_a (Some value)) ≡ by_format format 333 335
longer_size One value len = omega (arith, len, length-append value [])
longer_size Two value len = omega (arith, len, length-append value [])

pub part_examples : PartExamples
part_examples = record {
  content_one = refl;
  content_two = refl;
  line_one = ap (one_line One) (length-block_part One (put_a ∷ []));
  line_two = ap (one_line Two) (length-block_part Two (put_a ∷ []));
  keys = refl;
  held_one = refl;
  held_two = refl;
}

pub table_examples : TableExamples
table_examples = record {
  block = block_size;
  filter = λ bytes len. omega (arith, len, length-filter_part bytes);
  index = index_size;
  footer = length-footer;
  smallest = λ format bytes t. length-single format bytes put_a t ∙ put_size format;
  deletion = λ format bytes t. length-single format bytes (of_a None) t ∙ deletion_size format;
  longer = λ format bytes value len t.
      length-single format bytes (of_a (Some value)) t ∙ longer_size format value len;
  represented = single_represented;
}
