-- The bytes of a table determine its entries.
use Rattle.std.proofs.Common.{◌≡◌, ℕ, ◌+◌, ◌<◌, ◌^◌, List, ◌++◌, length, refl, sym, ap, subst}
use Rattle.std.proofs.Common.{◌∙◌, arith, append_assoc, length-append}
use Rattle.std.specs.List.{AllByRecursion}
use Rattle.std.specs.Int.{w64, from_be_bytes}
use Rattle.std.proofs.lemmas.List.Elements.{recursion_from_All}
use Rattle.std.proofs.lemmas.Nat.{from_be_bytes-to_be_bytes_8}
use Rattle.table_format.specs.FormatsLemmas.{number_short, same_number}
use Rattle.table_format.specs.FrontsLemmas.{IsShortBlock, same_count, same_data, split_same}
use Rattle.table_format.specs.SealedLemmas.{length-sealed}
use Rattle.table_format.specs.Blocks.{IsEntryOf, be32, be64, digest, sealed}
use Rattle.table_format.specs.Formats.{format_number}
use Rattle.table_format.specs.Tables.{Block, TableIsUnique, TableRepresentsIn, block_lines}
use Rattle.table_format.specs.Tables.{data_bytes, filter_part}
use Rattle.kv_types.specs.{Entry}
use Rattle.table_format.specs.Tables.{entries_of_blocks, footer_content, index_part, magic}
use Rattle.table_format.specs.Tables.{table_footer, table_spelling}
use Rattle.table_format.specs.declared.footer.Footer.{Footer}
use Rattle.byte_fields.specs.declared.format.Format.{Format}

-- a footer says where the filter is, and in which format the table is
pub same_footer : (a b : Footer) → a.filter < 2 ^ 64 → b.filter < 2 ^ 64
    → footer_content a ≡ footer_content b → (a.filter ≡ b.filter) × (a.format ≡ b.format)
same_footer a b small_a small_b is =
    let first = split_same (be64 a.index) (be64 b.index) _ _ refl is in
    let second = split_same (be32 a.index_len) (be32 b.index_len) _ _ refl first.1 in
    let third = split_same (be64 a.filter) (be64 b.filter) _ _ refl second.1 in
    let fourth = split_same (be32 a.filter_len) (be32 b.filter_len) _ _ refl third.1 in
    let fifth = split_same (be64 a.entries) (be64 b.entries) _ _ refl fourth.1 in
    let numbers = same_count (format_number a.format) (format_number b.format) magic magic
    (number_short a.format) (number_short b.format) fifth.1 in (
      sym (from_be_bytes-to_be_bytes_8 a.filter small_a) ∙ ap (from_be_bytes w64) third.0
          ∙ from_be_bytes-to_be_bytes_8 b.filter small_b,
      same_number a.format b.format numbers.0,
    )

-- what stands before the footer
abbrev pub before_footer : Format → List Block → List ℕ → List ℕ
before_footer format blocks filter = data_bytes format blocks ++
    (filter_part filter ++ index_part format (block_lines format 0 blocks))

-- a table is what stands before its footer, and the footer
pub table_parts : (format : Format) (blocks : List Block) (filter : List ℕ)
    → table_spelling format blocks filter
    ≡ before_footer format blocks filter ++ sealed
    (footer_content (table_footer format blocks filter))
table_parts format blocks filter =
    let foot = sealed (footer_content (table_footer format blocks filter)) in
    ap (λ (t : List ℕ). data_bytes format blocks ++ t)
    (sym (append_assoc (filter_part filter) (index_part format (block_lines format 0 blocks)) foot))
    ∙ sym (append_assoc (data_bytes format blocks)
    (filter_part filter ++ index_part format (block_lines format 0 blocks)) foot)

-- a footer has 52 bytes
pub length-footer : (it : Footer) → length (sealed (footer_content it)) ≡ 52
length-footer it = length-sealed (footer_content it)

-- a table is 52 bytes longer than what stands before its footer
pub length-table : (format : Format) (blocks : List Block) (filter : List ℕ)
    → length (table_spelling format blocks filter) ≡ length (before_footer format blocks filter) +
    52
length-table format blocks filter =
    let foot = table_footer format blocks filter in
    omega (
      arith,
      ap length (table_parts format blocks filter),
      length-footer foot,
      length-append (before_footer format blocks filter) (sealed (footer_content foot)),
    )

-- bytes are a table of one list of entries at most, whatever the formats
unique_by : (f g : Format) (bytes : List ℕ) (entries others : List Entry)
    → TableRepresentsIn f bytes entries → TableRepresentsIn g bytes others → entries ≡ others
unique_by f g bytes entries others s t =
    let fa = table_footer f s.blocks s.filter in
    let fb = table_footer g t.blocks t.filter in
    let same : before_footer f s.blocks s.filter ++ sealed (footer_content fa)
    ≡ before_footer g t.blocks t.filter ++ sealed (footer_content fb) =
    sym (table_parts f s.blocks s.filter) ∙ sym s.spelled ∙ t.spelled
    ∙ table_parts g t.blocks t.filter in
    let fronts : length (before_footer f s.blocks s.filter)
    ≡ length (before_footer g t.blocks t.filter) =
    omega (
      arith,
      ap length (sym s.spelled ∙ t.spelled),
      length-table f s.blocks s.filter,
      length-table g t.blocks t.filter,
    ) in
    let parts = split_same (before_footer f s.blocks s.filter) (before_footer g t.blocks t.filter)
    (sealed (footer_content fa)) (sealed (footer_content fb)) fronts same in
    let feet = split_same (footer_content fa) (footer_content fb) (digest (footer_content fa))
    (digest (footer_content fb)) refl parts.1 in
    let data_a = s.fits.data_len in
    let data_b = t.fits.data_len in
    let says = same_footer fa fb (omega (arith, data_a)) (omega (arith, data_b)) feet.0 in
    let back : g ≡ f = sym says.1 in
    let datas = split_same (data_bytes f s.blocks) (data_bytes g t.blocks)
    (filter_part s.filter ++ index_part f (block_lines f 0 s.blocks))
    (filter_part t.filter ++ index_part g (block_lines g 0 t.blocks))
    says.0 parts.0 in
    let each_a = subst (AllByRecursion (IsEntryOf f)) s.division
    (recursion_from_All (IsEntryOf f) entries s.each) in
    let each_b = subst (λ (k : Format). AllByRecursion (IsEntryOf k) (entries_of_blocks t.blocks))
    back (subst (AllByRecursion (IsEntryOf g)) t.division
    (recursion_from_All (IsEntryOf g) others t.each)) in
    let small_b = subst (λ (k : Format). AllByRecursion (IsShortBlock k) t.blocks) back
    (recursion_from_All (IsShortBlock g) t.blocks t.fits.each) in
    let same_blocks : data_bytes f s.blocks ≡ data_bytes f t.blocks =
    datas.0 ∙ ap (λ (k : Format). data_bytes k t.blocks) back in
    s.division ∙ same_data f s.blocks t.blocks
    (recursion_from_All (IsShortBlock f) s.blocks s.fits.each) small_b each_a each_b same_blocks
    ∙ sym t.division

-- bytes are a table of one list of entries at most
pub table_is_unique : TableIsUnique
table_is_unique bytes entries others s t =
    unique_by s.format t.format bytes entries others s.table t.table
