-- The parts of a table behind its blocks.
use Rattle.std.proofs.Common.{◌≡◌, ℕ, ◌+◌, ◌-◌, ◌≤◌, ◌<◌, ◌^◌, List, [], ◌∷◌, ◌++◌, length, map}
use Rattle.std.proofs.Common.{take, drop, AllPairs}
use Rattle.std.proofs.Common.{refl, sym, ap, subst, ◌∙◌, arith, append_assoc, length-append, inl}
use Rattle.std.proofs.Common.{inr, ◌⊎◌}
use Rattle.std.specs.List.{flat_map, AllByRecursion}
use Rattle.std.proofs.lemmas.List.{take_at, drop_at, take_all}
use Rattle.std.proofs.lemmas.List.Concat.{flat_map-cons}
use Rattle.std.proofs.lemmas.List.Elements.{All-from_recursion, recursion_from_All}
use Rattle.kv_types.specs.OrderLemmas.{Among, Rises, AllPairs-rises, rises_from_AllPairs}
use Rattle.kv_types.specs.{Entry}
use Rattle.merge_iter.specs.{EntryPrecedes, spot}
use Rattle.merge_iter.specs.declared.Direction.TheVariants.{Forward}
use Rattle.table_format.specs.FrontsLemmas.{IsShortBlock, few_entries, length-block_part}
use Rattle.table_format.specs.FrontsLemmas.{split_each}
use Rattle.table_format.specs.SealedLemmas.{length-sealed}
use Rattle.table_format.specs.TablesLemmas.{before_footer, length-footer, length-table, table_parts}
use Rattle.table_format.specs.{Block, FillsPlaces, IsFilterPart, IsFooter, IsIndex, IsIndexLine}
use Rattle.table_format.specs.{IsEntryOf}
use Rattle.table_format.specs.{TableRepresentsIn, be32, block_bytes, block_entries, block_lines}
use Rattle.table_format.specs.{data_bytes}
use Rattle.table_format.specs.{AreRising, end_spot, entries_of_blocks, filter_part, footer_part}
use Rattle.table_format.specs.{index_content, index_part}
use Rattle.table_format.specs.{line_bytes, table_footer}
use Rattle.table_format.specs.declared.Footer.{Footer}
use Rattle.byte_fields.specs.declared.format.Format.{Format}
use Rattle.table_format.specs.declared.IndexLine.{IndexLine}
use Rattle.table_format.specs.declared.FileError.{FileError}
use Rattle.table_format.specs.declared.FileError.TheVariants.{Memory, Damaged}
use Rattle.sorted_table.specs.declared.tail.Tail.{Tail}
use Rattle.sorted_table.specs.Tails.{IsTail, tail_bytes}
use Rattle.sorted_table.proofs.LineBlocks.{among_left, among_right, last_there, rising_parts}

-- ---- the footer

few_in_blocks : (format : Format) (blocks : List Block)
    → length (entries_of_blocks blocks) ≤ length (data_bytes format blocks)
few_in_blocks format [] = omega arith
few_in_blocks format (b ∷ blocks) =
    let below = few_in_blocks format blocks in
    omega (
      arith,
      below,
      few_entries format (block_entries b),
      length-block_part format (block_entries b),
      ap length (flat_map-cons block_entries b blocks),
      length-append (block_entries b) (entries_of_blocks blocks),
      ap length (flat_map-cons (block_bytes format) b blocks),
      length-append (block_bytes format b) (data_bytes format blocks),
    )

pub long_enough : (format : Format) (bytes : List ℕ) (entries : List Entry)
    (s : TableRepresentsIn format bytes entries)
    → length bytes ≡ length (before_footer format s.blocks s.filter) + 52
long_enough format bytes entries s = ap length s.spelled ∙ length-table format s.blocks s.filter

footer_at : (format : Format) (bytes : List ℕ) (entries : List Entry)
    (s : TableRepresentsIn format bytes entries) (end : ℕ)
    → end + 52 ≡ length bytes
    → take 52 (drop end bytes) ≡ footer_part (table_footer format s.blocks s.filter)
footer_at format bytes entries s end is =
    let before = before_footer format s.blocks s.filter in
    let foot = footer_part (table_footer format s.blocks s.filter) in
    let len = length-footer (table_footer format s.blocks s.filter) in
    let place : length before ≡ end = omega (arith, is, long_enough format bytes entries s) in
    ap (λ (b : List ℕ). take 52 (drop end b)) (s.spelled ∙ table_parts format s.blocks s.filter)
    ∙ ap (take 52) (drop_at before foot end place)
    ∙ take_all 52 foot (omega (arith, len))

is_footer : (format : Format) (bytes : List ℕ) (entries : List Entry)
    (s : TableRepresentsIn format bytes entries)
    → IsFooter (footer_part (table_footer format s.blocks s.filter))
    (table_footer format s.blocks s.filter)
is_footer format bytes entries s =
    let data_len = s.fits.data_len in
    let filter_len = s.fits.filter_len in
    let index_len = s.fits.index_len in
    record {
      spelled = refl;
      ranges = record {
        index = omega (arith, data_len, filter_len);
        index_len = index_len;
        filter = omega (arith, data_len);
        filter_len = filter_len;
        entries = omega (arith, data_len, few_in_blocks format s.blocks);
      };
    }

-- the last part of a table is its footer
pub footer_here : (format : Format) (bytes : List ℕ) (entries : List Entry)
    (s : TableRepresentsIn format bytes entries)
    (end : ℕ) (part : List ℕ) → end + 52 ≡ length bytes → part ≡ take 52 (drop end bytes)
    → IsFooter part (table_footer format s.blocks s.filter)
footer_here format bytes entries s end part is there =
    subst (λ (p : List ℕ). IsFooter p (table_footer format s.blocks s.filter))
    (sym (there ∙ footer_at format bytes entries s end is)) (is_footer format bytes entries s)

-- filter and index stand where the footer says, up to it
pub placed : (format : Format) (bytes : List ℕ) (entries : List Entry)
    (s : TableRepresentsIn format bytes entries) (end : ℕ)
    (it : Footer) → end + 52 ≡ length bytes → table_footer format s.blocks s.filter ≡ it
    → (it.filter + it.filter_len ≡ it.index) × (it.index + it.index_len ≡ end)
placed format bytes entries s end it is same =
    let blocks = data_bytes format s.blocks in
    let filter = filter_part s.filter in
    let index = index_part format (block_lines format 0 s.blocks) in
    let e : (length blocks + length filter) + length index ≡ end =
    omega (
      arith,
      is,
      long_enough format bytes entries s,
      length-append blocks (filter ++ index),
      length-append filter index,
    ) in
    subst (λ (f : Footer). (f.filter + f.filter_len ≡ f.index) × (f.index + f.index_len ≡ end)) same
    (refl, e)

-- the tail by the footer
pub tail_by : (format : Format) (bytes : List ℕ) (entries : List Entry)
    (s : TableRepresentsIn format bytes entries) (end : ℕ)
    (it : Footer) (tail : Tail) → end + 52 ≡ length bytes
    → table_footer format s.blocks s.filter ≡ it
    → tail.place ≡ it.filter → tail.filter_len ≡ it.filter_len → tail.len ≡ end - it.filter
    → tail.format ≡ it.format
    → IsTail format s.blocks s.filter tail
tail_by format bytes entries s end it tail is same place filter_len len read_in =
    let at : length (data_bytes format s.blocks) ≡ it.filter = ap (λ (x : Footer). x.filter) same in
    let filter : length (filter_part s.filter) ≡ it.filter_len =
    ap (λ (x : Footer). x.filter_len) same in
    record {
      place = place ∙ sym at;
      filter_len = filter_len ∙ sym filter;
      len = omega (
        arith,
        len,
        is,
        at,
        long_enough format bytes entries s,
        length-append (data_bytes format s.blocks) (tail_bytes format s.blocks s.filter),
      );
      read_in = read_in ∙ sym (ap (λ (x : Footer). x.format) same);
    }

-- ---- the tail

pub tail_at : (format : Format) (bytes : List ℕ) (entries : List Entry)
    (s : TableRepresentsIn format bytes entries)
    (tail : Tail) → IsTail format s.blocks s.filter tail
    → take tail.len (drop tail.place bytes) ≡ tail_bytes format s.blocks s.filter
tail_at format bytes entries s tail is =
    let parts = tail_bytes format s.blocks s.filter in
    let foot = footer_part (table_footer format s.blocks s.filter) in
    ap (λ (b : List ℕ). take tail.len (drop tail.place b))
    (s.spelled ∙ table_parts format s.blocks s.filter
    ∙ append_assoc (data_bytes format s.blocks) parts foot)
    ∙ ap (take tail.len) (drop_at (data_bytes format s.blocks) (parts ++ foot) tail.place
    (sym is.place))
    ∙ take_at parts foot tail.len (sym is.len)

pub tail_within : (format : Format) (bytes : List ℕ) (entries : List Entry)
    (s : TableRepresentsIn format bytes entries)
    (tail : Tail) → IsTail format s.blocks s.filter tail → tail.place + tail.len ≤ length bytes
tail_within format bytes entries s tail is =
    let place = is.place in
    let len = is.len in
    omega (
      arith,
      place,
      len,
      long_enough format bytes entries s,
      length-append (data_bytes format s.blocks) (tail_bytes format s.blocks s.filter),
    )

pub filter_here : (format : Format) (bytes : List ℕ) (entries : List Entry)
    (s : TableRepresentsIn format bytes entries)
    (part : List ℕ) → part ≡ filter_part s.filter → IsFilterPart part s.filter
filter_here format bytes entries s part is =
    let small = s.fits.filter_len in
    subst (λ (p : List ℕ). IsFilterPart p s.filter) (sym is) (record {
      spelled = refl;
      short = omega (
        arith,
        small,
        length-sealed (be32 (length s.filter) ++ s.filter),
        length-append (be32 (length s.filter)) s.filter,
      );
    })

-- ---- the index

abbrev Up : Entry → Entry → Type 0
Up = EntryPrecedes Forward

ends_after : (format : Format) (b : Block) (place : ℕ) (blocks : List Block)
    → ((y : Entry) → Among y (entries_of_blocks blocks) → EntryPrecedes Forward b.last y)
    → (z : Entry) → Among z (map end_spot (block_lines format place blocks))
    → EntryPrecedes Forward (spot b.last.key b.last.number) z
ends_after format b place [] h z a = absurd a
ends_after format b place (c ∷ blocks) h z (inl e) =
    subst (Up (spot b.last.key b.last.number)) e
    (h c.last (subst (Among c.last) (sym (flat_map-cons block_entries c blocks))
    (among_left (block_entries c) (entries_of_blocks blocks) c.last (last_there c))))
ends_after format b place (c ∷ blocks) h z (inr a) =
    ends_after format b (place + length (block_bytes format c)) blocks
    (λ y d. h y (subst (Among y) (sym (flat_map-cons block_entries c blocks))
    (among_right (block_entries c) (entries_of_blocks blocks) y d))) z a

ends_rise : (format : Format) (place : ℕ) (blocks : List Block)
    → Rises (EntryPrecedes Forward) (entries_of_blocks blocks)
    → Rises (EntryPrecedes Forward) (map end_spot (block_lines format place blocks))
ends_rise format place [] rises = tt
ends_rise format place (b ∷ blocks) rises =
    let parts = rising_parts (block_entries b) (entries_of_blocks blocks)
    (subst (Rises Up) (flat_map-cons block_entries b blocks) rises) in (
      λ z a. ends_after format b (place + length (block_bytes format b)) blocks
          (λ y c. parts.across b.last y (last_there b) c) z a,
      ends_rise format (place + length (block_bytes format b)) blocks parts.back,
    )

-- the lines of a table rise
pub lines_rise : (format : Format) (bytes : List ℕ) (entries : List Entry)
    (s : TableRepresentsIn format bytes entries)
    → AreRising (map end_spot (block_lines format 0 s.blocks))
lines_rise format bytes entries s =
    AllPairs-rises Up (map end_spot (block_lines format 0 s.blocks)) (ends_rise format 0 s.blocks
    (rises_from_AllPairs Up (entries_of_blocks s.blocks) (subst (AllPairs Up) s.division s.rising)))

fills_from : (format : Format) (place : ℕ) (blocks : List Block)
    → FillsPlaces place (block_lines format place blocks)
    (place + length (data_bytes format blocks))
fills_from format place [] = omega arith
fills_from format place (b ∷ blocks) =
    let below = fills_from format (place + length (block_bytes format b)) blocks in
    let size : length (data_bytes format (b ∷ blocks)) ≡ length (block_bytes format b) + length
    (data_bytes format blocks) =
    ap length (flat_map-cons (block_bytes format) b blocks)
    ∙ length-append (block_bytes format b) (data_bytes format blocks) in (
      refl,
      subst (λ (n : ℕ). FillsPlaces (place + length (block_bytes format b))
          (block_lines format (place + length (block_bytes format b)) blocks) n)
          (omega (arith, size)) below,
    )

lines_right : (format : Format) (place : ℕ) (blocks : List Block)
    → place + length (data_bytes format blocks) < 2 ^ 64
    → AllByRecursion (IsShortBlock format) blocks
    → AllByRecursion (IsEntryOf format) (entries_of_blocks blocks)
    → AllByRecursion (IsIndexLine format) (block_lines format place blocks)
lines_right format place [] room small each = tt
lines_right format place (b ∷ blocks) room small each =
    let size : length (data_bytes format (b ∷ blocks)) ≡ length (block_bytes format b) + length
    (data_bytes format blocks) =
    ap length (flat_map-cons (block_bytes format) b blocks)
    ∙ length-append (block_bytes format b) (data_bytes format blocks) in
    let parts = split_each (IsEntryOf format) (block_entries b) (entries_of_blocks blocks)
    (subst (AllByRecursion (IsEntryOf format)) (flat_map-cons block_entries b blocks) each) in
    let last = (split_each (IsEntryOf format) b.front (b.last ∷ []) parts.0).1.0 in (
      record {
        place = omega (arith, room);
        len = small.0;
        key = last.limits.key;
        space = last.key;
        number = last.limits.number;
      },
      lines_right format (place + length (block_bytes format b)) blocks
          (omega (arith, room, size)) small.1 parts.1,
    )

few_lines : (format : Format) (lines : List IndexLine)
    → length lines ≤ length (flat_map (line_bytes format) lines)
few_lines format [] = omega arith
few_lines format (x ∷ lines) =
    let below = few_lines format lines in
    omega (
      arith,
      below,
      ap length (flat_map-cons (line_bytes format) x lines),
      length-append (line_bytes format x) (flat_map (line_bytes format) lines),
    )

length-lines : (format : Format) (place : ℕ) (blocks : List Block)
    → length (block_lines format place blocks) ≡ length blocks
length-lines format place [] = refl
length-lines format place (b ∷ blocks) =
    let below = length-lines format (place + length (block_bytes format b)) blocks in omega
    (arith, below)

some_blocks : (blocks : List Block) (entries : List Entry) → entries ≡ entries_of_blocks blocks
    → 1 ≤ length entries → 1 ≤ length blocks
some_blocks [] entries is some = absurd (omega (arith, some, ap length is))
some_blocks (b ∷ blocks) entries is some = omega arith

is_index : (format : Format) (bytes : List ℕ) (entries : List Entry)
    (s : TableRepresentsIn format bytes entries)
    → IsIndex format (index_part format (block_lines format 0 s.blocks))
    (length (data_bytes format s.blocks))
    (block_lines format 0 s.blocks)
is_index format bytes entries s =
    let lines = block_lines format 0 s.blocks in
    let data_len = s.fits.data_len in
    let index_len = s.fits.index_len in
    let some = some_blocks s.blocks entries s.division s.some in
    let each = subst (AllByRecursion (IsEntryOf format)) s.division
    (recursion_from_All (IsEntryOf format) entries s.each) in
    record {
      spelled = refl;
      some = omega (arith, some, length-lines format 0 s.blocks);
      few = omega (
        arith,
        index_len,
        few_lines format lines,
        length-sealed (index_content format lines),
        length-append (be32 (length lines)) (flat_map (line_bytes format) lines),
      );
      each = All-from_recursion (IsIndexLine format) lines
          (lines_right format 0 s.blocks (omega (arith, data_len))
          (recursion_from_All (IsShortBlock format) s.blocks s.fits.each) each);
      rising = lines_rise format bytes entries s;
      fills = subst (λ (n : ℕ). FillsPlaces 0 lines n) (omega arith) (fills_from format 0 s.blocks);
    }

pub index_here : (format : Format) (bytes : List ℕ) (entries : List Entry)
    (s : TableRepresentsIn format bytes entries)
    (part : List ℕ) (place : ℕ) → part ≡ index_part format (block_lines format 0 s.blocks)
    → place ≡ length (data_bytes format s.blocks)
    → IsIndex format part place (block_lines format 0 s.blocks)
index_here format bytes entries s part place is at =
    let lines = block_lines format 0 s.blocks in
    subst (λ (p : List ℕ). IsIndex format p place lines) (sym is)
    (subst (λ (n : ℕ). IsIndex format (index_part format lines) n lines) (sym at)
    (is_index format bytes entries s))

-- an index that is one is refused only for want of memory
pub only_memory : (format : Format) (e : FileError) (part : List ℕ) (place : ℕ)
    (lines : List IndexLine)
    → (e ≡ Memory) ⊎ ((e ≡ Damaged) × ((a : List IndexLine) → IsIndex format part place a → ⊥))
    → IsIndex format part place lines → e ≡ Memory
only_memory format e part place lines (inl m) is = m
only_memory format e part place lines (inr d) is = absurd (d.1 lines is)

-- .. and so are a filter and an index
pub only_parts_memory : (format : Format) (e : FileError) (front back : List ℕ) (place : ℕ)
    (filter : List ℕ)
    (lines : List IndexLine) → (e ≡ Memory) ⊎ ((e ≡ Damaged) × ((f : List ℕ) (l : List IndexLine)
    → IsFilterPart front f → IsIndex format back place l → ⊥))
    → IsFilterPart front filter → IsIndex format back place lines → e ≡ Memory
only_parts_memory format e front back place filter lines (inl m) is_filter is = m
only_parts_memory format e front back place filter lines (inr d) is_filter is =
    absurd (d.1 filter lines is_filter is)

-- a damaged index is no index behind any filter
pub damaged_parts : (format : Format) (e : FileError) (front back part : List ℕ) (place : ℕ)
    → part ≡ back
    → (e ≡ Memory) ⊎ ((e ≡ Damaged) × ((a : List IndexLine) → IsIndex format part place a → ⊥))
    → (e ≡ Memory) ⊎ ((e ≡ Damaged) × ((f : List ℕ) (l : List IndexLine)
    → IsFilterPart front f → IsIndex format back place l → ⊥))
damaged_parts format e front back part place same (inl m) = inl m
damaged_parts format e front back part place same (inr d) =
    inr (
      d.0,
      λ f l is_filter is.
          d.1 l (subst (λ (p : List ℕ). IsIndex format p place l) (sym same) is),
    )
