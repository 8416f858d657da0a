-- A block is closed, and a table is ended.
use Rattle.std.proofs.Common.{◌≡◌, ℕ, suc, ◌+◌, ◌*◌, ◌≤◌, ◌<◌, ◌^◌, Bool, true, false, cond}
use Rattle.std.proofs.Common.{List, [], ◌∷◌, ◌++◌, length, Option, Some, None, IfSome}
use Rattle.std.proofs.Common.{refl, sym, ap, ap₂, subst, ◌∙◌, arith, append_assoc, length-append}
use Rattle.std.proofs.Common.{Result, Ok, Err}
use Rattle.std.specs.Prelude.{OnOk}
use Rattle.std.specs.List.{flat_map, AllByRecursion}
use Rattle.std.proofs.lemmas.List.{append-nil}
use Rattle.std.proofs.lemmas.List.Concat.{flat_map-cons}
use Rattle.std.proofs.lemmas.List.Elements.{All-from_recursion, All-weaker, recursion_from_All}
use Rattle.bloom.specs.{IsFilter}
use Rattle.byte_fields.specs.{IsStoredKey, key_bytes}
use Rattle.byte_fields.specs.SpelledKeysLemmas.{key_bytes-short}
use Rattle.kv_types.specs.{Entry}
use Rattle.table_format.specs.declared.Footer.{Footer}
use Rattle.table_format.specs.declared.IndexLine.{IndexLine}
use Rattle.table_format.specs.Tables.{begins_with}
use Rattle.table_format.specs.{Block, IsEntryOf, IsTableEntry, TableRepresentsIn, be32, be64}
use Rattle.table_format.specs.{block_bytes}
use Rattle.table_format.specs.{block_content, block_entries, block_line, block_lines, data_bytes}
use Rattle.table_format.specs.{different_keys, entries_of_blocks, entry_bytes, filter_part}
use Rattle.table_format.specs.{footer_part}
use Rattle.table_format.specs.{index_content, index_part, last_entry, line_bytes}
use Rattle.table_format.specs.FrontsLemmas.{IsShortBlock, length-block_content, length-block_part}
use Rattle.table_format.specs.FrontsLemmas.{split_each}
use Rattle.table_format.specs.PassedLemmas.{all_push}
use Rattle.table_format.specs.RisingLemmas.{last_push}
use Rattle.table_format.specs.SealedLemmas.{length-sealed}
use Rattle.table_format.specs.TablesLemmas.{length-footer}
use Rattle.byte_fields.specs.declared.format.Format.TheVariants.{Two}
use Rattle.table_builder.specs.declared.builder.Builder.{Builder}
use Rattle.table_builder.specs.Builders.{HoldsBlocks, HoldsEntries}
use Rattle.table_builder.specs.Closing.{CanClose, CanEnd}
use Rattle.table_builder.specs.Divisions.{Division, block_from, division, finished_blocks}
use Rattle.table_builder.specs.Divisions.{last_block}
use Rattle.table_builder.specs.Keys.{KnowsKeys}
use Rattle.table_builder.specs.OpenParts.{HoldsItems}
use Rattle.table_builder.specs.Tails.{tail_of}
use Rattle.table_builder.proofs.BuildersLemmas.{bounds, fine}
use Rattle.table_builder.proofs.DivisionsLemmas.{block_from_entries, data_long, entries_of_push}
use Rattle.table_builder.proofs.DivisionsLemmas.{length-finished, length-lines}

-- an answer that implies another
pub on_ok_map : {T E P Q : Type 0} (result : Result T E) → (P → Q) → OnOk result P → OnOk result Q
on_ok_map (Ok x) so p = so p
on_ok_map (Err e) so p = tt

-- ---- the line of a block

pub line_is : (line : IndexLine) (place : ℕ) (one : Block) → line.place ≡ place
    → line.len ≡ length (block_bytes Two one) → line.key ≡ one.last.key
    → line.number ≡ one.last.number
    → line ≡ block_line Two place one
line_is line place one at len key number =
    same line.place place line.len (length (block_bytes Two one)) line.key one.last.key line.number
    one.last.number at len key number
  where
    same : (p q m n : ℕ) (k l : List ℕ) (i j : ℕ) → p ≡ q → m ≡ n → k ≡ l → i ≡ j →
        ◌≡◌ {A = IndexLine} (record { place = p; len = m; key = k; number = i })
        (record { place = q; len = n; key = l; number = j })
    same p q m n k l i j a b c d = cc

-- ---- lengths of filter and index

few_by : (b : Bool) (key : List ℕ) (keys : List (List ℕ)) (n : ℕ) → length keys ≤ n
    → length (cond b keys (key ∷ keys)) ≤ suc n
few_by true key keys n le = omega (arith, le)
few_by false key keys n le = omega (arith, le)

keys_few : (entries : List Entry) → length (different_keys entries) ≤ length entries
keys_few [] = omega arith
keys_few (entry ∷ entries) =
    few_by (begins_with entry.key entries) entry.key (different_keys entries) (length entries)
    (keys_few entries)

pub length-filter_part : (filter : List ℕ) → length (filter_part filter) ≡ 12 + length filter
length-filter_part filter =
    omega (
      arith,
      length-sealed (be32 (length filter) ++ filter),
      length-append (be32 (length filter)) filter,
    )

line_short : (line : IndexLine) → IsStoredKey line.key → length (line_bytes Two line) ≤ 1047
line_short line is =
    let short = key_bytes-short line.key is in
    omega (
      arith,
      short,
      length-append (be64 line.place) (be32 line.len ++ (key_bytes line.key ++ be64 line.number)),
      length-append (be32 line.len) (key_bytes line.key ++ be64 line.number),
      length-append (key_bytes line.key) (be64 line.number),
    )

lines_short : (place : ℕ) (blocks : List Block)
    → AllByRecursion IsTableEntry (entries_of_blocks blocks)
    → length (flat_map (line_bytes Two) (block_lines Two place blocks)) ≤ 1047 * length blocks
lines_short place [] each = omega arith
lines_short place (block ∷ blocks) each =
    let parts = split_each IsTableEntry (block_entries block) (entries_of_blocks blocks)
    (subst (AllByRecursion IsTableEntry) (flat_map-cons block_entries block blocks) each) in
    let last = split_each IsTableEntry block.front (block.last ∷ []) parts.0 in
    let rest = block_lines Two (place + length (block_bytes Two block)) blocks in
    let below = lines_short (place + length (block_bytes Two block)) blocks parts.1 in
    let key = last.1.0.key in
    omega (
      arith,
      below,
      line_short (block_line Two place block) key,
      ap length (flat_map-cons (line_bytes Two) (block_line Two place block) rest),
      length-append (line_bytes Two (block_line Two place block)) (flat_map (line_bytes Two) rest),
    )

length-index_part : (lines : List IndexLine)
    → length (index_part Two lines) ≡ 12 + length (flat_map (line_bytes Two) lines)
length-index_part lines =
    omega (
      arith,
      length-sealed (index_content Two lines),
      length-append (be32 (length lines)) (flat_map (line_bytes Two) lines),
    )

-- ---- a table is ended

-- its lengths fit their fields
pub record TailFits (blocks : List Block) (filter : List ℕ) : Type 0 where
  pub filter_len : length (filter_part filter) < 2 ^ 32
  pub index_len : length (index_part Two (block_lines Two 0 blocks)) < 2 ^ 32
  pub lines : length (block_lines Two 0 blocks) < 2 ^ 32

pub tail_fits : (it : Builder) (blocks : List Block) (entries : List Entry) (filter : List ℕ)
    → CanEnd it blocks entries → IsFilter (different_keys entries) filter → TailFits blocks filter
tail_fits it blocks entries filter can exact =
    let len = exact.len in
    let size = can.size in
    let long = can.long in
    let each = subst (AllByRecursion IsTableEntry) can.division
    (recursion_from_All IsTableEntry entries can.each) in
    record {
      filter_len = omega (
        arith,
        length-filter_part filter,
        len,
        keys_few entries,
        data_long blocks,
        ap length can.division,
        size,
      );
      index_len = omega (
        arith,
        length-index_part (block_lines Two 0 blocks),
        lines_short 0 blocks each,
        long,
        size,
      );
      lines = omega (arith, length-lines 0 blocks, long, size);
    }

-- filter, index and footer behind the blocks
pub is_table : (it : Builder) (blocks : List Block) (entries : List Entry) (filter tail : List ℕ)
    → CanEnd it blocks entries → IsFilter (different_keys entries) filter
    → tail ≡ tail_of filter (index_part Two (block_lines Two 0 blocks)) it.written it.keys.count
    → (holds : TableRepresentsIn Two (data_bytes Two blocks ++ tail) entries)
    × (holds.blocks ≡ blocks)
is_table it blocks entries filter tail can exact tail_is =
    let fits = tail_fits it blocks entries filter can exact in
    let index = index_part Two (block_lines Two 0 blocks) in
    let count = can.keys.count ∙ ap length can.division in (
      record {
        blocks = blocks;
        filter = filter;
        spelled = ap (λ (t : List ℕ). data_bytes Two blocks ++ t)
            (tail_is ∙ ap₂ (tail_of filter index) can.closed.written count);
        division = can.division;
        some = can.some;
        each = All-weaker IsTableEntry (IsEntryOf Two)
            (λ entry is. record { limits = is; key = tt }) entries can.each;
        rising = can.rising;
        exact = exact;
        fits = record {
          data_len = can.size;
          each = can.small;
          filter_len = fits.filter_len;
          index_len = fits.index_len;
        };
      },
      refl,
    )

pub length-tail_of : (filter index : List ℕ) (place entries : ℕ)
    → length (tail_of filter index place entries)
    ≡ length (filter_part filter) + length index + 52
length-tail_of filter index place entries =
    let footer : Footer = record {
      index = place + length (filter_part filter);
      index_len = length index;
      filter = place;
      filter_len = length (filter_part filter);
      entries = entries;
      format = Two;
    } in
    omega (
      arith,
      length-append (filter_part filter) (index ++ footer_part footer),
      length-append index (footer_part footer),
      length-footer footer,
    )

-- entries are in a block
pub blocks_some : (blocks : List Block) → 1 ≤ length (entries_of_blocks blocks) → 0 < length blocks
blocks_some [] some = absurd (omega (arith, some))
blocks_some (block ∷ blocks) some = omega arith

-- ---- what a builder can end with

nil_by : (entries : List Entry) → length entries ≡ 0 → entries ≡ []
nil_by [] e = refl
nil_by (x ∷ entries) e = absurd (omega (arith, e))

-- no block is open
pub finished_none : (it : Division) → length it.opened ≡ 0 → finished_blocks it ≡ it.closed
finished_none it none =
    ap (λ (l : List Entry). it.closed ++ last_block l) (nil_by it.opened none)
    ∙ append-nil it.closed

-- one is open, with these entries
pub finished_some : (it : Division) (first : Entry) (others : List Entry)
    → it.opened ≡ first ∷ others
    → finished_blocks it ≡ it.closed ++ block_from first others ∷ []
finished_some it first others is = ap (λ (l : List Entry). it.closed ++ last_block l) is

pub opened_some : (opened : List Entry) → 0 < length opened
    → (first : Entry) × (others : List Entry) × (opened ≡ first ∷ others)
opened_some [] some = absurd (omega (arith, some))
opened_some (x ∷ xs) some = (x, xs, refl)

-- the key of the last entry, alone
pub last_key : (o : Option Entry) (was now : List ℕ) (number : ℕ) → now ≡ was
    → IfSome o (λ entry. (was ≡ entry.key) × (number ≡ entry.number))
    → IfSome o (λ entry. now ≡ entry.key)
last_key (Some entry) was now number same h = same ∙ h.0
last_key None was now number same h = tt

-- the open block with its entries can be closed
pub can_close_last : (it : Builder) (entries : List Entry) (first : Entry) (others : List Entry)
    → HoldsEntries it entries → (division entries).opened ≡ first ∷ others
    → CanClose it (division entries).closed (block_from first others)
can_close_last it entries first others h is =
    let parts = division entries in
    let one = block_from first others in
    let f = fine it entries h in
    let m = bounds it entries h in
    let opened = is ∙ sym (block_from_entries first others) in
    let all : entries ≡ (entries_of_blocks parts.closed ++ one.front) ++ one.last ∷ [] =
    sym f.all ∙ ap (λ (r : List Entry). entries_of_blocks parts.closed ++ r) opened
    ∙ sym (append_assoc (entries_of_blocks parts.closed) one.front (one.last ∷ [])) in
    let at_end = ap last_entry all
    ∙ last_push (entries_of_blocks parts.closed ++ one.front) one.last in
    let ends = subst (λ (o : Option Entry). IfSome o (λ r. (it.keys.last ≡ r.key)
    × (it.keys.number ≡ r.number))) at_end h.keys.last in
    let short = f.short in
    let few = m.blocks_few in
    record {
      closed = h.parts.closed;
      entries = subst (HoldsItems (entry_bytes Two) it.block) opened h.parts.block;
      key = ends.0;
      number = ends.1;
      small = omega (
        arith,
        short,
        ap (λ (r : List Entry). length (block_content Two r)) opened,
        length-block_content Two (block_entries one),
        length-block_part Two (block_entries one),
      );
      few = omega (arith, few);
      room = omega (arith, m.written, h.parts.closed.written);
    }

-- the blocks of all entries
module _ (it : Builder) (entries : List Entry) (h : HoldsEntries it entries)
    (some : 1 ≤ length entries) (new : Builder) (keys : new.keys ≡ it.keys)
    (closed : HoldsBlocks new (finished_blocks (division entries))) where
  pub can_end : CanEnd new (finished_blocks (division entries)) entries
  can_end =
      let parts = division entries in
      let f = fine it entries h in
      let long = f.long in
      let more = few_more parts.opened in
      record {
        closed = closed;
        are = refl;
        keys = subst (λ k. KnowsKeys k entries) (sym keys) h.keys;
        division = sym f.all ∙ joins parts.opened;
        some = some;
        each = h.each;
        rising = h.rising;
        size = h.size;
        small = All-from_recursion (IsShortBlock Two) (finished_blocks parts)
            (smalls parts.opened f.short);
        long = omega (arith, long, length-finished parts, more);
      }
    where
      joins : (opened : List Entry) → entries_of_blocks (division entries).closed ++ opened
          ≡ entries_of_blocks ((division entries).closed ++ last_block opened)
      joins [] = append-nil (entries_of_blocks (division entries).closed)
          ∙ sym (ap entries_of_blocks (append-nil (division entries).closed))
      joins (x ∷ xs) =
          sym (entries_of_push (division entries).closed (block_from x xs)
          ∙ ap (λ (r : List Entry). entries_of_blocks (division entries).closed ++ r)
          (block_from_entries x xs))

      few_more : (opened : List Entry)
          → length ((division entries).closed ++ last_block opened) ≤ length
          (division entries).closed + 1
      few_more [] = omega (arith, length-append (division entries).closed [])
      few_more (x ∷ xs) = omega (
        arith,
        length-append (division entries).closed (block_from x xs ∷ []),
      )

      smalls : (opened : List Entry) → length (block_content Two opened) < 4096
          → AllByRecursion (IsShortBlock Two) ((division entries).closed ++ last_block opened)
      smalls [] short = subst (AllByRecursion (IsShortBlock Two))
          (sym (append-nil (division entries).closed)) (fine it entries h).small
      smalls (x ∷ xs) short =
          all_push (IsShortBlock Two) (division entries).closed (block_from x xs)
          (fine it entries h).small
          (omega (
            arith,
            short,
            ap (λ (r : List Entry). length (block_content Two r))
                (block_from_entries x xs),
            length-block_content Two (block_entries (block_from x xs)),
            length-block_part Two (block_entries (block_from x xs)),
          ))
