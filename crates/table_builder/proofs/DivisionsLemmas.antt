-- How the division of entries into blocks grows, and how large its parts are.
use Rattle.std.proofs.Common.{◌≡◌, ℕ, suc, ◌+◌, ◌*◌, ◌≤◌, ◌<◌, Bool, true, false, leb, cond}
use Rattle.std.proofs.Common.{List, [], ◌∷◌, ◌++◌, length, IfSome, Option, Some, None}
use Rattle.std.proofs.Common.{refl, sym, ap, subst, ◌∙◌, arith, append_assoc, length-append}
use Rattle.std.specs.List.{flat_map, AllByRecursion}
use Rattle.std.specs.Int.{w16, to_be_bytes}
use Rattle.std.proofs.lemmas.Bool.{le-leb, leb-true, leb-false}
use Rattle.std.proofs.lemmas.Grind.{flat_map-append}
use Rattle.std.proofs.lemmas.List.{append-nil}
use Rattle.std.proofs.lemmas.List.Concat.{flat_map-cons}
use Rattle.byte_fields.specs.{key_bytes}
use Rattle.byte_fields.specs.SpelledKeysLemmas.{key_bytes-short}
use Rattle.kv_types.specs.{Entry}
use Rattle.kv_types.specs.declared.bounds.TheConstants.{MAX_VALUE}
use Rattle.table_format.specs.declared.IndexLine.{IndexLine}
use Rattle.table_format.specs.declared.sizes.TheConstants.{BLOCK_SIZE}
use Rattle.table_format.specs.Blocks.{change_bytes}
use Rattle.table_format.specs.{Block, IsTableEntry, be64, block_bytes, block_content, block_entries}
use Rattle.table_format.specs.{block_line, block_lines, block_part, data_bytes, entries_of_blocks}
use Rattle.table_format.specs.{entry_bytes}
use Rattle.table_format.specs.FrontsLemmas.{IsShortBlock, entry_long, length-block_content}
use Rattle.table_format.specs.FrontsLemmas.{length-block_part}
use Rattle.table_format.specs.PassedLemmas.{all_push, flat_push}
use Rattle.byte_fields.specs.declared.format.Format.TheVariants.{Two}
use Rattle.table_builder.specs.Divisions.{Division, block_from, data_size, division}
use Rattle.table_builder.specs.Divisions.{finished_blocks, last_block, with_entries, with_entry}

-- ---- one entry more

entries_push : (it : Division) (entries : List Entry) (entry : Entry)
    → with_entries it (entries ++ entry ∷ []) ≡ with_entry (with_entries it entries) entry
entries_push it [] entry = refl
entries_push it (x ∷ entries) entry = entries_push (with_entry it x) entries entry

pub division_push : (entries : List Entry) (entry : Entry)
    → division (entries ++ entry ∷ []) ≡ with_entry (division entries) entry
division_push entries entry = entries_push (record { closed = []; opened = [] }) entries entry

pub length-data_push : (blocks : List Block) (one : Block)
    → length (data_bytes Two (blocks ++ one ∷ []))
    ≡ length (data_bytes Two blocks) + length (block_bytes Two one)
length-data_push blocks one =
    ap length (flat_push (block_bytes Two) blocks one)
    ∙ length-append (data_bytes Two blocks) (block_bytes Two one)

pub entries_of_push : (blocks : List Block) (one : Block)
    → entries_of_blocks (blocks ++ one ∷ []) ≡ entries_of_blocks blocks ++ block_entries one
entries_of_push blocks one =
    flat_map-append block_entries blocks (one ∷ [])
    ∙ ap (λ (r : List Entry). entries_of_blocks blocks ++ r)
    (flat_map-cons block_entries one [] ∙ append-nil (block_entries one))

-- ---- the block that is not full

-- the block of some entries has them
pub block_from_entries : (entry : Entry) (others : List Entry)
    → block_entries (block_from entry others) ≡ entry ∷ others
block_from_entries entry [] = refl
block_from_entries entry (next ∷ others) =
    ap (λ (l : List Entry). entry ∷ l) (block_from_entries next others)

-- the bytes of the open block; none without entries
abbrev pub open_size : List Entry → ℕ
open_size [] = 0
open_size (entry ∷ entries) = length (block_part Two (entry ∷ entries))

pub length-finished : (it : Division) → length (data_bytes Two (finished_blocks it))
    ≡ length (data_bytes Two it.closed) + open_size it.opened
length-finished it = by it.opened
  where
    by : (opened : List Entry) → length (data_bytes Two (it.closed ++ last_block opened))
        ≡ length (data_bytes Two it.closed) + open_size opened
    by [] = omega (arith, ap (λ (b : List Block). length (data_bytes Two b)) (append-nil it.closed))
    by (entry ∷ others) =
        length-data_push it.closed (block_from entry others)
        ∙ ap (λ (l : List Entry). length (data_bytes Two it.closed) + length (block_part Two l))
        (block_from_entries entry others)

open_size_push : (entries : List Entry) (entry : Entry)
    → open_size (entries ++ entry ∷ []) ≡ length (block_part Two (entries ++ entry ∷ []))
open_size_push [] entry = refl
open_size_push (x ∷ entries) entry = refl

-- whether or not the entry closes its block, the size is that of both
size_by : (it : Division) (entry : Entry) (b : Bool)
    → length (data_bytes Two (finished_blocks (cond b
    (record { closed = it.closed ++ record { front = it.opened; last = entry } ∷ []; opened = [] })
    (record { closed = it.closed; opened = it.opened ++ entry ∷ [] }))))
    ≡ length (data_bytes Two it.closed) + length (block_part Two (it.opened ++ entry ∷ []))
size_by it entry true =
    let one : Block = record { front = it.opened; last = entry } in
    ap (λ (b : List Block). length (data_bytes Two b)) (append-nil (it.closed ++ one ∷ []))
    ∙ length-data_push it.closed one
size_by it entry false =
    length-finished (record { closed = it.closed; opened = it.opened ++ entry ∷ [] })
    ∙ ap (λ (n : ℕ). length (data_bytes Two it.closed) + n) (open_size_push it.opened entry)

pub size_push : (entries : List Entry) (entry : Entry) → data_size (entries ++ entry ∷ [])
    ≡ length (data_bytes Two (division entries).closed)
    + length (block_part Two ((division entries).opened ++ entry ∷ []))
size_push entries entry =
    let it = division entries in
    ap (λ (parts : Division). length (data_bytes Two (finished_blocks parts)))
    (division_push entries entry)
    ∙ size_by it entry (leb BLOCK_SIZE (length (block_content Two (it.opened ++ entry ∷ []))))

-- the entry closes its block, or does not
pub with_entry_full : (it : Division) (entry : Entry)
    → BLOCK_SIZE ≤ length (block_content Two (it.opened ++ entry ∷ [])) → with_entry it entry
    ≡ record { closed = it.closed ++ record { front = it.opened; last = entry } ∷ []; opened = [] }
with_entry_full it entry full =
    ap (λ (b : Bool). cond b
    (record { closed = it.closed ++ record { front = it.opened; last = entry } ∷ []; opened = [] })
    (record { closed = it.closed; opened = it.opened ++ entry ∷ [] })) (le-leb _ _ full)

-- ---- lines of an index

pub lines_push : (place : ℕ) (blocks : List Block) (one : Block)
    → block_lines Two place (blocks ++ one ∷ [])
    ≡ block_lines Two place blocks ++ block_line Two (place + length (data_bytes Two blocks)) one ∷
    []
lines_push place [] one =
    let here : place + length (data_bytes Two []) ≡ place = omega arith in
    ap (λ (p : ℕ). block_line Two p one ∷ []) (sym here)
lines_push place (first ∷ blocks) one =
    let below = lines_push (place + length (block_bytes Two first)) blocks one in
    let there : place + length (block_bytes Two first) + length (data_bytes Two blocks)
    ≡ place + length (data_bytes Two (first ∷ blocks)) =
    omega (
      arith,
      ap length (flat_map-cons (block_bytes Two) first blocks),
      length-append (block_bytes Two first) (data_bytes Two blocks),
    ) in
    ap (λ (ls : List IndexLine). block_line Two place first ∷ ls) below
    ∙ ap (λ (p : ℕ). block_line Two place first
    ∷ (block_lines Two (place + length (block_bytes Two first)) blocks
    ++ block_line Two p one ∷ [])) there

pub length-lines : (place : ℕ) (blocks : List Block)
    → length (block_lines Two place blocks) ≡ length blocks
length-lines place [] = refl
length-lines place (first ∷ blocks) =
    ap suc (length-lines (place + length (block_bytes Two first)) blocks)

-- ---- sizes

change_short : (value : Option (List ℕ)) → IfSome value (λ v. length v ≤ MAX_VALUE)
    → length (change_bytes value) ≤ 16387
change_short (Some value) short =
    omega (arith, short, length-append (to_be_bytes w16 (length value)) value)
change_short None short = omega arith

pub entry_short : (entry : Entry) → IsTableEntry entry → length (entry_bytes Two entry) ≤ 17422
entry_short entry is =
    let change = change_short entry.value is.value in
    let key = key_bytes-short entry.key is.key in
    omega (
      arith,
      change,
      key,
      length-append (key_bytes entry.key) (be64 entry.number ++ change_bytes entry.value),
      length-append (be64 entry.number) (change_bytes entry.value),
    )

pub length-entries_push : (entries : List Entry) (entry : Entry)
    → length (flat_map (entry_bytes Two) (entries ++ entry ∷ []))
    ≡ length (flat_map (entry_bytes Two) entries) + length (entry_bytes Two entry)
length-entries_push entries entry =
    ap length (flat_push (entry_bytes Two) entries entry)
    ∙ length-append (flat_map (entry_bytes Two) entries) (entry_bytes Two entry)

-- entries in some bytes are few
pub entries_long : (entries : List Entry)
    → 9 * length entries ≤ length (flat_map (entry_bytes Two) entries)
entries_long [] = omega arith
entries_long (entry ∷ entries) =
    omega (
      arith,
      entry_long Two entry,
      entries_long entries,
      ap length (flat_map-cons (entry_bytes Two) entry entries),
      length-append (entry_bytes Two entry) (flat_map (entry_bytes Two) entries),
    )

pub data_long : (blocks : List Block)
    → 9 * length (entries_of_blocks blocks) ≤ length (data_bytes Two blocks)
data_long [] = omega arith
data_long (block ∷ blocks) =
    omega (
      arith,
      data_long blocks,
      entries_long (block_entries block),
      length-block_part Two (block_entries block),
      ap length (flat_map-cons (block_bytes Two) block blocks),
      length-append (block_bytes Two block) (data_bytes Two blocks),
      ap length (flat_map-cons block_entries block blocks),
      length-append (block_entries block) (entries_of_blocks blocks),
    )

-- The entries of a division. Its closed blocks are not short, and none is long.
pub record IsFine (it : Division) (entries : List Entry) : Type 0 where
  pub all : entries_of_blocks it.closed ++ it.opened ≡ entries
  pub small : AllByRecursion (IsShortBlock Two) it.closed
  pub long : 4104 * length it.closed ≤ length (data_bytes Two it.closed)
  pub short : length (block_content Two it.opened) < BLOCK_SIZE

-- the open block with one entry more fits its fields
pub opened_small : (opened : List Entry) (entry : Entry)
    → length (block_content Two opened) < BLOCK_SIZE → IsTableEntry entry
    → length (block_part Two (opened ++ entry ∷ [])) < 21536
opened_small opened entry short is =
    omega (
      arith,
      short,
      entry_short entry is,
      length-block_content Two opened,
      length-entries_push opened entry,
      length-block_part Two (opened ++ entry ∷ []),
    )

fine_by : (it : Division) (entries : List Entry) (entry : Entry) (b : Bool)
    → leb BLOCK_SIZE (length (block_content Two (it.opened ++ entry ∷ []))) ≡ b → IsFine it entries
    → IsTableEntry entry → IsFine (cond b
    (record { closed = it.closed ++ record { front = it.opened; last = entry } ∷ []; opened = [] })
    (record { closed = it.closed; opened = it.opened ++ entry ∷ [] })) (entries ++ entry ∷ [])
fine_by it entries entry true test f is =
    let one : Block = record { front = it.opened; last = entry } in
    let full = leb-true BLOCK_SIZE (length (block_content Two (block_entries one))) test in
    let small : length (block_part Two (block_entries one)) < 21536 =
    opened_small it.opened entry f.short is in
    let long = f.long in
    record {
      all = append-nil (entries_of_blocks (it.closed ++ one ∷ []))
          ∙ entries_of_push it.closed one
          ∙ sym (append_assoc (entries_of_blocks it.closed) it.opened (entry ∷ []))
          ∙ ap (λ (r : List Entry). r ++ entry ∷ []) f.all;
      small = all_push (IsShortBlock Two) it.closed one f.small (omega (arith, small));
      long = omega (
        arith,
        full,
        long,
        length-data_push it.closed one,
        length-block_part Two (block_entries one),
        length-block_content Two (block_entries one),
        length-append it.closed (one ∷ []),
      );
      short = omega arith;
    }
fine_by it entries entry false test f is =
    record {
      all = sym (append_assoc (entries_of_blocks it.closed) it.opened (entry ∷ []))
          ∙ ap (λ (r : List Entry). r ++ entry ∷ []) f.all;
      small = f.small;
      long = f.long;
      short = leb-false BLOCK_SIZE (length (block_content Two (it.opened ++ entry ∷ []))) test;
    }

fine_entries : (it : Division) (done entries : List Entry) → IsFine it done
    → AllByRecursion IsTableEntry entries → IsFine (with_entries it entries) (done ++ entries)
fine_entries it done [] f each = subst (IsFine it) (sym (append-nil done)) f
fine_entries it done (entry ∷ entries) f each =
    subst (IsFine (with_entries it (entry ∷ entries))) (append_assoc done (entry ∷ []) entries)
    (fine_entries (with_entry it entry) (done ++ entry ∷ []) entries
    (fine_by it done entry (leb BLOCK_SIZE (length (block_content Two (it.opened ++ entry ∷ []))))
    refl f each.0) each.1)

pub division_fine : (entries : List Entry) → AllByRecursion IsTableEntry entries
    → IsFine (division entries) entries
division_fine entries each =
    fine_entries (record { closed = []; opened = [] }) [] entries
    (record { all = refl; small = tt; long = omega arith; short = omega arith }) each
