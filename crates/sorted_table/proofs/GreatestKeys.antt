-- The key of the last entry, by the lines of an index.
use Rattle.std.proofs.Common.{◌≡◌, ◌+◌, ◌-◌, ◌<◌, ◌∙◌, ℕ, suc, List, [], ◌∷◌, ◌++◌, length}
use Rattle.std.proofs.Common.{ap, refl, sym, arith, length-append}
use Rattle.std.specs.List.{slice_get}
use Rattle.std.specs.Option.{option_map}
use Rattle.std.specs.Rc.{rc_slice_items}
use Rattle.std.proofs.lemmas.List.{append-nil}
use Rattle.std.proofs.lemmas.List.Concat.{flat_map-cons}
use Rattle.disk.specs.{Slot}
use Rattle.kv_types.specs.{Entry}
use Rattle.table_format.specs.RisingLemmas.{last_push}
use Rattle.table_format.specs.{Block, block_bytes, block_entries, block_lines, entries_of_blocks}
use Rattle.table_format.specs.{last_entry}
use Rattle.byte_fields.specs.declared.format.Format.{Format}
use Rattle.table_format.specs.declared.IndexLine.{IndexLine}
use Rattle.sorted_table.specs.Open.{TableServes, greatest_key, index_lines, last_line_key}
use Rattle.sorted_table.specs.declared.table.Table.{Table}

-- the last of some entries behind others
last_behind : (xs ys : List Entry) → 0 < length ys → last_entry (xs ++ ys) ≡ last_entry ys
last_behind [] ys some = refl
last_behind (x ∷ []) [] some = absurd (omega (arith, some))
last_behind (x ∷ []) (y ∷ ys) some = refl
last_behind (x ∷ z ∷ xs) ys some = last_behind (z ∷ xs) ys some

-- entries of a block more in front
greatest_behind : (b next : Block) (blocks : List Block)
    → greatest_key (entries_of_blocks (b ∷ next ∷ blocks))
    ≡ greatest_key (entries_of_blocks (next ∷ blocks))
greatest_behind b next blocks =
    let others = entries_of_blocks (next ∷ blocks) in
    let some : 0 < length others =
    omega (
      arith,
      ap length (flat_map-cons block_entries next blocks),
      length-append (block_entries next) (entries_of_blocks blocks),
      length-append next.front (next.last ∷ []),
    ) in
    ap greatest_key (flat_map-cons block_entries b (next ∷ blocks))
    ∙ ap (option_map (λ (e : Entry). e.key)) (last_behind (block_entries b) others some)

-- the last line of an index has the key of the last entry
pub last_key : (format : Format) (place : ℕ) (blocks : List Block)
    → option_map (λ (line : IndexLine). line.key)
    (slice_get (block_lines format place blocks) (length (block_lines format place blocks) - 1))
    ≡ greatest_key (entries_of_blocks blocks)
last_key format place [] = refl
last_key format place (b ∷ []) =
    sym (ap greatest_key (flat_map-cons block_entries b [])
    ∙ ap (λ (l : List Entry). greatest_key l) (append-nil (block_entries b))
    ∙ ap (option_map (λ (e : Entry). e.key)) (last_push b.front b.last))
last_key format place (b ∷ next ∷ blocks) =
    let behind = place + length (block_bytes format b) in
    let lines = block_lines format behind (next ∷ blocks) in
    let at : length (block_lines format place (b ∷ next ∷ blocks)) - 1 ≡ suc (length lines - 1) =
    omega arith in
    ap (λ (i : ℕ). option_map (λ (line : IndexLine). line.key)
    (slice_get (block_lines format place (b ∷ next ∷ blocks)) i)) at
    ∙ (last_key format behind (next ∷ blocks) ∙ sym (greatest_behind b next blocks))

-- the key of the last of some lines, which stands at the last place
pub last_line_is : (lines : List IndexLine)
    → option_map (λ (line : IndexLine). line.key) (slice_get lines (length lines - 1))
    ≡ last_line_key lines
last_line_is [] = refl
last_line_is (line ∷ []) = refl
last_line_is (line ∷ next ∷ lines) =
    let at : length (line ∷ next ∷ lines) - 1 ≡ suc (length (next ∷ lines) - 1) = omega arith in
    ap (λ (i : ℕ). option_map (λ (one : IndexLine). one.key) (slice_get (line ∷ next ∷ lines) i)) at
    ∙ last_line_is (next ∷ lines)

-- the last line of a table's index
pub kept_greatest : (table : Table) (lines : List IndexLine) → lines ≡ rc_slice_items table.lines
    → option_map (λ (line : IndexLine). line.key) (slice_get lines (length lines - 1))
    ≡ last_line_key (index_lines table)
kept_greatest table lines are = last_line_is lines ∙ ap last_line_key are

-- the last line of a table that serves entries
pub served_greatest : (file : Slot) (table : Table) (entries : List Entry) (lines : List IndexLine)
    → lines ≡ rc_slice_items table.lines → TableServes file table entries
    → option_map (λ (line : IndexLine). line.key) (slice_get lines (length lines - 1))
    ≡ greatest_key entries
served_greatest file table entries lines are serves =
    ap (λ (all : List IndexLine). option_map (λ (line : IndexLine). line.key)
    (slice_get all (length all - 1))) (are ∙ serves.lines)
    ∙ (last_key table.format 0 serves.represents.blocks
    ∙ sym (ap greatest_key serves.represents.division))
