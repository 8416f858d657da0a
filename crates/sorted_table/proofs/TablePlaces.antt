-- Places in the blocks of a table, and which of the table's entries stand there.
use Rattle.std.proofs.Common.{◌≡◌, ℕ, zero, suc, ◌+◌, ◌≤◌, ◌<◌, List, [], ◌∷◌, ◌++◌, length, take}
use Rattle.std.proofs.Common.{drop}
use Rattle.std.proofs.Common.{Option, Some, None, IfSome, Bool, false, sym, ap, subst, ◌∙◌}
use Rattle.std.proofs.Common.{arith, length-append, inl, inr}
use Rattle.std.specs.List.{slice_get}
use Rattle.std.specs.Rc.{rc_slice_items}
use Rattle.std.proofs.lemmas.List.{take_all}
use Rattle.std.proofs.lemmas.List.Concat.{flat_map-cons}
use Rattle.std.proofs.lemmas.Grind.{flat_map-append}
use Rattle.std.proofs.lemmas.Option.{slice_get_cases, slice_get_past}
use Rattle.kv_types.specs.{Entry}
use Rattle.byte_fields.specs.{◌>>=◌}
use Rattle.merge_iter.specs.declared.Direction.TheVariants.{Forward, Backward}
use Rattle.table_format.specs.{Block, block_entries, block_lines, entries_of_blocks}
use Rattle.byte_fields.specs.declared.format.Format.{Format}
use Rattle.table_format.specs.declared.IndexLine.{IndexLine}
use Rattle.table_files.specs.declared.block.CheckedBlock.{CheckedBlock}
use Rattle.sorted_table.specs.declared.block_place.BlockPlace.{BlockPlace}
use Rattle.table_files.specs.{ReadsEntries, entry_read}
use Rattle.sorted_table.specs.BlockPlaces.{IsMovedTo, place_entry}
use Rattle.sorted_table.specs.TableCursors.{HasEntered, IsPlaceIn, entry_position}
use Rattle.sorted_table.specs.TableCursors.{table_position}
use Rattle.sorted_table.proofs.BlockNumbers.{around, length-block_lines}
use Rattle.sorted_table.proofs.StartSearches.{entry_of_start}
use Rattle.table_files.specs.EntryReadsLemmas.{count_read}

-- another place of the same block
pub moved_in : (blocks : List Block) (old new : BlockPlace) (at : ℕ) → IsMovedTo at old new
    → IsPlaceIn blocks old → IsPlaceIn blocks new
moved_in blocks old new at m p = record {
  block = p.block;
  present = ap (slice_get blocks) m.line ∙ p.present;
  reads = subst (λ (b : CheckedBlock).
      ReadsEntries b.format (rc_slice_items b.bytes) (rc_slice_items b.starts)
      (block_entries p.block))
      (sym m.block) p.reads;
}

-- ---- numbers of entries

-- how many entries stand in the blocks before block n
abbrev pub first_number : List Block → ℕ → ℕ
first_number blocks n = length (entries_of_blocks (take n blocks))

-- the number of the place's entry among all
abbrev pub number_of : List Block → BlockPlace → ℕ
number_of blocks place = first_number blocks place.line + place.at

pub get_behind : {A : Type 0} (xs ys : List A) (i : ℕ)
    → slice_get (xs ++ ys) (length xs + i) ≡ slice_get ys i
get_behind [] ys i = ap (slice_get ys) (omega arith)
get_behind (x ∷ xs) ys i =
    let e : length (x ∷ xs) + i ≡ suc (length xs + i) = omega arith in
    ap (slice_get (x ∷ (xs ++ ys))) e ∙ get_behind xs ys i

pub get_ahead : {A : Type 0} (xs ys : List A) (i : ℕ) (x : A) → slice_get xs i ≡ Some x
    → slice_get (xs ++ ys) i ≡ Some x
get_ahead [] ys i x at = absurd cc
get_ahead (y ∷ xs) ys zero x at = at
get_ahead (y ∷ xs) ys (suc i) x at = get_ahead xs ys i x at

pub parts_at : (blocks : List Block) (n : ℕ) (block : Block) → slice_get blocks n ≡ Some block
    → entries_of_blocks blocks ≡ entries_of_blocks (take n blocks)
    ++ (block_entries block ++ entries_of_blocks (drop (suc n) blocks))
parts_at blocks n block at =
    ap entries_of_blocks (around blocks n block at)
    ∙ flat_map-append block_entries (take n blocks) (block ∷ drop (suc n) blocks)
    ∙ ap (λ l. entries_of_blocks (take n blocks) ++ l)
    (flat_map-cons block_entries block (drop (suc n) blocks))

-- entry i of block n
pub entry_in : (blocks : List Block) (n i : ℕ) (block : Block) (entry : Entry)
    → slice_get blocks n ≡ Some block → slice_get (block_entries block) i ≡ Some entry
    → slice_get (entries_of_blocks blocks) (first_number blocks n + i) ≡ Some entry
entry_in blocks n i block entry at is =
    ap (λ l. slice_get l (first_number blocks n + i)) (parts_at blocks n block at)
    ∙ get_behind (entries_of_blocks (take n blocks)) _ i
    ∙ get_ahead (block_entries block) (entries_of_blocks (drop (suc n) blocks)) i entry is

take_next : {A : Type 0} (xs : List A) (n m : ℕ) (x : A) → m ≡ n + 1 → slice_get xs n ≡ Some x
    → take m xs ≡ take n xs ++ x ∷ []
take_next [] n m x is at = absurd cc
take_next (y ∷ xs) n zero x is at = absurd (omega (arith, is))
take_next (y ∷ xs) zero (suc m) x is at =
    let none : m ≡ 0 = omega (arith, is) in
    let same : y ≡ x = cc in
    ap (λ k. y ∷ take k xs) none ∙ ap (λ z. z ∷ []) same
take_next (y ∷ xs) (suc n) (suc m) x is at =
    ap (λ l. y ∷ l) (take_next xs n m x (omega (arith, is)) at)

-- behind a block as many entries more
pub number_behind : (blocks : List Block) (n m : ℕ) (block : Block) → m ≡ n + 1
    → slice_get blocks n ≡ Some block
    → first_number blocks m ≡ first_number blocks n + length (block_entries block)
number_behind blocks n m block is at =
    ap (λ l. length (entries_of_blocks l)) (take_next blocks n m block is at)
    ∙ ap length (flat_map-append block_entries (take n blocks) (block ∷ []))
    ∙ omega (
      arith,
      length-append (entries_of_blocks (take n blocks)) (entries_of_blocks (block ∷ [])),
      ap length (flat_map-cons block_entries block []),
      length-append (block_entries block) [],
    )

-- behind the last block all of them
pub number_at_end : (blocks : List Block) (n : ℕ) → length blocks ≤ n
    → first_number blocks n ≡ length (entries_of_blocks blocks)
number_at_end blocks n past = ap (λ l. length (entries_of_blocks l)) (take_all n blocks past)

-- ---- the entry of a place

bind_at : (o : Option ℕ) (f : ℕ → Option Entry) (start : ℕ) → o ≡ Some start → (o >>= f) ≡ f start
bind_at o f start is = ap (λ x. x >>= f) is

-- how many entries the place's block has
pub count_of : (blocks : List Block) (place : BlockPlace) (p : IsPlaceIn blocks place)
    → length (rc_slice_items place.block.starts) ≡ length (block_entries p.block)
count_of blocks place p =
    count_read place.block.format (rc_slice_items place.block.bytes)
    (rc_slice_items place.block.starts)
    (block_entries p.block) p.reads

-- an entry of the table
pub record EntryAt (blocks : List Block) (place : BlockPlace) : Type 0 where
  pub entry : Entry
  pub is : place_entry place ≡ Some entry
  pub there : slice_get (entries_of_blocks blocks) (number_of blocks place) ≡ Some entry

pub entry_at : (blocks : List Block) (place : BlockPlace) → IsPlaceIn blocks place
    → EntryAt blocks place
entry_at blocks place p =
    let within = place.within in
    elim (slice_get_cases (rc_slice_items place.block.starts) place.at).1 [
      | inl (start, lt, is, at) ↦
          let e = entry_of_start place.block.format (rc_slice_items place.block.bytes)
          (rc_slice_items place.block.starts) (block_entries p.block) p.reads place.at start is in
          record {
            entry = e.0;
            is = bind_at _ (entry_read place.block.format (rc_slice_items place.block.bytes)) start
                is
                ∙ e.2;
            there = entry_in blocks place.line place.at p.block e.0 p.present e.1;
          }
      | inr (past, is) ↦ absurd (omega (arith, past, within))
    ]

-- the position at the place is that at its entry's number
pub position_at : (blocks : List Block) (place : BlockPlace) → IsPlaceIn blocks place
    → entry_position (place_entry place)
    ≡ entry_position (slice_get (entries_of_blocks blocks) (number_of blocks place))
position_at blocks place p =
    let e = entry_at blocks place p in
    ap entry_position (e.is ∙ sym e.there)

-- ---- blocks that were entered

-- the position of a cursor that entered a block
pub entered_forward : (format : Format) (blocks : List Block) (lines : List IndexLine) (n : ℕ)
    (failed : Bool)
    (place : Option BlockPlace) → lines ≡ block_lines format 0 blocks → failed ≡ false
    → HasEntered lines n Forward place → IfSome place (IsPlaceIn blocks)
    → table_position failed place
    ≡ entry_position (slice_get (entries_of_blocks blocks) (first_number blocks n))
entered_forward format blocks lines n failed None indexed works past here =
    let len : length lines ≡ length blocks = ap length indexed
    ∙ length-block_lines format 0 blocks in
    let end = number_at_end blocks n (omega (arith, past, len)) in
    ap (λ f. table_position f None) works
    ∙ sym (ap entry_position (slice_get_past (entries_of_blocks blocks) (first_number blocks n)
    (omega (arith, end))))
entered_forward format blocks lines n failed (Some place) indexed works entered here =
    let number : number_of blocks place ≡ first_number blocks n =
    ap (λ k. first_number blocks k + place.at) entered.0
    ∙ ap (λ k. first_number blocks n + k) entered.1 ∙ omega arith in
    position_at blocks place here
    ∙ ap (λ k. entry_position (slice_get (entries_of_blocks blocks) k)) number

pub entered_backward : (format : Format) (blocks : List Block) (lines : List IndexLine) (n m : ℕ)
    (failed : Bool)
    (place : Option BlockPlace) → lines ≡ block_lines format 0 blocks → n < length lines
    → HasEntered lines n Backward place → IfSome place (IsPlaceIn blocks)
    → m + 1 ≡ first_number blocks (n + 1)
    → table_position failed place ≡ entry_position (slice_get (entries_of_blocks blocks) m)
entered_backward format blocks lines n m failed None indexed within past here number =
    absurd (omega (arith, within, past))
entered_backward format blocks lines n m failed (Some place) indexed within entered here number =
    let count = count_of blocks place here in
    let line = entered.0 in
    let at = entered.1 in
    let behind = number_behind blocks place.line (n + 1) here.block
    (omega (arith, line)) here.present in
    let same : number_of blocks place ≡ m = omega (arith, behind, count, at, number) in
    position_at blocks place here
    ∙ ap (λ k. entry_position (slice_get (entries_of_blocks blocks) k)) same
