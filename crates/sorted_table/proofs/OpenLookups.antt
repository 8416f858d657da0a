-- What a lookup answers in any open table.
use Rattle.std.proofs.Common.{◌≡◌, inr, ℕ, Bool, false, List, map, Option, Some, None}
use Rattle.std.proofs.Common.{Result, Ok, Err, MatchResult, sym, subst, ◌∙◌}
use Rattle.std.proofs.Math.Logic.{∥∥₁_map}
use Rattle.std.specs.Prelude.{IsSomeAnd, IsTrue, MatchOption, ◌≤◌, ◌<◌, length, refl}
use Rattle.std.specs.Rc.{rc_slice_items}
use Rattle.bloom.specs.{Covers, CoversHashed, hashes_of}
use Rattle.std.specs.List.{slice_get}
use Rattle.std.proofs.lemmas.Option.{slice_get_within}
use Rattle.disk.specs.{IsEnvironmental, Slot, State, seen}
use Rattle.byte_fields.specs.{StoredKey}
use Rattle.kv_types.specs.{Entry}
use Rattle.merge_iter.specs.{spot}
use Rattle.table_format.specs.{AreRising, IsBlock, end_spot}
use Rattle.byte_fields.specs.declared.format.Format.{Format}
use Rattle.table_format.specs.declared.IndexLine.{IndexLine}
use Rattle.table_format.specs.declared.FileError.{FileError}
use Rattle.table_format.specs.declared.FileError.TheVariants.{Damaged, Disk, Memory}
use Rattle.sorted_table.specs.declared.found.FoundVersion.{FoundVersion}
use Rattle.sorted_table.specs.declared.table.Table.{Table}
use Rattle.sorted_table.specs.Open.{FindsAtLine, HasInFilter, IsOpenOn, LineAnswer, LookupAnswer}
use Rattle.sorted_table.specs.Open.{LookupFinds}
use Rattle.sorted_table.specs.Open.{TableServes}
use Rattle.sorted_table.specs.Meant.{IsBlockAtLine, LineBlockAnswer}
use Rattle.sorted_table.specs.Searches.{IsLinePlace}
use Rattle.sorted_table.specs.TableCursors.{HasLines}
use Rattle.sorted_table.proofs.BlockNumbers.{BlockNumber, some_of}
use Rattle.sorted_table.proofs.FirstBlocks.{block_of_line}
use Rattle.sorted_table.proofs.LinesLemmas.{line_first, no_line}
use Rattle.sorted_table.proofs.MeantLemmas.{line_read}
use Rattle.sorted_table.proofs.TableLookups.{block_for, result_up}
use Rattle.table_files.specs.declared.block.CheckedBlock.{CheckedBlock}
use Rattle.table_files.specs.{known_block_answered}
use Rattle.sorted_table.specs.Tails.{HasTail}

never_twice : IsProp ⊥
never_twice x y = absurd x

rising_of : (format : Format) (file : Option (List ℕ)) (lines : List IndexLine) (filter : List ℕ)
    → IsSomeAnd file (λ bytes. HasTail format bytes lines filter) → AreRising (map end_spot lines)
rising_of format None lines filter has = absurd has
rising_of format (Some bytes) lines filter has = has.is_index.rising

-- the filter covers a key that it does not deny
pub not_denied : (filter key : List ℕ) (hashes : ℕ × ℕ) (denies : Bool) → hashes ≡ hashes_of key
    → ((IsTrue denies → ⊥) → CoversHashed filter hashes) → denies ≡ false → Covers filter key
not_denied filter key hashes denies are covered holds =
    subst (CoversHashed filter) are
    (covered (λ denied.
    let not : denies ≡ false = holds in
    let is : IsTrue denies = denied in cc))

-- the answer by a line is that of a lookup
pub by_line : (file : Slot) (table : Table) (lines : List IndexLine) (key : StoredKey) (at n : ℕ)
    (result : Result (Option FoundVersion) FileError)
    → IsOpenOn file table → HasInFilter table key → lines ≡ rc_slice_items table.lines
    → (AreRising (map end_spot lines) → IsLinePlace lines (spot key at) n)
    → LineAnswer table.format lines n file key at result → LookupAnswer file table key at result
by_line file table lines key at n result opened covers are finds answer =
    let mine = rc_slice_items table.lines in
    let rising = rising_of table.format (seen file) mine table.filter.items opened in
    inr (
      covers,
      n,
      subst (λ (l : List IndexLine). IsLinePlace l (spot key at) n) are
          (finds (subst (λ (l : List IndexLine). AreRising (map end_spot l)) (sym are) rising)),
      subst (λ (l : List IndexLine). LineAnswer table.format l n file key at result) are
          answer,
    )

-- without a line nothing is found
pub none_behind : (format : Format) (file : Slot) (lines : List IndexLine) (key : StoredKey)
    (at n : ℕ)
    → length lines ≤ n → LineAnswer format lines n file key at (Ok None)
none_behind format file lines key at n past =
    let found : Option FoundVersion = None in
    let same : found ≡ None = refl in
    subst (λ (o : Option IndexLine). MatchOption o (found ≡ None)
    (λ line. ∥ FindsAtLine format lines n file key at found ∥₁)) (sym (no_line lines n past)) same

-- the block was read
pub line_answers : (format : Format) (file : Slot) (lines : List IndexLine) (n : ℕ)
    (line : IndexLine)
    (key : StoredKey) (at : ℕ) (block : CheckedBlock)
    (result : Result (Option FoundVersion) FileError) → slice_get lines n ≡ Some line
    → LineBlockAnswer format lines n file (Ok block)
    → block.format ≡ format
    → MatchResult result
    (λ found. (mine : List Entry) → IsBlock block.format (rc_slice_items block.bytes) mine
    → LookupFinds mine key at found) (λ e. e ≡ Memory)
    → LineAnswer format lines n file key at result
line_answers format file lines n line key at block (Ok found) there is read_in finds =
    subst (λ (o : Option IndexLine). MatchOption o (found ≡ None)
    (λ line. ∥ FindsAtLine format lines n file key at found ∥₁)) (sym there)
    (∥∥₁_map is.checked (λ it.
    record {
      part = rc_slice_items block.bytes;
      entries = it.0;
      there = is;
      is_block = it.1;
      finds = finds it.0 (subst (λ (f : Format). IsBlock f (rc_slice_items block.bytes) it.0)
          (sym read_in) it.1);
    }))
line_answers format file lines n line key at block (Err e) there is read_in memory = (
  slice_get_within lines n line there,
  λ damaged part has.
      let twice : Memory ≡ Damaged = sym memory ∙ damaged in cc,
)

-- ---- tables that serve entries

-- the lines that a table keeps are those of its file
pub lines_of : (file : Slot) (table : Table) (entries : List Entry) (lines : List IndexLine)
    → TableServes file table entries → lines ≡ rc_slice_items table.lines
    → HasLines table.format file lines
lines_of file table entries lines s are = record {
  bytes = s.bytes;
  present = s.present;
  entries = entries;
  represents = s.represents;
  indexed = are ∙ s.lines;
}

-- the block of one of these lines
pub block_at : (format : Format) (file : Slot) (lines : List IndexLine)
    (t : HasLines format file lines) (n : ℕ)
    (line : IndexLine) → slice_get lines n ≡ Some line
    → BlockNumber format t.bytes t.represents.blocks line n
block_at format file lines t n line at =
    let disk : State = λ k. file in
    block_of_line format disk 0 lines n line t (slice_get_within lines n line at) at

-- a lookup in the block of the first line that does not end before is a lookup in the table
pub found_as : (file : Slot) (table : Table) (entries : List Entry)
    (s : TableServes file table entries) (lines : List IndexLine) (n : ℕ) (key : StoredKey) (at : ℕ)
    (block : CheckedBlock) (result : Result (Option FoundVersion) FileError)
    → lines ≡ rc_slice_items table.lines → n < length lines
    → (AreRising (map end_spot lines) → IsLinePlace lines (spot key at) n)
    → block.format ≡ table.format
    → IsBlockAtLine table.format lines n file (rc_slice_items block.bytes)
    → MatchResult result
    (λ found. (mine : List Entry) → IsBlock block.format (rc_slice_items block.bytes) mine
    → LookupFinds mine key at found) (λ e. e ≡ Memory)
    → MatchResult result (LookupFinds entries key at) (IsEnvironmental Disk Memory)
found_as file table entries s lines n key at block result are within place read_in read finds =
    let format = table.format in
    let p = some_of lines n within in
    let line = p.0 in
    let disk : State = λ k. file in
    let b = block_for format s.bytes entries s.represents lines key at line (are ∙ s.lines)
    (λ rising. line_first lines (spot key at) n line p.1 (place rising)) in
    let same = known_block_answered disk 0 line.place line.len format (Ok block) s.bytes b.mine
    (line_read format disk 0 lines n line block read_in p.1 read) s.present b.within b.is_block in
    result_up format block.format s.bytes entries key at line b (rc_slice_items block.bytes) result
    (subst (λ (f : Format). IsBlock f (rc_slice_items block.bytes) b.mine) (sym read_in)
    (subst (λ (p : List ℕ). IsBlock format p b.mine) (sym same) b.is_block)) finds
