-- Blocks at lines: of reads, and of tables.
use Rattle.std.proofs.Common.{◌≡◌, ℕ, zero, suc, ◌+◌, ◌<◌, List, [], ◌∷◌, ◌++◌, length, take, drop}
use Rattle.std.proofs.Common.{Option, Some, None, Ok, Err, IfSome, inl, inr, refl, sym, ap, subst}
use Rattle.std.proofs.Common.{◌∙◌, arith}
use Rattle.std.proofs.Math.Logic.{∥∥₁_elim, ∥∥₁_map}
use Rattle.std.proofs.lemmas.List.{length-take, length-drop}
use Rattle.std.proofs.lemmas.List.Concat.{flat_map-cons}
use Rattle.std.proofs.lemmas.Option.{slice_get_within}
use Rattle.std.specs.List.{slice_get}
use Rattle.std.specs.Rc.{rc_slice_items}
use Rattle.disk.specs.{IsEnvironmental, Slot, State, seen}
use Rattle.byte_fields.specs.FieldsLemmas.{some_is}
use Rattle.kv_types.specs.OrderLemmas.{Among, Rises, rises_from_AllPairs}
use Rattle.kv_types.specs.{Entry}
use Rattle.merge_iter.specs.{EntryPrecedes}
use Rattle.merge_iter.specs.declared.Direction.TheVariants.{Forward}
use Rattle.table_files.specs.declared.block.CheckedBlock.{CheckedBlock}
use Rattle.table_files.specs.{BlockAnswer, IsPartAt}
use Rattle.table_format.specs.RisingLemmas.{last_push}
use Rattle.table_format.specs.{Block, IsBlock, IsCheckedBlock}
use Rattle.table_format.specs.{block_entries, block_line, data_bytes, end_spot}
use Rattle.table_format.specs.{entries_of_blocks}
use Rattle.byte_fields.specs.declared.format.Format.{Format}
use Rattle.table_format.specs.declared.IndexLine.{IndexLine}
use Rattle.table_format.specs.declared.FileError.{FileError}
use Rattle.table_format.specs.declared.FileError.TheVariants as reading
use Rattle.sorted_table.specs.Meant.{AreAtLine, HasEndOf, IsBehindLine, IsBlockAtLine}
use Rattle.sorted_table.specs.Meant.{LineBlockAnswer}
use Rattle.sorted_table.specs.TableCursors.{HasLines}
use Rattle.sorted_table.proofs.BlockNumbers.{BlockNumber, around, length-block_lines, line_of}
use Rattle.sorted_table.proofs.BlockNumbers.{some_of}
use Rattle.sorted_table.proofs.LineBlocks.{among_left, among_right, block_in, rising_parts}

never_twice : IsProp ⊥
never_twice x y = absurd x

-- ---- what a read answers

-- a block at a line is a block that the file has there
pub parts_of : (format : Format) (lines : List IndexLine) (n : ℕ) (file : Slot) (part : List ℕ)
    (line : IndexLine)
    → IsBlockAtLine format lines n file part → slice_get lines n ≡ Some line
    → (length part ≡ line.len) × IsPartAt (seen file) line.place part
    × ∥ IsCheckedBlock format part ∥₁
parts_of format lines n file part line is at =
    let same : is.line ≡ line = some_is is.line line (sym is.at ∙ at) in (
      is.len ∙ ap (λ (l : IndexLine). l.len) same,
      subst (λ (l : IndexLine). IsPartAt (seen file) l.place part) same is.there,
      ∥∥₁_map is.checked (λ it. (it.0, it.1)),
    )

-- so it is an answer of a read
pub line_read : (format : Format) (disk : State) (file : ℕ) (lines : List IndexLine) (n : ℕ)
    (line : IndexLine)
    (block : CheckedBlock) → block.format ≡ format → slice_get lines n ≡ Some line
    → IsBlockAtLine format lines n (disk file) (rc_slice_items block.bytes)
    → BlockAnswer disk file line.place line.len format (Ok block)
line_read format disk file lines n line block read_in at is =
    let p = parts_of format lines n (disk file) (rc_slice_items block.bytes) line is at in
    (p.0, (p.1, p.2), read_in)

-- a read that is damaged finds no block at the line
pub unread_line : (format : Format) (disk : State) (file : ℕ) (lines : List IndexLine) (n : ℕ)
    (line : IndexLine)
    (e : FileError) → slice_get lines n ≡ Some line
    → BlockAnswer disk file line.place line.len format (Err e)
    → LineBlockAnswer format lines n (disk file) (Err e)
unread_line format disk file lines n line e at answer damaged part is =
    let none = subst (λ (why : FileError). BlockAnswer disk file line.place line.len format
    (Err why))
    damaged answer in
    let p = parts_of format lines n (disk file) part line is at in
    none part p.0 (p.1, p.2)

-- the part of a file, by its length
one_part : (file : Option (List ℕ)) (place : ℕ) (a b : List ℕ) → length a ≡ length b
    → IsPartAt file place a → IsPartAt file place b → a ≡ b
one_part None place a b len is other = absurd cc
one_part (Some bytes) place a b len is other =
    let left : take (length a) (drop place bytes) ≡ a = cc in
    let right : take (length b) (drop place bytes) ≡ b = cc in
    sym left ∙ ap (λ (n : ℕ). take n (drop place bytes)) len ∙ right

-- a block that was read and does not lie where the line says is none at the line
pub misplaced : (format : Format) (disk : State) (file : ℕ) (lines : List IndexLine) (n : ℕ)
    (line : IndexLine)
    (block : CheckedBlock) → slice_get lines n ≡ Some line
    → BlockAnswer disk file line.place line.len format (Ok block)
    → ((entries : List Entry) → IsBlock block.format (rc_slice_items block.bytes) entries
    → AreAtLine lines n line entries → ⊥)
    → (e : FileError) → LineBlockAnswer format lines n (disk file) (Err e)
misplaced format disk file lines n line block at answer never e damaged part is =
    let p = parts_of format lines n (disk file) part line is at in
    let same : part ≡ rc_slice_items block.bytes = one_part (seen (disk file)) line.place part
    (rc_slice_items block.bytes) (p.0 ∙ sym answer.0) p.1 answer.1.0 in
    ∥∥₁_elim is.checked never_twice (λ it.
    never it.0 (subst (λ (f : Format). IsBlock f (rc_slice_items block.bytes) it.0) (sym answer.2)
    (subst (λ (b : List ℕ). IsBlock format b it.0) same it.1))
    (subst (λ (l : IndexLine). AreAtLine lines n l it.0)
    (some_is is.line line (sym is.at ∙ at)) it.2))

-- a block that was read and lies where the line says is the one at the line
pub placed : (format : Format) (disk : State) (file : ℕ) (lines : List IndexLine) (n : ℕ)
    (line : IndexLine)
    (block : CheckedBlock) → slice_get lines n ≡ Some line
    → BlockAnswer disk file line.place line.len format (Ok block)
    → ((entries : List Entry) → IsBlock block.format (rc_slice_items block.bytes) entries
    → AreAtLine lines n line entries)
    → LineBlockAnswer format lines n (disk file) (Ok block)
placed format disk file lines n line block at answer lies = record {
  line = line;
  at = at;
  len = answer.0;
  there = answer.1.0;
  checked = ∥∥₁_map answer.1.1 (λ it. (
    it.0,
    it.1,
    lies it.0
        (subst (λ (f : Format). IsBlock f (rc_slice_items block.bytes) it.0) (sym answer.2) it.1),
  ));
}

-- an error that is no damage is one of the environment
pub environmental : (e : FileError) → (e ≡ reading.Damaged → ⊥)
    → IsEnvironmental reading.Disk reading.Memory e
environmental reading.Disk damaged = inl refl
environmental reading.Memory damaged = inr refl
environmental reading.Damaged damaged = absurd (damaged refl)

-- ---- the blocks of a table

-- what holds of an item that is there
if_there : {A : Type 0} (P : A → Type 0) (o : Option A) → ((x : A) → o ≡ Some x → P x) → IfSome o P
if_there P None f = tt
if_there P (Some x) f = f x refl

-- the first entry is among the entries
start_among : (entries : List Entry) (e : Entry) → slice_get entries 0 ≡ Some e → Among e entries
start_among [] e is = absurd cc
start_among (x ∷ entries) e is = inl (some_is x e is)

-- the last entry of an earlier block is among those of the first n blocks
last_before : (blocks : List Block) (k n : ℕ) (b : Block) → k < n → slice_get blocks k ≡ Some b
    → Among b.last (entries_of_blocks (take n blocks))
last_before [] k n b lt is = absurd cc
last_before (x ∷ blocks) k zero b lt is = absurd (omega (arith, lt))
last_before (x ∷ blocks) zero (suc n) b lt is =
    let same : x ≡ b = some_is x b is in
    subst (Among b.last) (sym (flat_map-cons block_entries x (take n blocks)))
    (among_left (block_entries x) (entries_of_blocks (take n blocks)) b.last
    (subst (λ (z : Block). Among b.last (block_entries z)) (sym same)
    (among_right b.front (b.last ∷ []) b.last (inl refl))))
last_before (x ∷ blocks) (suc k) (suc n) b lt is =
    subst (Among b.last) (sym (flat_map-cons block_entries x (take n blocks)))
    (among_right (block_entries x) (entries_of_blocks (take n blocks)) b.last
    (last_before blocks k n b (omega (arith, lt)) is))

module _ (format : Format) (file : Slot) (lines : List IndexLine) (t : HasLines format file lines)
  where
    -- the line of a block
    line_is : (n : ℕ) (line : IndexLine) (b : Block) → slice_get lines n ≡ Some line
        → slice_get t.represents.blocks n ≡ Some b
        → line ≡ block_line format (0 + length (data_bytes format (take n t.represents.blocks))) b
    line_is n line b at there =
        some_is line (block_line format
        (0 + length (data_bytes format (take n t.represents.blocks))) b)
        (sym at ∙ ap (λ (l : List IndexLine). slice_get l n) t.indexed
        ∙ line_of format 0 t.represents.blocks n b there)

    -- the entries of a block come behind those of the blocks before
    behind : (n k : ℕ) (line before : IndexLine)
        (b : BlockNumber format t.bytes t.represents.blocks line n)
        (e : Entry) → slice_get (block_entries b.block) 0 ≡ Some e → k + 1 ≡ n
        → slice_get lines k ≡ Some before → EntryPrecedes Forward (end_spot before) e
    behind n k line before b e first next at =
        let blocks = t.represents.blocks in
        let size : length lines ≡ length blocks = ap length t.indexed
        ∙ length-block_lines format 0 blocks in
        let short : k < length lines = slice_get_within lines k before at in
        let p = some_of blocks k (omega (arith, short, size)) in
        let is = line_is k before p.0 at p.1 in
        let parted = block_in format t.bytes t.entries t.represents (take n blocks) b.block
        (drop (suc n) blocks) (around blocks n b.block b.present) in
        let rises = subst (Rises (EntryPrecedes Forward)) parted.split
        (rises_from_AllPairs (EntryPrecedes Forward) t.entries t.represents.rising) in
        let across = (rising_parts (entries_of_blocks (take n blocks))
        (block_entries b.block ++ entries_of_blocks (drop (suc n) blocks)) rises).across p.0.last e
        (last_before blocks k n p.0 (omega (arith, next)) p.1)
        (among_left (block_entries b.block) (entries_of_blocks (drop (suc n) blocks)) e
        (start_among (block_entries b.block) e first)) in
        subst (λ (l : IndexLine). EntryPrecedes Forward (end_spot l) e) (sym is) across

    -- the entries of a block lie where its line says
    pub block_lies : (n : ℕ) (line : IndexLine)
        (b : BlockNumber format t.bytes t.represents.blocks line n) → slice_get lines n ≡ Some line
        → AreAtLine lines n line (block_entries b.block)
    block_lies n line b at =
        let is = line_is n line b.block at b.present in
        record {
          last = subst (λ (o : Option Entry). IfSome o (HasEndOf line))
              (sym (last_push b.block.front b.block.last))
              (record {
                key = sym (ap (λ (l : IndexLine). l.key) is);
                number = sym (ap (λ (l : IndexLine). l.number) is);
              });
          first = if_there (IsBehindLine lines n) (slice_get (block_entries b.block) 0)
              (λ e first k before next there. behind n k line before b e first next there);
        }

    -- the file has a block for each of its lines
    pub block_there : (n : ℕ) (line : IndexLine)
        (b : BlockNumber format t.bytes t.represents.blocks line n) → slice_get lines n ≡ Some line
        → IsBlockAtLine format lines n file (take line.len (drop line.place t.bytes))
    block_there n line b at =
        let part = take line.len (drop line.place t.bytes) in
        let size : length part ≡ line.len =
        omega (
          arith,
          b.within,
          length-take line.len (drop line.place t.bytes),
          length-drop line.place t.bytes,
        ) in
        record {
          line = line;
          at = at;
          len = size;
          there = subst (λ (f : Option (List ℕ)). IsPartAt f line.place part) (sym t.present)
              (ap Some (ap (λ (n : ℕ). take n (drop line.place t.bytes)) size));
          checked = ∣ (block_entries b.block, b.is_block, block_lies n line b at) ∣₁;
        }

    -- so a read for a line is not damaged
    pub never_damaged : (n : ℕ) (line : IndexLine) (e : FileError)
        → BlockNumber format t.bytes t.represents.blocks line n → slice_get lines n ≡ Some line
        → LineBlockAnswer format lines n file (Err e) → e ≡ reading.Damaged → ⊥
    never_damaged n line e b at answer damaged =
        answer damaged (take line.len (drop line.place t.bytes)) (block_there n line b at)
