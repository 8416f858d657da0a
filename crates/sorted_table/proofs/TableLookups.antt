-- A lookup in a table by the one block where a key and number would stand.
use Rattle.std.proofs.Common.{◌≡◌, inr, ℕ, ◌+◌, ◌≤◌, List, ◌++◌, length, map, take, drop}
use Rattle.bloom.specs.{CoversHashed}
use Rattle.disk.specs.declared.Disk.{Ghosts}
use Rattle.disk.specs.{IsEnvironmental}
use Rattle.std.proofs.Common.{All, Option, Contains, sym, subst, ◌∙◌, Result, Ok, Err, MatchResult}
use Rattle.std.specs.Prelude.{◌↔◌, IsErrAnd, IsErrOf}
use Rattle.std.specs.List.{AllByRecursion}
use Rattle.std.proofs.lemmas.List.Elements.{recursion_from_All}
use Rattle.byte_fields.specs.{StoredKey}
use Rattle.kv_types.specs.OrderLemmas.{All-among, Among, Rises, rises_from_AllPairs}
use Rattle.kv_types.specs.{Entry, IsUnseen}
use Rattle.merge_iter.specs.{EntryPrecedes, spot}
use Rattle.merge_iter.specs.declared.Direction.TheVariants.{Forward}
use Rattle.table_format.specs.{AreRising, IsBlock}
use Rattle.table_format.specs.{TableRepresentsIn}
use Rattle.table_format.specs.{block_entries, block_lines}
use Rattle.table_format.specs.{end_spot, entries_of_blocks}
use Rattle.byte_fields.specs.declared.format.Format.{Format}
use Rattle.table_format.specs.declared.IndexLine.{IndexLine}
use Rattle.table_format.specs.declared.FileError.{FileError}
use Rattle.table_format.specs.declared.FileError.TheVariants.{Disk, Memory}
use Rattle.sorted_table.specs.declared.found.FoundVersion.{FoundVersion}
use Rattle.sorted_table.specs.declared.table.Table.{Table}
use Rattle.sorted_table.specs.Open.{LookupFinds, table_filter}
use Rattle.sorted_table.specs.TableReads.{AnswersLookup}
use Rattle.sorted_table.specs.Searches.{EndsEarlier, IsEarlier, IsFirstWithout}
use Rattle.sorted_table.proofs.LineBlocks.{early_entries, last_there, line_block, rising_parts}
use Rattle.sorted_table.proofs.LookupsLemmas.{lookup_up, unseen_all}
use Rattle.sorted_table.proofs.TailsLemmas.{lines_rise}

-- lines in memory that are those of a table rise
rising_here : (format : Format) (bytes : List ℕ) (entries : List Entry)
    (s : TableRepresentsIn format bytes entries)
    (lines : List IndexLine) → lines ≡ block_lines format 0 s.blocks
    → AreRising (map end_spot lines)
rising_here format bytes entries s lines is =
    subst (λ (l : List IndexLine). AreRising (map end_spot l)) (sym is)
    (lines_rise format bytes entries s)

-- all blocks end before the spot
pub no_block : (format : Format) (bytes : List ℕ) (entries : List Entry)
    (s : TableRepresentsIn format bytes entries)
    (lines : List IndexLine) (key : StoredKey) (at : ℕ) → lines ≡ block_lines format 0 s.blocks
    → (AreRising (map end_spot lines) → All (EndsEarlier (spot key at)) lines)
    → IsUnseen at (Contains entries) key
no_block format bytes entries s lines key at is early =
    let place = spot key at in
    let ends = subst (All (EndsEarlier place)) is
    (early (rising_here format bytes entries s lines is)) in
    let rises = subst (Rises (EntryPrecedes Forward)) s.division
    (rises_from_AllPairs (EntryPrecedes Forward) entries s.rising) in
    unseen_all entries key at (All-among (IsEarlier place) entries (λ z a.
    early_entries format 0 s.blocks key at rises
    (recursion_from_All (EndsEarlier place) (block_lines format 0 s.blocks) ends) z
    (subst (Among z) s.division a)))

-- what a lookup finds in a block of the file it finds in the table
pub record BlockForSpot (format : Format) (bytes : List ℕ) (entries : List Entry) (key : StoredKey)
    (at : ℕ)
    (line : IndexLine) : Type 0 where
  pub mine : List Entry
  pub is_block : IsBlock format (take line.len (drop line.place bytes)) mine
  pub within : line.place + line.len ≤ length bytes
  pub up : (found : Option FoundVersion) → LookupFinds mine key at found
      → LookupFinds entries key at found

pub block_for : (format : Format) (bytes : List ℕ) (entries : List Entry)
    (s : TableRepresentsIn format bytes entries)
    (lines : List IndexLine) (key : StoredKey) (at : ℕ) (line : IndexLine)
    → lines ≡ block_lines format 0 s.blocks
    → (AreRising (map end_spot lines) → IsFirstWithout (EndsEarlier (spot key at)) lines line)
    → BlockForSpot format bytes entries key at line
block_for format bytes entries s lines key at line is first =
    let place = spot key at in
    let f = first (rising_here format bytes entries s lines is) in
    let b = line_block format bytes entries s f.before line f.after (sym is ∙ f.split) in
    let mine = block_entries b.block in
    let before = entries_of_blocks b.done in
    let after = entries_of_blocks b.others in
    let rises = subst (Rises (EntryPrecedes Forward)) b.split
    (rises_from_AllPairs (EntryPrecedes Forward) entries s.rising) in
    let parts = rising_parts before (mine ++ after) rises in
    let late : IsEarlier place b.block.last → ⊥ =
    subst (λ (l : IndexLine). EndsEarlier place l → ⊥) b.is f.without in
    let early = subst (AllByRecursion (EndsEarlier place)) b.lines
    (recursion_from_All (EndsEarlier place) f.before f.with) in
    record {
      mine = mine;
      is_block = b.is_block;
      within = b.within;
      up = λ found here. subst (λ (l : List Entry). LookupFinds l key at found) (sym b.split)
          (lookup_up before mine after b.block.last key at found
          (early_entries format 0 b.done key at parts.front early) (last_there b.block) late
          (rising_parts mine after parts.back).across here);
    }

pub result_up : (format kind : Format) (bytes : List ℕ) (entries : List Entry) (key : StoredKey)
    (at : ℕ)
    (line : IndexLine)
    (b : BlockForSpot format bytes entries key at line) (part : List ℕ)
    (result : Result (Option FoundVersion) FileError) → IsBlock kind part b.mine
    → MatchResult result
    (λ found. (mine : List Entry) → IsBlock kind part mine → LookupFinds mine key at found)
    (λ e. e ≡ Memory)
    → MatchResult result (LookupFinds entries key at) (IsEnvironmental Disk Memory)
result_up format kind bytes entries key at line b part (Ok found) is here = b.up found
    (here b.mine is)
result_up format kind bytes entries key at line b part (Err e) is memory = inr memory

-- a block that was read tells of no failure of the device
pub not_device : {T : Type 0} (P : T → Type 0) (result : Result T FileError)
    → MatchResult result P (λ e. e ≡ Memory) → IsErrOf result Disk → ⊥
not_device P (Ok x) found e = cc
not_device P (Err why) memory e = cc

-- a refusal that is passed on tells of a failure of the device as before
pub told_alike : {T U : Type 0} (e : FileError) (result : Result U FileError)
    → IsErrAnd result (λ s. s ≡ e) → IsErrOf {T = T} (Err e) Disk ↔ IsErrOf result Disk
told_alike e (Ok x) told = absurd told
told_alike e (Err s) told = (λ fails. cc, λ fails. cc)

-- a lookup by the hashes of a key is one of the key
pub by_hashes : {D : Type 0} (d : Ghosts D) (table : Table) (key : StoredKey) (at : ℕ)
    (h k : ℕ × ℕ) (a b : D) (result : Result (Option FoundVersion) FileError) → h ≡ k
    → AnswersLookup d table key at (CoversHashed (table_filter table) h) a b result
    → AnswersLookup d table key at (CoversHashed (table_filter table) k) a b result
by_hashes d table key at h k a b result same lookup =
    subst (λ (p : ℕ × ℕ). AnswersLookup d table key at (CoversHashed (table_filter table) p) a b
    result) same lookup
