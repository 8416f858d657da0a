-- Open tables: which tables they serve, and what they have of a key.
use Rattle.std.proofs.Common.{◌≡◌, ◌<◌, ◌^◌, ℕ, List, length, Option, Some, None, inl, inr, sym}
use Rattle.std.proofs.Common.{◌∙◌, ap, refl, subst, Contains, Result, Ok, Err}
use Rattle.std.specs.Prelude.{IsErrAnd, IsErrOf, IsSomeAnd}
use Rattle.disk.specs.{IsEnvironmental}
use Rattle.disk.specs.declared.Disk.{Ghosts}
use Rattle.disk.specs.{Contents, contents, IsSame, IsStill, KeepsDisk, Slot, State, seen}
use Rattle.disk.specs.StillLemmas.{still, still_more}
use Rattle.byte_fields.specs.{StoredKey}
use Rattle.kv_types.specs.{Entry}
use Rattle.table_format.specs.declared.FileError.TheVariants as reading
use Rattle.table_format.specs.{TableRepresents}
use Rattle.table_format.specs.declared.FileError.{FileError}
use Rattle.sorted_table.specs.{CanBeOpen, FileRepresents, HasItsLines, HasTail, IsOpenOn}
use Rattle.sorted_table.specs.{LookupAnswer, LookupFinds, TableServes}
use Rattle.byte_fields.specs.declared.format.Format.{Format}
use Rattle.table_format.specs.declared.IndexLine.{IndexLine}
use Rattle.sorted_table.specs.{greatest_key, index_lines, last_line_key, table_file, table_filter}
use Rattle.sorted_table.specs.{table_format}
use Rattle.sorted_table.specs.declared.Table.{Table}
use Rattle.sorted_table.specs.declared.FoundVersion.{FoundVersion}
use Rattle.table_files.specs.{inner_disk}
use Rattle.table_files.specs.declared.CachedDisk.{CachedDisk}
use Rattle.store_model.specs.{KeyRange, LevelTable, RangeHolds}
use Rattle.manifest.specs.declared.TableLine.{TableLine}
use Rattle.store_tables.specs.declared.error.EngineError.{EngineError}
use Rattle.store_tables.specs.declared.error.EngineError.TheVariants as engine
use Rattle.store_tables.specs.declared.levels.OpenTable.{OpenTable}
use Rattle.disk.specs.KeepingLemmas.{kept_as, kept_behind, neither, same_files}
use Rattle.disk.specs.KeepingLemmas.{same_then_same}
use Rattle.disk.specs.KeepingLemmas.{unchanged}
use Rattle.store_tables.specs.LevelTables.{EntriesFind, FileFits, FitsLine, IsOpenAsMeant}
use Rattle.store_tables.specs.LevelTables.{IsServed, IsTableOf, WasServed, error_of_table}
use Rattle.store_tables.specs.LevelTables.{line_range}
use Rattle.store_tables.specs.TableReads.{LacksBlock}

-- a refusal that says nothing of a file
pub of_table : (e : FileError) → IsEnvironmental reading.Disk reading.Memory e →
    IsEnvironmental engine.Disk engine.Memory (error_of_table e)
of_table e (inl failed) = inl (ap error_of_table failed)
of_table e (inr memory) = inr (ap error_of_table memory)

second_of : (P Q : List ℕ → Type 0) (file : Option (List ℕ))
    → IsSomeAnd file (λ bytes. P bytes × Q bytes) → IsSomeAnd file Q
second_of P Q None it = it
second_of P Q (Some bytes) it = it.1

-- the file of a line's table represents its entries
pub file_represents : (left : Contents) (line : TableLine) (table : LevelTable) (slot : Slot)
    → IsTableOf left line table → seen slot ≡ left line.file → FileRepresents slot table.entries
file_represents left line table slot is same =
    subst (λ (o : Option (List ℕ)). IsSomeAnd o (λ bytes. TableRepresents bytes table.entries))
    (sym same)
    (second_of (λ bytes. length bytes ≡ line.length) (λ bytes. TableRepresents bytes table.entries)
    (left line.file) is.represents)

-- a file that reads the same represents the same entries
pub represents_same : (entries : List Entry) (slot : Slot) (file : Option (List ℕ))
    → seen slot ≡ file → IsSomeAnd file (λ bytes. TableRepresents bytes entries)
    → FileRepresents slot entries
represents_same entries slot file same has =
    subst (λ (o : Option (List ℕ)). IsSomeAnd o (λ bytes. TableRepresents bytes entries))
    (sym same) has

-- a lookup in a table finds what its entries have
pub found_in : (entries : List Entry) (key : List ℕ) (at : ℕ) (found : Option FoundVersion)
    → LookupFinds entries key at found → EntriesFind at (Contains entries) key found
found_in entries key at None it = it
found_in entries key at (Some found) it = it

-- a refusal for damage is one of the table's file
pub damage_of_table : {T : Type 0} (result : Result T EngineError) (e : FileError)
    → IsErrAnd result (λ s. s ≡ error_of_table e) → IsErrOf result engine.Damaged
    → e ≡ reading.Damaged
damage_of_table (Ok x) e told is = absurd told
damage_of_table (Err s) reading.Disk told is = absurd cc
damage_of_table (Err s) reading.Damaged told is = refl
damage_of_table (Err s) reading.Memory told is = absurd cc

-- a lookup in a table finds damage only where the file lacks the block of the key
pub lookup_lacks : (file meant : Slot) (table : Table) (entries : List Entry) (range : KeyRange)
    (key : StoredKey) (at : ℕ) (e : FileError) → RangeHolds range key
    → TableServes meant table entries → IsOpenAsMeant file meant table
    → (TableServes file table entries → IsEnvironmental reading.Disk reading.Memory e)
    → (IsOpenOn file table → LookupAnswer file table key at (Err e)) → e ≡ reading.Damaged
    → LacksBlock file range key at
lookup_lacks file meant table entries range key at e in_range serves is found checked damaged =
    elim is.opened as (λ _. LacksBlock file range key at) [
      | inl same ↦
          let machine = found
          (subst (λ (slot : Slot). TableServes slot table entries) (sym same) serves) in
          absurd (no_damage e machine damaged)
      | inr on ↦ by_answer on (checked on)
    ]
  where
    no_damage : (e : FileError) → IsEnvironmental reading.Disk reading.Memory e
        → e ≡ reading.Damaged → ⊥
    no_damage e (inl disk) is = absurd cc
    no_damage e (inr memory) is = absurd cc

    by_answer : IsOpenOn file table → LookupAnswer file table key at (Err e)
        → LacksBlock file range key at
    by_answer on (inl denied) = let is = denied.1 in absurd cc
    by_answer on (inr it) = record {
      in_range = in_range;
      format = table_format table;
      lines = index_lines table;
      filter = table_filter table;
      tail = on;
      in_filter = it.0;
      n = it.1;
      place = it.2;
      there = it.3.0;
      damaged = it.3.1 damaged;
    }

-- while the files stay, the same tables are served
pub served_same : (old new : State) (it : OpenTable) (table : LevelTable) → IsSame old new
    → IsServed old it table → IsServed new it table
served_same old new it table same served = record {
  level = served.level;
  file = served.file;
  range = served.range;
  serves = subst (λ (slot : Slot). TableServes slot it.table table.entries)
      (sym (same (table_file it.table))) served.serves;
}

pub was_same : (old new meant : State) (it : OpenTable) (table : LevelTable) → IsSame old new
    → WasServed old meant it table → WasServed new meant it table
was_same old new meant it table same was = record {
  serves = was.serves;
  blocks = subst (λ (slot : Slot). IsOpenAsMeant slot (meant (table_file it.table)) it.table)
      (sym (same (table_file it.table))) was.blocks;
}

-- a table that was opened, by what its line names in what was meant
pub opened_as_meant : (disk meant : State) (line copy : TableLine) (table : LevelTable)
    (opened : Table) → copy ≡ line → table_file opened ≡ line.file
    → IsTableOf (contents meant) line table
    → TableServes (meant line.file) opened table.entries
    × IsOpenAsMeant (disk line.file) (meant line.file) opened
    → WasServed disk meant (record { line = copy; table = opened }) table
opened_as_meant disk meant line copy table opened same at is both = record {
  serves = record {
    level = is.level ∙ ap (λ (l : TableLine). l.level) (sym same);
    file = is.file ∙ sym at;
    range = is.range ∙ ap line_range (sym same);
    serves = subst (λ (f : ℕ). TableServes (meant f) opened table.entries) (sym at) both.0;
  };
  blocks = subst (λ (f : ℕ). IsOpenAsMeant (disk f) (meant f) opened) (sym at) both.1;
}

pub lines_same : (old new : State) (line : TableLine) (table : LevelTable) → IsSame old new
    → IsTableOf (contents old) line table → IsTableOf (contents new) line table
lines_same old new line table same is = record {
  level = is.level;
  file = is.file;
  range = is.range;
  represents = subst (λ (o : Option (List ℕ)). IsSomeAnd o
      (λ bytes. (length bytes ≡ line.length) × TableRepresents bytes table.entries))
      (ap seen (sym (same line.file))) is.represents;
  least = is.least;
  greatest = is.greatest;
}

pub fit_same : (old new : State) (line : TableLine) → IsSame old new
    → FileFits (contents new) line → FileFits (contents old) line
fit_same old new line same fit =
    subst (λ (o : Option (List ℕ)). IsSomeAnd o (FitsLine line)) (ap seen (same line.file)) fit

-- the length that was read is the line's, and so is the greatest key, by the index and the entries
pub fit_read : (file : Option (List ℕ)) (line : TableLine) (len : ℕ)
    → IsSomeAnd file (λ bytes. (len ≡ length bytes) × (len < 2 ^ 63)) → len ≡ line.length
    → (table : Table) → IsSomeAnd file
    (λ bytes. HasTail (table_format table) bytes (index_lines table) (table_filter table))
    → last_line_key (index_lines table) ≡ Some line.greatest
    → ((entries : List Entry) → IsSomeAnd file (λ bytes. TableRepresents bytes entries)
    → greatest_key entries ≡ Some line.greatest)
    → IsSomeAnd file (FitsLine line)
fit_read None line len answer same table tail last ends = absurd answer
fit_read (Some bytes) line len answer same table tail last ends = record {
  len = sym answer.0 ∙ same;
  format = table_format table;
  lines = index_lines table;
  filter = table_filter table;
  tail = tail;
  last = last;
  greatest = ends;
}

-- ---- a file that fits its line

-- it has the line's length
pub fits_length : (file : Option (List ℕ)) (line : TableLine) (len : ℕ)
    → IsSomeAnd file (λ bytes. (len ≡ length bytes) × (len < 2 ^ 63))
    → IsSomeAnd file (FitsLine line) → (len ≡ line.length → ⊥) → ⊥
fits_length None line len answer fit other = absurd answer
fits_length (Some bytes) line len answer fit other = other (answer.0 ∙ fit.len)

-- a table can be open on it
pub fits_opens : (old new : Slot) (line : TableLine) → seen new ≡ seen old
    → IsSomeAnd (seen old) (FitsLine line) → CanBeOpen new
fits_opens old new line same fit =
    subst (λ (o : Option (List ℕ)). IsSomeAnd o
    (λ bytes. (format : Format) × (lines : List IndexLine) × (filter : List ℕ)
    × HasTail format bytes lines filter)) (sym same)
    (fit_tail (seen old) line fit)
  where
    fit_tail : (o : Option (List ℕ)) (line : TableLine) → IsSomeAnd o (FitsLine line)
        → IsSomeAnd o (λ bytes.
        (format : Format) × (lines : List IndexLine) × (filter : List ℕ)
        × HasTail format bytes lines filter)
    fit_tail None line fit = absurd fit
    fit_tail (Some bytes) line fit = (fit.format, fit.lines, fit.filter, fit.tail)

-- and its last line has the line's greatest key
pub fits_last : (old new : Slot) (line : TableLine) → seen new ≡ seen old
    → IsSomeAnd (seen old) (FitsLine line) → (table : Table) → HasItsLines new table
    → last_line_key (index_lines table) ≡ Some line.greatest
fits_last old new line same fit table has =
    last_of (seen old) fit (λ format lines filter tail. (has format lines filter
    (subst (λ (o : Option (List ℕ)). IsSomeAnd o (λ bytes. HasTail format bytes lines filter))
    (sym same) tail)).1)
  where
    last_of : (o : Option (List ℕ)) → IsSomeAnd o (FitsLine line)
        → ((format : Format) (lines : List IndexLine) (filter : List ℕ)
        → IsSomeAnd o (λ bytes. HasTail format bytes lines filter) → lines ≡ index_lines table)
        → last_line_key (index_lines table) ≡ Some line.greatest
    last_of None fit same = absurd fit
    last_of (Some bytes) fit same =
        ap last_line_key (sym (same fit.format fit.lines fit.filter fit.tail)) ∙ fit.last

pub same_back : (old new : State) → IsSame old new → IsSame new old
same_back old new same file = sym (same file)

-- ---- files as a disk

-- the ghost members of files are those of the disk inside
abbrev pub files_ghosts : {D : Type 0} (g : Ghosts D) → Ghosts (CachedDisk D g)
files_ghosts g = record {
  is_honest = λ files. g.is_honest (inner_disk files);
  state = λ files. g.state (inner_disk files);
  failures = λ files. g.failures (inner_disk files);
  is_reliable = λ files. g.is_reliable (inner_disk files);
  past = λ files. g.past (inner_disk files);
  incidents = λ files. g.incidents (inner_disk files);
  allocates = g.allocates;
}

-- ---- some calls that only read

-- no call failed, and nothing changed
pub record HasOnlyRead {D : Type 0} (g : Ghosts D) (old new : D) : Type 0 where
  pub kept : KeepsDisk g old new ⊥ ⊥ IsSame
  pub still : IsStill g old new

pub none_read : {D : Type 0} (g : Ghosts D) (disk : D) → HasOnlyRead g disk disk
none_read g disk = record {
  kept = unchanged g same_files;
  still = λ honest. still (g.state disk) (g.past disk);
}

module _ {D : Type 0} (g : Ghosts D) (old mid : D) (before : HasOnlyRead g old mid) where
  -- a call more, which failed or not
  pub read_then : {new : D} {told : Type 0} → KeepsDisk g mid new told ⊥ IsSame →
      KeepsDisk g old new told ⊥ IsSame
  read_then kept = kept_behind g same_then_same before.kept (λ fails. fails) kept

  pub still_then : {new : D} → IsStill g mid new → IsStill g old new
  still_then more honest =
      still_more (before.still honest) (more (before.kept.honest.1 honest))

  -- a call more, which did not fail
  pub read_more : {new : D} {told : Type 0} → KeepsDisk g mid new told ⊥ IsSame → (told → ⊥)
      → IsStill g mid new → HasOnlyRead g old new
  read_more kept works more = record {
    kept = read_then (kept_as g (neither works (λ fails. fails)) (λ a b same. same) kept);
    still = still_then more;
  }

  -- the calls end, and none failed
  pub read_all : {told : Type 0} → (told → ⊥) → KeepsDisk g old mid told ⊥ IsSame
  read_all ends = kept_as g (neither (λ fails. fails) ends) (λ a b same. same) before.kept
