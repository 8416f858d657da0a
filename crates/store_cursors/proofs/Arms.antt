-- The ghost members of a cursor over a memtable, and of one over tables.
use Rattle.std.proofs.Common.{refl}
use Rattle.std.specs.Rc.{rc_slice_items}
use Rattle.disk.specs.{State}
use Rattle.disk.specs.declared.Disk.{Ghosts as DiskGhosts}
use Rattle.memtable.specs.CursorLaws.{MemCursorHolds, mem_left, mem_most, mem_position}
use Rattle.memtable.specs.declared.MemCursor.{MemCursor}
use Rattle.merge_iter.specs.{EachChild, UnionHolds}
use Rattle.merge_iter.specs.declared.Cursor.{Ghosts}
use Rattle.sorted_table.specs.LineSizes.{blocks_size, steps_left}
use Rattle.sorted_table.specs.MovedFiles.{MovesFiles, moves_itself}
use Rattle.sorted_table.specs.TableCursorLaws.{AreIntactFiles, FileSuits, ServesMeant}
use Rattle.sorted_table.specs.TableCursors.{FileHolds, table_position}
use Rattle.sorted_table.specs.declared.TableCursor.{TableCursor}
use Rattle.table_files.specs.{KeepsFiles, keeps_files_itself}
use Rattle.store_cursors.specs.Concatenation.{IsConcatenation, concatenated_left}
use Rattle.store_cursors.specs.Concatenation.{concatenated_most, concatenated_position}
use Rattle.store_cursors.specs.declared.concatenated.Concatenated.{Concatenated}
use Rattle.store_cursors.proofs.MemoryArm.{ServesMemory}

-- those of a cursor over a memtable
abbrev pub over_memory : Ghosts MemCursor (Unit {0})
over_memory = record {
  position = mem_position;
  Meant = Unit {0};
  as_is = λ _. tt;
  is_intact = λ _ _. Unit {0};
  holds = λ _ c _. MemCursorHolds c;
  is_sound = λ _ _ _. Unit {0};
  keeps = λ _ _. Unit {0};
  makes = λ _ _ _. Unit {0};
  suits = λ _ _ _. Unit {0};
  failures = λ _. 0;
  left = mem_left;
  most = mem_most;
  steps_allocate = ⊥;
  seeks_allocate = Unit {0};
}

-- those of a cursor over one table of files, which are a disk
abbrev pub over_table : {D S : Type 0} → DiskGhosts S → Ghosts (TableCursor D) S
over_table g = record {
  position = λ c. table_position c.has_failed c.place;
  Meant = State;
  as_is = g.state;
  is_intact = AreIntactFiles g;
  holds = λ meant c files. FileHolds (meant c.file);
  is_sound = ServesMeant g (λ c. c.file) (λ c. c.format) (λ c. rc_slice_items c.lines)
      (λ c. c.place);
  keeps = KeepsFiles g;
  makes = MovesFiles g;
  suits = FileSuits g (λ c. c.file) (λ c. c.format) (λ c. rc_slice_items c.lines) (λ c. c.place);
  failures = g.failures;
  left = λ c. steps_left (rc_slice_items c.lines) c.place;
  most = λ c. blocks_size (rc_slice_items c.lines);
  steps_allocate = Unit {0};
  seeks_allocate = Unit {0};
}

-- those of cursors one after another
abbrev pub concatenated : {C S : Type 0} → Ghosts C S → Ghosts (Concatenated C) S
concatenated g = record {
  position = λ m. concatenated_position g.position m.children.items m.place;
  Meant = g.Meant;
  as_is = g.as_is;
  is_intact = g.is_intact;
  holds = λ meant m source. UnionHolds (λ c. g.holds meant c source) m.children.items;
  is_sound = λ meant m source. IsConcatenation (λ c. g.holds meant c source) g.position
      (λ c. g.is_sound meant c source) m.children.items m.place;
  keeps = g.keeps;
  makes = g.makes;
  suits = λ m a b. EachChild (λ c. g.suits c a b) m.children.items;
  failures = g.failures;
  left = λ m. concatenated_left g.left g.most m.children.items m.place;
  most = λ m. concatenated_most g.most m.children.items;
  steps_allocate = g.steps_allocate;
  seeks_allocate = g.seeks_allocate;
}

-- those of a cursor over tables
abbrev pub over_tables : {D S : Type 0} → DiskGhosts S → Ghosts (Concatenated (TableCursor D)) S
over_tables g = concatenated (over_table g)

-- the files serve a cursor over a memtable
pub served : {D S : Type 0} (g : DiskGhosts S) (source : S)
    → ServesMemory {D = D} over_memory (over_tables g) source
served g source = record {
  keeps = keeps_files_itself g source;
  makes = moves_itself g source;
  intact = tt;
  unfailed = refl;
  allocates = λ never. absurd never;
}
