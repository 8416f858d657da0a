-- The files of an engine as a disk, and cursors over tables in them.
use Rattle.std.specs.Rc.{rc_slice_items}
use Rattle.disk.specs.{State}
use Rattle.disk.specs.declared.Disk.{Ghosts}
use Rattle.merge_iter.specs.declared.Cursor.{Ghosts as CursorGhosts}
use Rattle.merge_iter.specs.declared.Merged.{Merged}
use Rattle.merge_iter.specs.LentCursors.{IsUnion, union_of}
use Rattle.merge_iter.specs.Merging.{EachChild, merged_left, merged_most, union_position}
use Rattle.sorted_table.specs.declared.TableCursor.{TableCursor}
use Rattle.sorted_table.specs.LineSizes.{blocks_size, steps_left}
use Rattle.sorted_table.specs.MovedFiles.{MovesFiles}
use Rattle.sorted_table.specs.TableCursorLaws.{AreIntactFiles, FileSuits, ServesMeant}
use Rattle.sorted_table.specs.TableCursors.{FileHolds, table_position}
use Rattle.table_files.specs.{KeepsFiles, inner_disk}
use Rattle.table_files.specs.declared.cached_disk.CachedDisk.{CachedDisk}

module _ {D : Type 0} (g : Ghosts D) where
  -- files over a disk are a disk: they have what it has
  abbrev pub files_ghosts : Ghosts (CachedDisk D g)
  files_ghosts = record {
    is_honest = λ files. g.is_honest (inner_disk files);
    state = λ files. g.state (inner_disk files);
    failures = λ files. g.failures (inner_disk files);
    is_reliable = λ files. g.is_reliable (inner_disk files);
    past = λ files. g.past (inner_disk files);
    incidents = λ files. g.incidents (inner_disk files);
    allocates = g.allocates;
  }

  -- a cursor over a table reads one file of them
  abbrev pub table_ghosts : CursorGhosts (TableCursor D) (CachedDisk D g)
  table_ghosts = record {
    position = λ c. table_position c.has_failed c.place;
    Meant = State;
    as_is = files_ghosts.state;
    is_intact = AreIntactFiles files_ghosts;
    holds = λ meant c files. FileHolds (meant c.file);
    is_sound = ServesMeant files_ghosts (λ c. c.file) (λ c. c.format) (λ c. rc_slice_items c.lines)
        (λ c. c.place);
    keeps = KeepsFiles files_ghosts;
    makes = MovesFiles files_ghosts;
    suits = FileSuits files_ghosts (λ c. c.file) (λ c. c.format) (λ c. rc_slice_items c.lines)
        (λ c. c.place);
    failures = files_ghosts.failures;
    left = λ c. steps_left (rc_slice_items c.lines) c.place;
    most = λ c. blocks_size (rc_slice_items c.lines);
    steps_allocate = Unit {0};
    seeks_allocate = Unit {0};
  }

  -- a union of such cursors reads the files of them all
  abbrev pub union_ghosts : CursorGhosts (Merged (TableCursor D)) (CachedDisk D g)
  union_ghosts = record {
    position = λ m. union_position table_ghosts.position m.children.items m.place;
    Meant = State;
    as_is = table_ghosts.as_is;
    is_intact = table_ghosts.is_intact;
    holds = λ meant m source. union_of table_ghosts meant m.children.items source;
    is_sound = λ meant m source. IsUnion table_ghosts meant m.children.items m.place source;
    keeps = table_ghosts.keeps;
    makes = table_ghosts.makes;
    suits = λ m a b. EachChild (λ c. table_ghosts.suits c a b) m.children.items;
    failures = table_ghosts.failures;
    left = λ m. merged_left table_ghosts.left table_ghosts.most m.children.items m.place;
    most = λ m. merged_most table_ghosts.most m.children.items;
    steps_allocate = table_ghosts.steps_allocate;
    seeks_allocate = table_ghosts.seeks_allocate;
  }
