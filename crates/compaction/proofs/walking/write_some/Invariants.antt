use Rattle.std.proofs.Common.{Ok, ◌≤◌, ◌-◌}
use Rattle.merge_iter.specs.contracts.merged.MergedCursor.TheImpl as merged_cursor
use Rattle.sorted_table.specs.contracts.table_cursor.TableCursor as table_cursor
use Rattle.sorted_table.specs.contracts.table_cursor.TableCursorCursor.TheImpl as table_cursors
use Rattle.table_files.specs.contracts.cached_disk.CachedDisk as files
use Rattle.table_files.specs.contracts.cached_disk.CachedDiskDisk.TheImpl as files_disk
use Rattle.compaction.specs.Walks.{AdvancesWalk}
use Rattle.compaction.proofs.walking.write_some.Given as goal

-- the walk went on so far
abbrev pub invariant-loop-left : goal.invariant-loop-left
invariant-loop-left g l = record {
  few : l.left ≤ l.count;
  advances : AdvancesWalk
      (merged_cursor.ghosts (table_cursor.the_row g.row.D) (files.the_row g.row.D g.D.Disk)
      (table_cursors.ghosts g.row.D g.D.Disk g.D.Disk-dict g.D.Destruct-dict)
      (table_cursors.dict g.row.D g.D.Disk g.D.Disk-dict g.D.Destruct-dict))
      (files_disk.ghosts g.row.D g.D.Disk g.D.Disk-dict g.D.Destruct-dict) l.tables
      (l.count - l.left) l.initial.files l.initial.next_file l.initial.union l.initial.writer
      l.files l.next_file l.union l.writer (Ok tt);
}

abbrev pub decreases-loop-left : goal.decreases-loop-left
decreases-loop-left g l = l.left
