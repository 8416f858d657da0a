-- What the refusals of a merge say.
use Rattle.merge_iter.specs.declared.CursorError.{CursorError}
use Rattle.merge_iter.specs.declared.CursorError.TheVariants as cursor
use Rattle.table_format.specs.declared.TableError.{TableError}
use Rattle.table_format.specs.declared.TableError.TheVariants as table
use Rattle.compaction.specs.declared.error.MergeError.{MergeError}
use Rattle.compaction.specs.declared.error.MergeError.TheVariants as merge

-- the error of a merge for that of a builder, which refuses a sorted entry only for its size
abbrev pub merge_error_of_table : TableError → MergeError
merge_error_of_table table.Disk = merge.Disk
merge_error_of_table table.Damaged = merge.Damaged
merge_error_of_table table.Order = merge.Damaged
merge_error_of_table table.Memory = merge.Memory
merge_error_of_table table.TooLarge = merge.Full
merge_error_of_table table.Failed = merge.Damaged

-- the error of a merge for that of a cursor
abbrev pub merge_error_of_cursor : CursorError → MergeError
merge_error_of_cursor cursor.Disk = merge.Disk
merge_error_of_cursor cursor.Damaged = merge.Damaged
merge_error_of_cursor cursor.Memory = merge.Memory
merge_error_of_cursor cursor.Failed = merge.Damaged
