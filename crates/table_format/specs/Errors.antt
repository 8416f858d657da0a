-- The errors of tables, and how they report those of the disk.
use Rattle.disk.specs.declared.DiskError.{DiskError}
use Rattle.disk.specs.declared.DiskError.TheVariants as disk
use Rattle.table_format.specs.declared.error.FileError.{FileError}
use Rattle.table_format.specs.declared.error.FileError.TheVariants as reading
use Rattle.table_format.specs.declared.error.TableError.{TableError}
use Rattle.table_format.specs.declared.error.TableError.TheVariants as table

-- a file that is absent or too short is damaged
abbrev pub file_error : DiskError → FileError
file_error disk.Failed = reading.Disk
file_error disk.NoFile = reading.Damaged
file_error disk.Short = reading.Damaged
file_error disk.Memory = reading.Memory

-- the error of a builder for that of its file
abbrev pub table_error : FileError → TableError
table_error reading.Disk = table.Disk
table_error reading.Damaged = table.Damaged
table_error reading.Memory = table.Memory
