-- The log's report of the disk's errors.
use Rattle.disk.specs.declared.DiskError.{DiskError}
use Rattle.disk.specs.declared.DiskError.TheVariants as disk
use Rattle.record_log.specs.declared.error.LogError.{LogError}
use Rattle.record_log.specs.declared.error.LogError.TheVariants as log

-- the disk's errors as errors of the log
abbrev pub log_error : DiskError → LogError
log_error disk.Failed = log.Disk disk.Failed
log_error disk.NoFile = log.Disk disk.NoFile
log_error disk.Short = log.Disk disk.Short
log_error disk.Memory = log.Memory
