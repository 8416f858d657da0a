-- Which errors of a disk and of a lock are which refusals of an opening.
use Rattle.disk.specs.declared.error.DiskError.{DiskError}
use Rattle.disk.specs.declared.error.DiskError.TheVariants as device
use Rattle.dir_disk.specs.declared.lock.LockError.{LockError}
use Rattle.dir_disk.specs.declared.lock.LockError.TheVariants as lock
use Rattle.engine.specs.EngineError.TheVariants as engine
use Rattle.embedded_store.specs.declared.error.OpenError.{OpenError}
use Rattle.embedded_store.specs.declared.error.OpenError.TheVariants.{InUse, Store}

-- the refusal for an error of a disk that is looked at
abbrev pub disk_refusal : DiskError → OpenError
disk_refusal device.Failed = Store engine.Disk
disk_refusal device.NoFile = Store engine.Damaged
disk_refusal device.Short = Store engine.Damaged
disk_refusal device.Memory = Store engine.Memory

-- the refusal for a lock that was not had
abbrev pub lock_refusal : LockError → OpenError
lock_refusal lock.InUse = InUse
lock_refusal lock.Failed = Store engine.Disk
lock_refusal lock.Memory = Store engine.Memory
