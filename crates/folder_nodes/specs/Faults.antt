-- Why a folder has no node for a run.
use Rattle.disk.specs.declared.error.DiskError.{DiskError}
use Rattle.disk.specs.declared.error.DiskError.TheVariants as device
use Rattle.dir_disk.specs.declared.lock.LockError.{LockError}
use Rattle.dir_disk.specs.declared.lock.LockError.TheVariants as lock
use Rattle.node.specs.declared.stop.Stop.{Stop}
use Rattle.manifest.specs.declared.error.ManifestError.{ManifestError}
use Rattle.manifest.specs.declared.error.ManifestError.TheVariants as manifest
use Rattle.node.specs.declared.stop.Stop.TheVariants.{Damaged, Disk, Memory, NotCreated, OldFormat}

-- why a disk has no node, by the error that kept its files from being listed
abbrev pub disk_stop : DiskError → Stop
disk_stop device.Memory = Memory
disk_stop device.Failed = Disk
disk_stop device.NoFile = Damaged
disk_stop device.Short = Damaged

-- why a folder has no node, by the error that kept it from being locked
abbrev pub lock_stop : LockError → Stop
lock_stop lock.InUse = Disk
lock_stop lock.Failed = Disk
lock_stop lock.Memory = Memory

-- why a disk has no node, by the error that kept its manifest from being opened
abbrev pub manifest_stop : ManifestError → Stop
manifest_stop manifest.Disk = Disk
manifest_stop manifest.Damaged = Damaged
manifest_stop manifest.NotCreated = NotCreated
manifest_stop manifest.Memory = Memory
manifest_stop manifest.Failed = Damaged
manifest_stop manifest.OldFormat = OldFormat
