-- The disk of a value that has a disk and a cache.
use Rattle.disk.specs.declared.Disk.{Ghosts}
use Rattle.table_files.specs.declared.cached_disk.CachedDisk.{CachedDisk}

-- the disk inside
abbrev pub inner_disk : {D : Type 0} {g : Ghosts D} → CachedDisk D g → D
inner_disk files = files.disk
