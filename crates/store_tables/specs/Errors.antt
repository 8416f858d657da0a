-- What the refusals of an engine say.
use Rattle.std.specs.Prelude.{Result, Ok, Err}
use Rattle.disk.specs.declared.DiskError.{DiskError}
use Rattle.disk.specs.declared.DiskError.TheVariants as disk
use Rattle.manifest.specs.declared.ManifestError.{ManifestError}
use Rattle.manifest.specs.declared.ManifestError.TheVariants as manifest
use Rattle.memtable.specs.declared.MemtableError.{MemtableError}
use Rattle.memtable.specs.declared.MemtableError.TheVariants as table
use Rattle.merge_iter.specs.declared.CursorError.{CursorError}
use Rattle.merge_iter.specs.declared.CursorError.TheVariants as cursor
use Rattle.record_log.specs.declared.LogError.{LogError}
use Rattle.record_log.specs.declared.LogError.TheVariants as log
use Rattle.store_tables.specs.declared.error.EngineError.{EngineError}
use Rattle.store_tables.specs.declared.error.EngineError.TheVariants as engine

-- a named file that is absent or too short is damage
abbrev pub error_of_disk : DiskError → EngineError
error_of_disk disk.Failed = engine.Disk
error_of_disk disk.NoFile = engine.Damaged
error_of_disk disk.Short = engine.Damaged
error_of_disk disk.Memory = engine.Memory

-- the error of an engine for that of a log
abbrev pub error_of_log : LogError → EngineError
error_of_log (log.Disk e) = error_of_disk e
error_of_log log.Memory = engine.Memory
error_of_log log.TooLong = engine.Damaged
error_of_log log.Failed = engine.Damaged

-- the error of an engine for that of a memtable
abbrev pub error_of_memtable : MemtableError → EngineError
error_of_memtable table.Memory = engine.Memory
error_of_memtable table.Failed = engine.Failed

-- the error of an engine for that of a manifest
abbrev pub error_of_manifest : ManifestError → EngineError
error_of_manifest manifest.Disk = engine.Disk
error_of_manifest manifest.Damaged = engine.Damaged
error_of_manifest manifest.NotCreated = engine.NotCreated
error_of_manifest manifest.Memory = engine.Memory
error_of_manifest manifest.Failed = engine.Failed
error_of_manifest manifest.OldFormat = engine.OldFormat

-- what the disk did to an edit of a manifest that works
abbrev pub error_of_edit : ManifestError → EngineError
error_of_edit manifest.Disk = engine.Disk
error_of_edit manifest.Damaged = engine.Damaged
error_of_edit manifest.NotCreated = engine.Damaged
error_of_edit manifest.Memory = engine.Memory
error_of_edit manifest.Failed = engine.Damaged
error_of_edit manifest.OldFormat = engine.Damaged

-- the error of an engine for that of a cursor
abbrev pub error_of_cursor : CursorError → EngineError
error_of_cursor cursor.Disk = engine.Disk
error_of_cursor cursor.Damaged = engine.Damaged
error_of_cursor cursor.Memory = engine.Memory
error_of_cursor cursor.Failed = engine.Failed

-- an external refusal or damage, after which an engine has to be opened again
abbrev pub IsEnd : EngineError → Type 0
IsEnd engine.Disk = Unit {0}
IsEnd engine.Damaged = Unit {0}
IsEnd engine.Memory = Unit {0}
IsEnd engine.NotCreated = ⊥
IsEnd engine.Failed = ⊥
IsEnd engine.TooOld = ⊥
IsEnd engine.NotCommitted = ⊥
IsEnd engine.NoSuchSnapshot = ⊥
IsEnd engine.TooManySnapshots = ⊥
IsEnd engine.Exhausted = ⊥
IsEnd engine.OldFormat = ⊥

-- the call ended the engine
abbrev pub EndsEngine : {T : Type 0} → Result T EngineError → Type 0
EndsEngine (Ok x) = ⊥
EndsEngine (Err e) = IsEnd e
