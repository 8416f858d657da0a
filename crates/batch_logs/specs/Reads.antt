-- What calls promise of the disk that they read.
use Rattle.std.specs.Prelude.{IfErr, IsErrOf, Result}
use Rattle.disk.specs.declared.Disk.{Ghosts}
use Rattle.disk.specs.{IsStill, KeepsDisk, State}
use Rattle.store_tables.specs.declared.error.EngineError.TheVariants as engine
use Rattle.store_tables.specs.declared.error.EngineError.{EngineError}
use Rattle.store_tables.specs.Errors.{IsEnd}

-- what a call promises that reads files, and at most syncs them
pub record OnlyReads {D T : Type 0} (g : Ghosts D) (old new : D) (IsKept : State → State → Type 0)
    (result : Result T EngineError) : Type 0 where
  -- a device that works never fails, and its files change only so
  pub kept : KeepsDisk g old new (IsErrOf result engine.Disk) ⊥ IsKept
  -- it is refused for `Disk`, `Damaged` or `Memory` alone
  pub causes : IfErr result IsEnd
  -- a crash at any moment leaves what it might have left before
  pub still : IsStill g old new
