-- What the calls of a builder promise.
use Rattle.std.specs.Prelude.{◌≡◌, IsErrOf, ℕ, List, ◌++◌, length, Result, MatchResult}
use Rattle.disk.specs.{IsEnvironmental}
use Rattle.disk.specs.declared.Disk.{Ghosts}
use Rattle.disk.specs.{AlwaysLeaves, EndsOutOfRange, IsLeftAt, IsSameBut, KeepsDisk, Slot}
use Rattle.disk.specs.{WritesInto}
use Rattle.kv_types.specs.{Entry}
use Rattle.table_format.specs.declared.FileError.{FileError}
use Rattle.table_format.specs.declared.FileError.TheVariants as reading
use Rattle.table_format.specs.declared.TableError.TheVariants as table
use Rattle.table_format.specs.declared.TableError.{TableError}
use Rattle.table_format.specs.{Block, data_bytes}
use Rattle.byte_fields.specs.declared.format.Format.TheVariants.{Two}
use Rattle.table_builder.specs.declared.builder.Builder.{Builder}
use Rattle.table_builder.specs.declared.builder.Finished.{Finished}
use Rattle.table_builder.specs.Builders.{AddOutcome, AddStatus, Builds, BuildsNothing}
use Rattle.table_builder.specs.Builders.{FinishStatus, HeldOutcome, HoldsEntries, IsFinishedTable}
use Rattle.table_builder.specs.Builders.{LeavesBlockOpen, NeedsNoDevice, builder_file}
use Rattle.table_builder.specs.Fresh.{IsFresh}

module _ {D : Type 0} (g : Ghosts D) where
  -- Bytes were appended to a file of which nothing was synced. After Ok this is so of its slot and
  -- of all its bytes.
  pub record AppendsBytes {T : Type 0} (file at : ℕ) (bytes : List ℕ)
      (is_after : Slot → List ℕ → Type 0) (old new : D) (result : Result T FileError)
      : Type 0 where
    pub device : WritesInto g file old new (IsErrOf result reading.Disk)
        (EndsOutOfRange at (length bytes))
    pub appended : (there : List ℕ) → g.is_honest old → IsFresh (g.state old file) there →
        at ≡ length there →
        MatchResult result (λ _. is_after (g.state new file) (there ++ bytes))
        (IsEnvironmental reading.Disk reading.Memory)

  -- a file of which nothing was synced has these blocks before a call, and those after Ok
  abbrev pub WritesBlocks : {T : Type 0} → (file : ℕ) (before after : List Block) (old new : D)
      → Result T FileError → Type 0
  WritesBlocks file before after old new result =
      g.is_honest old → IsFresh (g.state old file) (data_bytes Two before) →
      MatchResult result (λ _. IsFresh (g.state new file) (data_bytes Two after))
      (IsEnvironmental reading.Disk reading.Memory)

  -- an entry was added to a builder, or refused
  pub record AddsEntry (entry : Entry) (old : Builder) (before : D) (new : Builder) (now : D)
      (result : Result (Unit {0}) TableError) : Type 0 where
    -- the call writes to the builder's file alone
    pub kept : KeepsDisk g before now (IsErrOf result table.Disk) (BuildsNothing old)
        (IsSameBut (builder_file old))
    -- the answers by the builder alone
    pub status : AddStatus result old new (now ≡ before)
    -- on an honest disk
    pub added : (entries : List Entry) → g.is_honest before →
        Builds (g.state before (builder_file old)) old entries →
        AddOutcome entries entry result (g.state now (builder_file old)) new
    -- on any disk
    pub held : (entries : List Entry) → HoldsEntries old entries →
        HeldOutcome entries entry result new
    -- where it fills no block, no device is called
    pub quiet : (entries : List Entry) → HoldsEntries old entries →
        LeavesBlockOpen entries entry → (now ≡ before) × NeedsNoDevice result
    -- a crash at any moment since the call began leaves each other file as it was
    pub any_moment : g.is_honest before → AlwaysLeaves g before now
        (IsLeftAt (g.state before) (builder_file old) (λ left. Unit {0}))

  -- a table was finished, or refused
  pub record FinishesTable (it : Builder) (before now : D) (result : Result Finished TableError)
      : Type 0 where
    -- the call writes to the builder's file alone
    pub kept : KeepsDisk g before now (IsErrOf result table.Disk) (BuildsNothing it)
        (IsSameBut (builder_file it))
    -- the answers by the builder alone
    pub status : FinishStatus result it
    -- on an honest disk
    pub finished : (entries : List Entry) → g.is_honest before →
        Builds (g.state before (builder_file it)) it entries →
        MatchResult result (IsFinishedTable (g.state now (builder_file it)) entries)
        (IsEnvironmental table.Disk table.Memory)
    -- a crash at any moment since the call began leaves each other file as it was
    pub any_moment : g.is_honest before → AlwaysLeaves g before now
        (IsLeftAt (g.state before) (builder_file it) (λ left. Unit {0}))
