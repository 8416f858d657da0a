-- Reads of an engine for which memory is enough.
use Rattle.std.proofs.Common.{◌≡◌, ℕ, List, Result, ap, arith, refl}
use Rattle.std.specs.Prelude.{IsErrAnd}
use Rattle.disk.specs.declared.Disk.{Ghosts}
use Rattle.disk.specs.{State}
use Rattle.kv_types.specs.{BatchContent}
use Rattle.table_files.specs.{inner_disk}
use Rattle.table_files.specs.declared.cached_disk.CachedDisk.{CachedDisk}
use Rattle.store_tables.specs.declared.error.EngineError.{EngineError}
use Rattle.store_tables.specs.declared.error.EngineError.TheVariants as engine
use Rattle.store_tables.specs.Errors.{IsEnd}
use Rattle.store_tables.specs.RefusalLemmas.{if_refuses}
use Rattle.store_tables.specs.TableReads.{NeedsNoDisk}
use Rattle.store_files.specs.declared.store_files.StoreFiles.{StoreFiles}
use Rattle.store_files.specs.OpenFiles.{MemoryLacks, WereMeantToHold, known_version}
use Rattle.engine.specs.Calls.{MemoryHas}

-- an edit that no table has is in memory
pub is_in_memory : (disk : State) (files : StoreFiles) (list : List BatchContent)
    → WereMeantToHold disk files list → (at : ℕ) (key : List ℕ)
    → MemoryHas list (known_version files).version.flushed at key
    → MemoryLacks files at key → ⊥
is_in_memory disk files list was at key has lacks =
    let known = was.hold.known in
    let entry = has.entry in
    let kept = known.store.kept_current in
    let flushed = known.store.current_flushed in
    let behind = has.in_memory in
    lacks entry
    ((known.entries entry).1 (omega (arith, kept, flushed, behind), behind, has.edited), has.seen)
    has.is_key

-- so a read of it that leaves the files leaves their disk
pub needs_none : {D T : Type 0} (g : Ghosts D) (old new : CachedDisk D g) (files : StoreFiles)
    (at : ℕ) (key : List ℕ) (result : Result T EngineError)
    → ((MemoryLacks files at key → ⊥) → NeedsNoDisk old new result) → (list : List BatchContent)
    → WereMeantToHold (g.state (inner_disk old)) files list
    → MemoryHas list (known_version files).version.flushed at key
    → NeedsNoDisk (inner_disk old) (inner_disk new) result
needs_none g old new files at key result none list was has =
    let unread = none (is_in_memory (g.state (inner_disk old)) files list was at key has) in
    record { same = ap inner_disk unread.same; causes = unread.causes }

-- a refusal that ends no engine needs none
pub refused_unread : {D T : Type 0} (disk : D) (result : Result T EngineError) (e : EngineError)
    → IsErrAnd result (λ s. s ≡ e) → (IsEnd e → ⊥) → NeedsNoDisk disk disk result
refused_unread disk result e told lives = record {
  same = refl;
  causes = if_refuses result (λ s. IsEnd s → s ≡ engine.Memory) told (λ end. absurd (lives end));
}
