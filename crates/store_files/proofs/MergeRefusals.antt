-- A merge that is refused before its record.
use Rattle.std.proofs.Common.{◌≡◌, List, Result, refl}
use Rattle.std.specs.Prelude.{IsErrAnd, IsErrOf}
use Rattle.disk.specs.declared.Disk.{Ghosts}
use Rattle.disk.specs.{DurableFileIsLeft, IsEnvironmental, IsSame, IsStill, KeepsDisk, contents}
use Rattle.manifest.specs.{Change, EditsKeepVersions, HeldVersionIsLeft, HeldVersionStays}
use Rattle.store_model.specs.{LevelTable}
use Rattle.store_tables.specs.declared.error.EngineError.{EngineError}
use Rattle.store_tables.specs.declared.error.EngineError.TheVariants as engine
use Rattle.store_tables.specs.Errors.{IsEnd}
use Rattle.disk.specs.KeepingLemmas.{kept_as, kept_but}
use Rattle.store_tables.specs.LevelTables.{AreTablesOf}
use Rattle.store_tables.specs.MergeTables.{ReplacedLinesName}
use Rattle.store_tables.specs.RefusalLemmas.{refuses}
use Rattle.store_files.specs.declared.store_files.StoreFiles.{StoreFiles}
use Rattle.store_files.specs.Merging.{InstallsMerge, MayMerge}
use Rattle.store_files.proofs.MeantMerges.{still_were}
use Rattle.store_files.proofs.MergeMoments.{still_of_store}
use Rattle.store_files.proofs.TendKeeps.{refusal_on_ok}

-- behind reads alone it leaves all as it was
pub refused_behind_reads : {D : Type 0} (g : Ghosts D) {files : StoreFiles} {edit : Change}
    → MayMerge files edit → ReplacedLinesName → DurableFileIsLeft → HeldVersionIsLeft
    → HeldVersionStays → EditsKeepVersions → (disk later : D)
    (result : Result (Unit {0}) EngineError) (e : EngineError)
    → IsErrAnd result (λ s. s ≡ e) → IsEnd e
    → ((outputs : List LevelTable) → g.is_honest disk
    → AreTablesOf (contents (g.state disk)) edit.tables_added outputs
    → IsEnvironmental engine.Disk engine.Memory e)
    → KeepsDisk g disk later (IsErrOf result engine.Disk) ⊥ IsSame → IsStill g disk later
    → InstallsMerge g edit disk later files files result
refused_behind_reads g may names law held stays versions disk later result e told ends external
    kept still = record {
      kept = kept_but g (λ none. absurd none)
          (kept_as g ((λ f. f), (λ f. f)) (λ a b same. tt) kept);
      touches = λ honest file other. kept.files honest file;
      numbers = (refl, refl);
      usable = refusal_on_ok result _ _ told;
      did = refuses result _ IsEnd told ends;
      tended = λ list honest hs. record {
        list = refuses result _ (IsEnvironmental engine.Disk engine.Memory) told
            (external hs.merged.outputs honest hs.merged.read);
        any_moment = still_of_store may names law held versions list (g.state disk) hs
            (g.past disk) (g.past later) (g.state later) (still honest);
      };
      meant = λ list honest ms. record {
        list = refuses result _ (IsEnvironmental engine.Disk engine.Memory) told
            (external ms.merged.outputs honest ms.merged.read);
        any_moment = still_were may names law held stays versions list (g.state disk) ms
            (g.past disk) (g.past later) (g.state later) (still honest);
      };
    }
