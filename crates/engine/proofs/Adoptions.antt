-- An adoption by an engine: what changes of its disk, and a merge that stays under way.
use Rattle.std.proofs.Common.{ℕ, List, [], ap, arith, inl, inr, subst, sym}
use Rattle.std.specs.Prelude.{Contains}
use Rattle.disk.specs.declared.Disk.{Ghosts}
use Rattle.disk.specs.{IsSameBut, KeepsDisk}
use Rattle.manifest.specs.{NodeVersion, counting_file}
use Rattle.compaction.specs.declared.Merge.{Merge}
use Rattle.compaction.specs.Edits.{OutputsAreBeside}
use Rattle.compaction.specs.Outputs.{AreUnused}
use Rattle.store_model.specs.{LevelTable, MergePlan}
use Rattle.store_model.specs.PlacesLemmas.{contains_cases}
use Rattle.store_files.specs.declared.store_files.StoreFiles.{StoreFiles}
use Rattle.store_files.specs.Adopting.{IsAdoptedBy, adopted_files}
use Rattle.store_files.specs.Apart.{IsSlotOrFree, IsTableApart, OpenFilesAreApart}
use Rattle.store_files.specs.Files.{Facts, IsOwned}
use Rattle.store_files.specs.Tending.{IsSameBeside, tended_files}
use Rattle.table_files.specs.{inner_disk}
use Rattle.table_files.specs.declared.cached_disk.CachedDisk.{CachedDisk}
use Rattle.engine.specs.LentFiles.{files_ghosts}
use Rattle.engine.specs.UnderWay.{IsMergeOf, MergesOfEngineLast}
use Rattle.engine.proofs.Merges.{LeavesMergeOf, slots_leave}

module _ {D : Type 0} (g : Ghosts D) (a b : CachedDisk D g) where
  -- the one file that may change is the counting slot
  pub slot_changes : (store : StoreFiles) {told cause : Type 0} →
      KeepsDisk (files_ghosts g) a b told cause IsOwned →
      (g.is_honest (inner_disk a) → IsSameBeside (adopted_files store) (g.state (inner_disk a))
      (g.state (inner_disk b))) → KeepsDisk (files_ghosts g) a b told cause
      (IsSameBut (counting_file store.manifest))
  slot_changes store kept touches = record {
    honest = kept.honest;
    failed = kept.failed;
    count = kept.count;
    only = kept.only;
    reliable = kept.reliable;
    files = λ honest file other. touches honest file
        (λ has. elim (contains_cases (counting_file store.manifest) [] file has) [
          | inl is ↦ other (sym is)
          | inr none ↦ let lt = none.1 in absurd (omega (arith, lt))
        ]);
    fault = kept.fault;
    spared = kept.spared;
  }

  module _ (lasts : MergesOfEngineLast g) (apart : OpenFilesAreApart) (was now : StoreFiles)
      (tables : List LevelTable) (merge : Merge D) (plan : MergePlan)
      (m : IsMergeOf g a was tables merge plan) where
    -- a merge outlives an adoption, which changes no line of the version
    pub adoption_leaves : (epoch : ℕ) (ids : List ℕ) → IsAdoptedBy epoch ids was now →
        ((file : ℕ) → Contains (tended_files was) file → IsSlotOrFree was file) →
        ((table : LevelTable) → Contains tables table → IsTableApart was table.file) →
        g.is_honest (inner_disk b) →
        IsSameBeside (adopted_files was) (g.state (inner_disk a)) (g.state (inner_disk b)) →
        AreUnused (g.state (inner_disk b)) now.free_file →
        LeavesMergeOf g lasts a b was now merge plan
    adoption_leaves epoch ids did slots each honest same unused = record {
      leaves = slots_leave g lasts apart a b was now tables merge plan m (adopted_files was)
          (λ file has. elim (contains_cases (counting_file was.manifest) [] file has) [
            | inl is ↦ slots file (0, omega arith, is)
            | inr none ↦ let lt = none.1 in absurd (omega (arith, lt))
          ]) each honest same (let free = did.free in omega (arith, free)) unused;
      floor = ap (λ (f : Facts). f.floor) did.facts;
      beside = subst (λ (n : NodeVersion). OutputsAreBeside merge.writer n.version)
          (sym did.version) m.beside;
    }
