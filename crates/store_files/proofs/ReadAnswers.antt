-- The answers of an opening, by what its files represent.
use Rattle.std.proofs.Common.{◌≡◌, ℕ, suc, ◌+◌, ◌-◌, List}
use Rattle.std.proofs.Common.{arith, drop, length, refl, subst, sym}
use Rattle.kv_types.specs.{BatchContent}
use Rattle.disk.specs.{Contents, IsEnvironmental, State, contents}
use Rattle.manifest.specs.declared.Manifest.{Manifest}
use Rattle.manifest.specs.Holds.{SparesOthers}
use Rattle.manifest.specs.{IsVersion, NodeVersion}
use Rattle.manifest.specs.{IsNotCreated, IsOldStore, ManifestHasFailed, ManifestRepresents}
use Rattle.manifest.specs.declared.ManifestError.{ManifestError}
use Rattle.manifest.specs.declared.ManifestError.TheVariants as manifest
use Rattle.manifest.specs.Manifests.{ManifestRefusal}
use Rattle.manifest.specs.{version_of}
use Rattle.store_tables.specs.declared.error.EngineError.{EngineError}
use Rattle.store_tables.specs.declared.error.EngineError.TheVariants as engine
use Rattle.store_tables.specs.Errors.{IsEnd, error_of_manifest}
use Rattle.store_files.specs.declared.opening.ReadParts.{ReadParts}
use Rattle.batch_logs.specs.BatchLogs.{first_number}
use Rattle.store_files.specs.Files.{Facts}
use Rattle.store_tables.specs.LevelTables.{AreTablesOf}
use Rattle.batch_logs.specs.Replaying.{AreBatchesOf}
use Rattle.store_files.specs.OpenFiles.{AreUsableFiles}
use Rattle.store_files.specs.OpenFiles.{batch_count, known_facts, known_version}
use Rattle.store_files.specs.declared.store_files.StoreFiles.{StoreFiles}
use Rattle.store_files.specs.StoreFiles.{AreOrderedNumbers}
use Rattle.store_files.specs.OpenFiles.{FilesOpenAs, OpeningRefusal}
use Rattle.store_files.specs.Openings.{AreParts, HasParts, WereParts}
use Rattle.store_files.specs.StoreFiles.{FilesRepresent, OpensAs}
use Rattle.store_files.proofs.ReadFiles.{batches_before, batches_of, batches_then, damage_is_own}
use Rattle.store_files.proofs.ReadFiles.{files_of_parts, fit_before, fit_then, ordered_of}
use Rattle.store_files.proofs.ReadFiles.{tables_then}

-- ---- the answers of an opening

-- what reading the parts of a version asks for
pub asked : (s0 s1 : State) → SparesOthers s0 s1 → (facts : Facts) (list : List BatchContent)
    (h : FilesRepresent facts list (contents s0)) → IsVersion h.version → (n : NodeVersion)
    → n ≡ record { id = facts.id; version = h.version }
    → AreBatchesOf (contents s1) n.version.logs (suc facts.kept) (drop facts.kept list)
    × AreTablesOf (contents s1) n.version.tables h.tables
    × AreOrderedNumbers n.version (suc facts.kept - 1)
    (suc facts.kept - 1 + length (drop facts.kept list))
asked s0 s1 spares facts list h is n same = (
  subst (λ (v : NodeVersion).
      AreBatchesOf (contents s1) v.version.logs (suc facts.kept) (drop facts.kept list)) (sym same)
      (batches_then h.version is s0 s1 spares (suc facts.kept) (drop facts.kept list)
      (batches_of facts list (contents s0) h)),
  subst (λ (v : NodeVersion). AreTablesOf (contents s1) v.version.tables h.tables) (sym same)
      (tables_then h.version is s0 s1 spares h.tables h.read),
  subst (λ (v : NodeVersion). AreOrderedNumbers v.version (suc facts.kept - 1)
      (suc facts.kept - 1 + length (drop facts.kept list))) (sym same)
      (ordered_of facts list (contents s0) h),
)

pub usable_of : (manifest : Manifest) (parts : ReadParts) → (ManifestHasFailed manifest → ⊥)
    → AreParts (version_of manifest).version parts
    → AreUsableFiles (files_of_parts manifest parts)
usable_of manifest parts works p = record {
  works = works;
  version = p.lawful;
  logs = p.logs.usable;
  lines = p.logs.named;
  tables = p.tables;
  memtable = p.logs.numbered;
  numbers = p.numbers;
  free = omega arith;
  free_few = p.lawful.next_file;
}

pub opens_as : (s0 s1 s2 : State) → SparesOthers s0 s1 → (manifest : Manifest) (parts : ReadParts)
    → IsVersion (version_of manifest).version
    → ManifestRepresents (version_of manifest) (contents s0)
    → WereParts s1 s2 (version_of manifest).version parts
    → FilesOpenAs (contents s0) (files_of_parts manifest parts)
opens_as s0 s1 s2 spares manifest parts is had w =
    let positive = w.had.had.positive in
    let count = w.had.count in
    let first : first_number parts.logs ≡ suc (first_number parts.logs - 1) =
    omega (arith, positive) in
    record {
      version = had;
      batches = w.had.batches;
      logs = subst (λ (n : ℕ). AreBatchesOf (contents s0) (version_of manifest).version.logs n
          w.had.batches) first (batches_before (version_of manifest).version is s0 s1 spares
          (first_number parts.logs) w.had.batches w.had.had);
      count = omega (arith, positive, count);
      tables = fit_before (version_of manifest).version is s0 s1 spares w.fits;
    }

-- what open files know, their disk's files open as
pub opens_of : (left : Contents) (files : StoreFiles) → FilesOpenAs left files →
    AreUsableFiles files → OpensAs left (known_facts files) (batch_count files)
opens_of left files opens usable = record {
  version = (known_version files).version;
  manifest = opens.version;
  epoch = refl;
  ids = refl;
  floor = refl;
  batches = opens.batches;
  logs = opens.logs.have;
  each = opens.logs.each;
  counted = opens.count;
  numbers = usable.numbers;
  tables = opens.tables;
}

-- files that open as something have the parts, behind the opening of the manifest
pub parts_then : (s0 s1 : State) → SparesOthers s0 s1 → (facts : Facts) (count : ℕ)
    → (o : OpensAs (contents s0) facts count) → IsVersion o.version
    → HasParts (contents s1) o.version
parts_then s0 s1 spares facts count o is =
    let kept = facts.kept in
    let counted = o.counted in
    let few = o.numbers.few in
    let back : kept ≡ suc kept - 1 = omega arith in
    record {
      first = suc kept;
      batches = o.batches;
      had = batches_then o.version is s0 s1 spares (suc kept) o.batches (record {
        positive = omega arith;
        have = o.logs;
        each = o.each;
        few = omega (arith, counted, few);
      });
      fits = fit_then o.version is s0 s1 spares o.tables;
      ordered = subst (λ (k : ℕ). AreOrderedNumbers o.version k (k + length o.batches)) back
          (subst (AreOrderedNumbers o.version kept) counted o.numbers);
    }

-- a refusal after the manifest was opened is of a store that was created, not in the old format,
-- and of files that open as nothing
pub end_explained : (e : EngineError) (left : Contents) → IsEnd e → (IsNotCreated left → ⊥)
    → (IsOldStore left → ⊥) → ((facts : Facts) (count : ℕ) → OpensAs left facts count →
    IsEnvironmental engine.Disk engine.Memory e)
    → OpeningRefusal e left
end_explained engine.Disk left ends created not_old opens = tt
end_explained engine.Damaged left ends created not_old opens =
    (created, not_old, λ facts count it. damage_is_own (opens facts count it))
end_explained engine.Memory left ends created not_old opens = tt
end_explained engine.NotCreated left ends created not_old opens = absurd ends
end_explained engine.Failed left ends created not_old opens = absurd ends
end_explained engine.TooOld left ends created not_old opens = absurd ends
end_explained engine.NotCommitted left ends created not_old opens = absurd ends
end_explained engine.NoSuchSnapshot left ends created not_old opens = absurd ends
end_explained engine.TooManySnapshots left ends created not_old opens = absurd ends
end_explained engine.Exhausted left ends created not_old opens = absurd ends
end_explained engine.OldFormat left ends created not_old opens = absurd ends

-- so is one of the manifest
pub slots_explained : (e : ManifestError) (left : Contents) → ManifestRefusal e left
    → OpeningRefusal (error_of_manifest e) left
slots_explained manifest.Disk left told = tt
slots_explained manifest.Damaged left told = (
  told.0,
  told.2,
  λ facts count it. told.1 (record { id = facts.id; version = it.version }) it.manifest,
)
slots_explained manifest.NotCreated left told = told
slots_explained manifest.Memory left told = tt
slots_explained manifest.Failed left told = absurd told
slots_explained manifest.OldFormat left told = told
