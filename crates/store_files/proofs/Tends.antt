-- The files of a store whose manifest alone is written: anew, or with another configuration.
use Rattle.std.proofs.Common.{◌≤◌, ℕ, List, Contains, ap, arith, inl, inr, refl, subst, sym, ◌≡◌}
use Rattle.std.proofs.Common.{◌↔◌, Err}
use Rattle.std.proofs.lemmas.List.Elements.{All-contains}
use Rattle.std.specs.Prelude.{IsErrOf, IsNone}
use Rattle.kv_types.specs.{BatchContent}
use Rattle.disk.specs.{IsEnvironmental, DurableFileIsLeft, IsSameBut, LeavesSince, Slot, State}
use Rattle.disk.specs.{seen}
use Rattle.disk.specs.MomentsLemmas.{none_yet, weaker}
use Rattle.manifest.specs.declared.LogLine.{LogLine}
use Rattle.manifest.specs.declared.Manifest.{Manifest}
use Rattle.manifest.specs.declared.ManifestError.{ManifestError}
use Rattle.manifest.specs.declared.TableLine.{TableLine}
use Rattle.manifest.specs.Lawful.{IsAllocated}
use Rattle.manifest.specs.{HeldVersionIsLeft, IsSlotFile, ManifestHolds, IsVersion}
use Rattle.manifest.specs.{ManifestHasFailed, ManifestRepresents, NodeVersion, SlotsAreLeft}
use Rattle.manifest.specs.{StoreVersion, version_of}
use Rattle.manifest.specs.declared.ManifestError.TheVariants as manifest
use Rattle.store_files.specs.declared.store_files.StoreFiles.{StoreFiles}
use Rattle.store_tables.specs.declared.error.EngineError.TheVariants as engine
use Rattle.store_tables.specs.declared.error.EngineError.{EngineError}
use Rattle.batch_logs.specs.BatchLogs.{lines_of}
use Rattle.store_tables.specs.Errors.{IsEnd, error_of_edit}
use Rattle.store_tables.specs.LevelTables.{table_lines}
use Rattle.store_files.specs.Adopting.{facts_with_config, with_config}
use Rattle.store_files.specs.OpenFiles.{AreUsableFiles, FilesHold, batch_count, known_facts}
use Rattle.store_files.specs.OpenFiles.{known_store, known_version, trimmed_count}
use Rattle.store_files.specs.StoreFiles.{AreOrderedNumbers, FilesRepresent}
use Rattle.store_files.proofs.Appended.{left_now}
use Rattle.store_files.proofs.FilesApart.{given_no_slot}
use Rattle.store_files.proofs.KeptFiles.{HoldsLater, held_with_config, lines_are_left}
use Rattle.store_files.proofs.KeptFiles.{numbers_with_config, with_manifest}
use Rattle.store_files.proofs.KeptNames.{kept_is_given, slot_is_kept}
use Rattle.store_files.proofs.NamedHolds.{facts_of}

-- ---- refusals

-- an external refusal of a manifest is one of the engine
pub edit_is_external : (e : ManifestError) → IsEnvironmental manifest.Disk manifest.Memory e →
    IsEnvironmental engine.Disk engine.Memory (error_of_edit e)
edit_is_external e (inl failed) = inl (ap error_of_edit failed)
edit_is_external e (inr memory) = inr (ap error_of_edit memory)

-- it ends the files, and the device failed where it failed under the manifest
pub edit_ends : (e : ManifestError) → IsEnd (error_of_edit e)
edit_ends manifest.Disk = tt
edit_ends manifest.Damaged = tt
edit_ends manifest.NotCreated = tt
edit_ends manifest.Memory = tt
edit_ends manifest.Failed = tt
edit_ends manifest.OldFormat = tt

pub edit_failed : {T U : Type 0} (e : ManifestError) (s : EngineError) → s ≡ error_of_edit e →
    IsErrOf {T = T} (Err e) manifest.Disk ↔ IsErrOf {T = U} (Err s) engine.Disk
edit_failed manifest.Disk s is = (λ f. ap (λ d. Err d) is, λ f. refl)
edit_failed manifest.Damaged s is = (λ f. absurd cc, λ f. absurd cc)
edit_failed manifest.NotCreated s is = (λ f. absurd cc, λ f. absurd cc)
edit_failed manifest.Memory s is = (λ f. absurd cc, λ f. absurd cc)
edit_failed manifest.Failed s is = (λ f. absurd cc, λ f. absurd cc)
edit_failed manifest.OldFormat s is = (λ f. absurd cc, λ f. absurd cc)

-- ---- another manifest of the same version, but for the configuration

module _ (files : StoreFiles) (other : Manifest) where
  module _ (epoch : ℕ) (ids : List ℕ)
      (told : version_of other ≡ with_config (known_version files) epoch ids) where
    -- the files know the facts with that configuration
    pub facts_recorded : known_facts (with_manifest files other)
        ≡ facts_with_config (known_facts files) epoch ids
    facts_recorded = ap (λ (n : NodeVersion). facts_of n.id n.version (trimmed_count files)) told

    -- and they stay usable, where it works
    pub usable_recorded : IsVersion (with_config (known_version files) epoch ids).version →
        (ManifestHasFailed other → ⊥) → AreUsableFiles files →
        AreUsableFiles (with_manifest files other)
    usable_recorded lawful works u =
        let back = sym told in
        record {
          works = works;
          version = subst (λ (n : NodeVersion). IsVersion n.version) back lawful;
          logs = u.logs;
          lines = subst (λ (n : NodeVersion). lines_of files.logs ≡ n.version.logs) back u.lines;
          tables = subst (λ (n : NodeVersion). table_lines files.tables ≡ n.version.tables) back
              u.tables;
          memtable = u.memtable;
          numbers = subst (λ (n : NodeVersion). AreOrderedNumbers n.version (trimmed_count files)
              (batch_count files)) back
              (numbers_with_config (known_version files).version epoch ids (trimmed_count files)
              (batch_count files) u.numbers);
          free = subst (λ (n : NodeVersion). n.version.next_file ≤ files.free_file) back u.free;
          free_few = u.free_few;
        }

  -- where it is the own one, the facts are the same
  module _ (same : version_of other ≡ known_version files) where
    pub facts_with : known_facts (with_manifest files other) ≡ known_facts files
    facts_with = facts_recorded (known_version files).version.epoch
        (known_version files).version.ids same

    pub usable_with : (ManifestHasFailed other → ⊥) → AreUsableFiles files →
        AreUsableFiles (with_manifest files other)
    usable_with works u = usable_recorded (known_version files).version.epoch
        (known_version files).version.ids same u.version works u

-- ---- the files

module _ (disk : State) (files : StoreFiles) (list : List BatchContent)
    (h : FilesHold disk files list) where
  abbrev version : StoreVersion
  version = (known_version files).version

  -- no line names a slot
  log_no_slot : (line : LogLine) → Contains version.logs line → IsSlotFile line.file → ⊥
  log_no_slot line has slot = given_no_slot version line.file
      (All-contains (λ (one : LogLine). IsAllocated version one.file) version.logs line
      h.known.usable.version.lines.log_files has) line.file slot refl

  table_no_slot : (line : TableLine) → Contains version.tables line → IsSlotFile line.file → ⊥
  table_no_slot line has slot = given_no_slot version line.file
      (All-contains (λ (one : TableLine). IsAllocated version one.file) version.tables line
      h.known.usable.version.lines.table_files has) line.file slot refl

  -- before the first call
  pub nothing_called : DurableFileIsLeft → HeldVersionIsLeft → (past : List State) →
      LeavesSince disk past disk past (FilesRepresent (known_facts files) list)
  nothing_called durable_is_left held_is_left past =
      none_yet (FilesRepresent (known_facts files) list) disk past
      (left_now disk files list h durable_is_left held_is_left)

  -- while slots that represent the version are written
  pub slots_are_written : DurableFileIsLeft → (past since : List State) (new : State) →
      LeavesSince disk past new since (SlotsAreLeft disk (ManifestRepresents (known_version files)))
      → LeavesSince disk past new since (FilesRepresent (known_facts files) list)
  slots_are_written durable_is_left past since new run =
      weaker (SlotsAreLeft disk (ManifestRepresents (known_version files)))
      (FilesRepresent (known_facts files) list) disk past new since
      (λ left at. lines_are_left disk files list h.known durable_is_left left
      at.here (λ line has. at.others line.file (log_no_slot line has))
      (λ line has. at.others line.file (table_no_slot line has))) run

  -- with a manifest that wrote the version with a configuration they hold what they held, and a
  -- merge can end as before
  pub recorded_later : (epoch : ℕ) (ids : List ℕ) →
      IsVersion (with_config (known_version files) epoch ids).version → (new : State)
      (manifest : Manifest) (slot : ℕ) → IsSlotFile slot → IsSameBut slot disk new →
      ManifestHolds new manifest (with_config (known_version files) epoch ids) →
      HoldsLater (known_store files h.known.tables) new (with_manifest files manifest) list
  recorded_later epoch ids lawful new manifest slot is spares holds =
      held_with_config disk files list h.known epoch ids lawful new manifest holds
      (λ line has. spares line.file (λ same. log_no_slot line has (subst IsSlotFile (sym same) is)))
      (λ line has. spares line.file
      (λ same. table_no_slot line has (subst IsSlotFile (sym same) is))) unused
    where
      unused : (file : ℕ) → files.free_file ≤ file → IsNone (seen (new file))
      unused file above = subst (λ (one : Slot). IsNone (seen one)) (sym (spares file (λ same.
          let below = kept_is_given version h.known.usable.version slot
          (slot_is_kept version slot is) in
          let first = h.known.usable.free in
          omega (arith, same, below, first, above)))) (h.unused file above)

  -- so it is with the own configuration
  pub rewritten_later : (new : State) (manifest : Manifest) (slot : ℕ) → IsSlotFile slot →
      IsSameBut slot disk new → ManifestHolds new manifest (known_version files) →
      HoldsLater (known_store files h.known.tables) new (with_manifest files manifest) list
  rewritten_later = recorded_later version.epoch version.ids h.known.usable.version

  -- so they hold it
  pub held_rewritten : (new : State) (manifest : Manifest) (slot : ℕ) → IsSlotFile slot →
      IsSameBut slot disk new → ManifestHolds new manifest (known_version files) →
      FilesHold new (with_manifest files manifest) list
  held_rewritten new manifest slot is spares holds =
      (rewritten_later new manifest slot is spares holds).0
