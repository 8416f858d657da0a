-- How a manifest's refusals are told, and what the first files hold.
use Rattle.std.proofs.Common.{◌≡◌, ◌≢◌, ◌↔◌, ◌≤◌, ◌∙◌, ℕ, suc, List, [], ◌∷◌, ◌-◌, drop, arith}
use Rattle.std.proofs.Common.{refl}
use Rattle.std.proofs.Common.{Option, Some, None, Result, Ok, Err, ap, inl, inr, subst, sym}
use Rattle.std.specs.Prelude.{All, Contains, IsErrAnd, IsErrOf, IsNone}
use Rattle.std.proofs.lemmas.List.Elements.{All-nil}
use Rattle.kv_types.specs.{Entry, IsBatch}
use Rattle.disk.specs.{IsDurable, IsEnvironmental, IsSame, IsSameBut, Slot, State, contents, seen}
use Rattle.record_log.specs.{EndsInRange, IsDurableAs, begun, count_of}
use Rattle.memtable.specs.{HasFailedAdd, TableHolds}
use Rattle.store_model.specs.Claims.{EmptyRepresents}
use Rattle.store_model.specs.{StoreRepresents}
use Rattle.disk.specs.declared.DiskError.{DiskError}
use Rattle.disk.specs.declared.DiskError.TheVariants as disk
use Rattle.record_log.specs.declared.LogError.{LogError}
use Rattle.record_log.specs.declared.LogError.TheVariants as log
use Rattle.manifest.specs.Errors.{IsOfFiles}
use Rattle.manifest.specs.declared.ManifestError.{ManifestError}
use Rattle.manifest.specs.declared.ManifestError.TheVariants as manifest
use Rattle.manifest.specs.declared.LogLine.{LogLine}
use Rattle.manifest.specs.declared.TableLine.{TableLine}
use Rattle.manifest.specs.{IsSlotFile, IsVersion}
use Rattle.manifest.specs.{ManifestHasFailed, ManifestHolds, NodeVersion, first_version}
use Rattle.manifest.specs.Holds.{SparesOthers}
use Rattle.batch_logs.specs.declared.batch_logs.BatchLog.{BatchLog}
use Rattle.batch_logs.specs.declared.batch_logs.BatchLogs.{BatchLogs}
use Rattle.store_tables.specs.declared.error.EngineError.TheVariants as engine
use Rattle.store_tables.specs.declared.error.EngineError.{EngineError}
use Rattle.store_files.specs.declared.store_files.StoreFiles.{StoreFiles}
use Rattle.batch_logs.specs.BatchLogs.{HoldsPart, IsWorking, LogsHold, end_of_log, first_number}
use Rattle.batch_logs.specs.BatchLogs.{lines_of, next_number, oldest_first}
use Rattle.store_tables.specs.Errors.{IsEnd, error_of_disk, error_of_log, error_of_manifest}
use Rattle.store_tables.specs.LevelTables.{AreServed, AreTablesOf, table_lines}
use Rattle.store_files.specs.OpenFiles.{AreUsableFiles, FilesHold, IsOpeningError, batch_count}
use Rattle.store_files.specs.StoreFiles.{AreOrderedNumbers}
use Rattle.store_files.specs.OpenFiles.{known_store, known_version, trimmed_count}
use Rattle.store_files.specs.Settling.{AreAlone}
use Rattle.store_files.specs.StoreFiles.{store_of_version}
use Rattle.store_files.proofs.Entries.{none_among}
use Rattle.batch_logs.specs.MemtablesLemmas.{none_numbered}
use Rattle.batch_logs.specs.BatchLogsLemmas.{IsAlone, alone_holds, alone_next, alone_usable}

-- a log of file 3 from the first batch on is a new store's only one
pub first_line : (file first : ℕ) → file ≡ 3 → first ≡ 1 →
    ◌≡◌ {A = List LogLine} (record { file = file; first = first } ∷ [])
    (record { file = 3; first = 1 } ∷ [])
first_line file first in_file is_first = rw (in_file, is_first) refl

-- a log without records that begins with the first batch counts none
pub counts_none : (logs : BatchLogs) (one : BatchLog) → IsAlone logs one → one.first ≡ 1 →
    count_of one.log ≡ 0 → next_number logs - 1 ≡ 0
counts_none logs one alone first count =
    let next : next_number logs ≡ end_of_log one = alone_next logs one alone in
    omega (arith, next, first, count)

-- a failure of the device under a manifest is told as one of the disk
pub manifest_failed : {T U : Type 0} (called : Result T ManifestError) (e : ManifestError)
    (result : Result U EngineError) → called ≡ Err e →
    IsErrAnd result (λ s. s ≡ error_of_manifest e) →
    IsErrOf called manifest.Disk ↔ IsErrOf result engine.Disk
manifest_failed called e (Ok x) is told = absurd told
manifest_failed called manifest.Disk (Err s) is told = (λ _. ap (λ d. Err d) told, λ _. is)
manifest_failed called manifest.Damaged (Err s) is told = (λ f. cc, λ f. cc)
manifest_failed called manifest.NotCreated (Err s) is told = (λ f. cc, λ f. cc)
manifest_failed called manifest.Memory (Err s) is told = (λ f. cc, λ f. cc)
manifest_failed called manifest.Failed (Err s) is told = (λ f. cc, λ f. cc)
manifest_failed called manifest.OldFormat (Err s) is told = (λ f. cc, λ f. cc)

-- an external refusal of a manifest is one of the engine
pub manifest_is_external : (e : ManifestError) → IsEnvironmental manifest.Disk manifest.Memory e →
    IsEnvironmental engine.Disk engine.Memory (error_of_manifest e)
manifest_is_external e (inl failed) = inl (ap error_of_manifest failed)
manifest_is_external e (inr memory) = inr (ap error_of_manifest memory)

-- a manifest that was not opened is why no store was
pub manifest_refuses : (e : ManifestError) → (e ≡ manifest.Failed → ⊥) →
    IsOpeningError (error_of_manifest e)
manifest_refuses manifest.Disk works = inl tt
manifest_refuses manifest.Damaged works = inl tt
manifest_refuses manifest.NotCreated works = inr (inl refl)
manifest_refuses manifest.Memory works = inl tt
manifest_refuses manifest.Failed works = absurd (works refl)
manifest_refuses manifest.OldFormat works = inr (inr refl)

-- one that was not created ends the store
pub manifest_ends : (e : ManifestError) → IsOfFiles e → IsEnd (error_of_manifest e)
manifest_ends manifest.Disk is = tt
manifest_ends manifest.Damaged is = tt
manifest_ends manifest.NotCreated is = absurd is
manifest_ends manifest.Memory is = tt
manifest_ends manifest.Failed is = absurd is
manifest_ends manifest.OldFormat is = absurd is

-- so does a log
pub disk_ends : (e : DiskError) → IsEnd (error_of_disk e)
disk_ends disk.Failed = tt
disk_ends disk.NoFile = tt
disk_ends disk.Short = tt
disk_ends disk.Memory = tt

pub log_ends : (e : LogError) → IsEnd (error_of_log e)
log_ends (log.Disk e) = disk_ends e
log_ends log.Memory = tt
log_ends log.TooLong = tt
log_ends log.Failed = tt

-- ---- the first files

-- what the calls of a creation gave
pub record AreFirst (files : StoreFiles) (one : BatchLog) (id : ℕ) (ids : List ℕ) : Type 0 where
  pub works : ManifestHasFailed files.manifest → ⊥
  pub known : known_version files ≡ first_version id ids
  pub version : IsVersion (known_version files).version
  pub alone : IsAlone files.logs one
  pub log_works : IsWorking one
  pub line : lines_of files.logs ≡ record { file = 3; first = 1 } ∷ []
  pub first : one.first ≡ 1
  pub count : count_of one.log ≡ 0
  pub tables : table_lines files.tables ≡ (known_version files).version.tables
  pub memtable_works : HasFailedAdd files.memtable → ⊥
  pub empty : (entry : Entry) → TableHolds files.memtable entry → ⊥
  pub free : files.free_file ≡ (known_version files).version.next_file

module _ (files : StoreFiles) (one : BatchLog) (id : ℕ) (ids : List ℕ)
    (f : AreFirst files one id ids) where
  first_trimmed : trimmed_count files ≡ 0
  first_trimmed =
      let older : first_number files.logs ≡ files.logs.newest.first =
      ap (λ (l : List BatchLog). oldest_first l files.logs.newest) f.alone.older in
      let newest : files.logs.newest.first ≡ one.first =
      ap (λ (l : BatchLog). l.first) f.alone.newest in
      omega (arith, older, newest, f.first)

  first_count : batch_count files ≡ 0
  first_count = counts_none files.logs one f.alone f.first f.count

  first_numbers : AreOrderedNumbers (known_version files).version (trimmed_count files)
      (batch_count files)
  first_numbers =
      subst (λ (k : ℕ). AreOrderedNumbers (known_version files).version k (batch_count files))
      (sym first_trimmed)
      (subst (λ (k : ℕ). AreOrderedNumbers (known_version files).version 0 k) (sym first_count)
      (subst (λ (v : NodeVersion). AreOrderedNumbers v.version 0 0) (sym f.known)
      (record {
        kept_floor = omega arith;
        kept_current = omega arith;
        current_flushed = omega arith;
        flushed_count = omega arith;
        floor_count = omega arith;
        few = omega arith;
      })))

  pub first_usable : AreUsableFiles files
  first_usable = record {
    works = f.works;
    version = f.version;
    logs = alone_usable files.logs one f.alone f.log_works;
    lines = f.line ∙ sym (ap (λ (v : NodeVersion). v.version.logs) f.known);
    tables = f.tables;
    memtable = none_numbered files.memtable f.memtable_works f.empty (batch_count files);
    numbers = first_numbers;
    free = let same = f.free in omega (arith, same);
    free_few = let same = f.free in let few = f.version.next_file in omega (arith, same, few);
  }

  first_store : EmptyRepresents → StoreRepresents [] (known_store files [])
  first_store empty =
      subst (λ (k : ℕ). StoreRepresents [] (store_of_version (known_version files).version k []))
      (sym first_trimmed)
      (subst (λ (v : NodeVersion). StoreRepresents [] (store_of_version v.version 0 []))
      (sym f.known) empty)

  no_tables : (known_version files).version.tables ≡ []
  no_tables = ap (λ (v : NodeVersion). v.version.tables) f.known

  first_logs : (disk : State) → HoldsPart disk 1 one [] →
      LogsHold disk files.logs (suc (trimmed_count files)) (drop (trimmed_count files) [])
  first_logs disk part =
      subst (λ (k : ℕ). LogsHold disk files.logs (suc k) (drop k [])) (sym first_trimmed)
      (alone_holds files.logs one f.alone disk 1 [] part)

  -- the first files hold the empty list
  pub first_hold : EmptyRepresents → (disk : State) →
      ManifestHolds disk files.manifest (first_version id ids) → HoldsPart disk 1 one [] →
      AreServed disk files.tables [] →
      ((file : ℕ) → 4 ≤ file → IsNone (seen (disk file))) → FilesHold disk files []
  first_hold empty disk manifest part served unused = record {
    known = record {
      usable = first_usable;
      manifest = subst (ManifestHolds disk files.manifest) (sym f.known) manifest;
      logs = first_logs disk part;
      tables = [];
      read = subst (λ (lines : List TableLine). AreTablesOf (contents disk) lines [])
          (sym no_tables)
          tt;
      served = served;
      durable = subst (All (λ (line : TableLine). IsDurable (disk line.file))) (sym no_tables)
          (All-nil (λ (line : TableLine). IsDurable (disk line.file)));
      store = first_store empty;
      entries = λ entry. (
        λ holds. absurd (f.empty entry holds),
        λ among. absurd (none_among entry among.2),
      );
      count = first_count;
      each = All-nil IsBatch;
    };
    unused = λ file above. unused file
        (subst (λ (v : NodeVersion). v.version.next_file ≤ file) f.known
        (subst (λ (n : ℕ). n ≤ file) f.free above));
  }

-- nothing stands in an empty list
none_in : {file : ℕ} → Contains [] file → ⊥
none_in has = absurd (omega (arith, has.1))

-- ---- the files of a disk on which the first files were begun

-- no file has a number from 4 on, where none existed before the first log and the slots
pub rest_is_unused : (begun logged made new : State) → AreAlone [] begun → IsSameBut 3 begun logged
    → SparesOthers logged made → IsSame made new → (file : ℕ) → 4 ≤ file →
    IsNone (seen (new file))
rest_is_unused begun logged made new alone log slots same file above =
    let apart : file ≢ 3 = λ is. absurd (omega (arith, is, above)) in
    let no_slot : IsSlotFile file → ⊥ = λ is. elim is [
      | inl one ↦ absurd (omega (arith, one, above))
      | inr two ↦ absurd (omega (arith, two, above))
    ] in
    let all : new file ≡ begun file = same file ∙ slots file no_slot ∙ log file apart in
    subst (λ (slot : Slot). IsNone (seen slot)) (sym all) (alone file (λ has. none_in has))

-- nor has any other than the slots and the log
pub only_first : (begun logged made new : State) → AreAlone [] begun → IsSameBut 3 begun logged →
    SparesOthers logged made → IsSame made new → AreAlone (1 ∷ 2 ∷ 3 ∷ []) new
only_first begun logged made new alone log slots same file other =
    let apart : file ≢ 3 = λ is. other (2, omega arith, sym is) in
    let no_slot : IsSlotFile file → ⊥ = λ is. elim is [
      | inl one ↦ other (0, omega arith, sym one)
      | inr two ↦ other (1, omega arith, sym two)
    ] in
    let all : new file ≡ begun file = same file ∙ slots file no_slot ∙ log file apart in
    subst (λ (slot : Slot). IsNone (seen slot)) (sym all) (alone file (λ has. none_in has))

-- and the log is as it was
pub log_is_spared : (logged made new : State) → SparesOthers logged made → IsSame made new →
    new 3 ≡ logged 3
log_is_spared logged made new slots same = same 3 ∙ slots 3 (λ is. elim is [
  | inl one ↦ absurd cc
  | inr two ↦ absurd cc
])

-- an absent file ends in range
pub absent_ends : (bytes : Option (List ℕ)) → IsNone bytes → EndsInRange bytes
absent_ends None none = tt
absent_ends (Some it) none = absurd cc

-- a log that was created without a file before it is a closed gate
begun_alone : (bytes : Option (List ℕ)) → IsNone bytes → begun bytes ≡ 0 ∷ []
begun_alone None none = refl
begun_alone (Some it) none = absurd cc

pub first_log : (before new : State) → AreAlone [] before
    → IsDurableAs new 3 (begun (seen (before 3))) → IsDurableAs new 3 (0 ∷ [])
first_log before new alone spelled =
    subst (IsDurableAs new 3)
    (begun_alone (seen (before 3)) (alone 3 (λ has. none_in has))) spelled

pub no_file_ends : (disk : State) (file : ℕ) → AreAlone [] disk → EndsInRange (seen (disk file))
no_file_ends disk file alone = absent_ends (seen (disk file)) (alone file (λ has. none_in has))

-- nor is there a slot before the manifest's
pub no_slot_yet : (begun logged : State) (slot : ℕ) → IsSameBut 3 begun logged → AreAlone [] begun →
    slot ≢ 3 → IsNone (seen (logged slot))
no_slot_yet begun logged slot same alone apart =
    subst (λ (it : Slot). IsNone (seen it)) (sym (same slot apart))
    (alone slot (λ has. none_in has))
