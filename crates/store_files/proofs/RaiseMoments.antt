-- What a crash leaves while the floor rises, and what the open files hold then.
use Rattle.std.proofs.Common.{◌≡◌, ◌∙◌, ℕ, List, Err, Ok, Result, inl, inr, sym, subst, arith}
use Rattle.std.specs.Prelude.{IfErr, MatchResult, OnOk}
use Rattle.kv_types.specs.{BatchContent}
use Rattle.disk.specs.{Contents, DurableFileIsLeft, IsEnvironmental, IsSameBut, LeavesSince, State}
use Rattle.disk.specs.MomentsLemmas.{none_yet, weaker}
use Rattle.store_model.specs.Claims.{RaisesKeep}
use Rattle.manifest.specs.Changes.{IsBeforeOrAfter}
use Rattle.manifest.specs.{Change, EditsKeepVersions, HeldVersionIsLeft, IsSlotFile}
use Rattle.manifest.specs.{IsVersion, ManifestHolds, ManifestRepresents}
use Rattle.manifest.specs.{NodeVersion, SlotsAreLeft, StoreVersion, counting_file}
use Rattle.store_model.specs.PlacesLemmas.{contains_next}
use Rattle.store_tables.specs.declared.error.EngineError.TheVariants as engine
use Rattle.store_tables.specs.declared.error.EngineError.{EngineError}
use Rattle.store_tables.specs.Errors.{IsEnd}
use Rattle.store_files.specs.declared.store_files.StoreFiles.{StoreFiles}
use Rattle.store_files.specs.OpenFiles.{FilesHold, known_facts}
use Rattle.store_files.specs.OpenFiles.{known_version, trimmed_count}
use Rattle.store_files.specs.Raising.{MayRise, obsolete_files, obsolete_logs, raise_change}
use Rattle.store_files.specs.Raising.{facts_with_floor, raised_files}
use Rattle.store_files.specs.Removing.{AreLeftBeside}
use Rattle.store_files.specs.StoreFiles.{IsOneOf}
use Rattle.store_files.specs.Tending.{IsSameBeside}
use Rattle.store_files.proofs.Appended.{left_now}
use Rattle.store_files.proofs.MeantTends.{named_of}
use Rattle.store_files.proofs.NamedHolds.{NamedHold, log_no_slot, named_in, named_left}
use Rattle.store_files.proofs.NamedHolds.{table_no_slot}
use Rattle.store_files.proofs.RaiseEdits.{gone_no_slot, left_apart, table_apart}
use Rattle.store_files.proofs.Raised.{AreRaised, after, after_is, cut, known, named_after}
use Rattle.store_files.proofs.Raised.{raised_left, slots_after}

-- what changed the counting slot alone changed no other file than a rise of the floor may
pub slot_alone : (files : StoreFiles) (floor : ℕ) (old new : State)
    → IsSameBut (counting_file files.manifest) old new
    → IsSameBeside (raised_files files floor) old new
slot_alone files floor old new same file other = same file (λ is. other (0, omega arith, sym is))

module _ {files : StoreFiles} {floor : ℕ} (may : MayRise files floor) (keeps : RaisesKeep)
    (law : DurableFileIsLeft) (held : HeldVersionIsLeft) (versions : EditsKeepVersions)
    (list : List BatchContent) where
  abbrev version : StoreVersion
  version = (known_version files).version

  abbrev lawful : IsVersion version
  lawful = may.usable.version

  abbrev id : ℕ
  id = (known_version files).id

  -- files of the list with the old facts or with the new ones
  abbrev pub OfEither : Contents → Type 0
  OfEither = IsOneOf (known_facts files) list (facts_with_floor files floor) list

  module _ (s1 : State) (h : FilesHold s1 files list) where
    named : NamedHold s1 version files.logs (trimmed_count files) h.known.tables list
    named = named_of s1 files list h.known

    -- before the first call
    pub none_raised : (past : List State) → LeavesSince s1 past s1 past OfEither
    none_raised past = none_yet OfEither s1 past
        (λ left leaves. inl (left_now s1 files list h law held left leaves))

    -- while the edit is recorded
    pub raise_is_recorded : (edit : Change) → edit ≡ raise_change version floor
        → (past since : List State) (s2 : State) → LeavesSince s1 past s2 since
        (SlotsAreLeft s1 (IsBeforeOrAfter edit (known_version files)))
        → LeavesSince s1 past s2 since OfEither
    raise_is_recorded edit is past since s2 run =
        weaker (SlotsAreLeft s1 (IsBeforeOrAfter edit (known_version files))) OfEither s1 past s2
        since
        (λ left at. elim at.here as (λ _. OfEither left) [
          | inl old ↦ inl (named_left s1 version files.logs (trimmed_count files) h.known.tables
              list named law id left old
              (λ line has. at.others line.file (log_no_slot version lawful line has))
              (λ line has. at.others line.file (table_no_slot version lawful line has)))
          | inr new ↦ inr (raised_left may s1 h.known.tables list named h.known.count keeps law left
              (slots_after may edit is left new)
              (λ line has. at.others line.file (log_no_slot version lawful line has))
              (λ line has. at.others line.file (table_no_slot version lawful line has)))
        ]) run

    -- while the logs that are given up are removed
    pub logs_are_removed : (new : StoreFiles) → AreRaised floor files new → (s2 : State)
        → IsSlotFile (counting_file files.manifest) → IsSameBut (counting_file files.manifest) s1 s2
        → ManifestHolds s2 new.manifest (known_version new) → (past since : List State)
        (s3 : State) → LeavesSince s2 past s3 since (AreLeftBeside (obsolete_files files floor) s2)
        → LeavesSince s2 past s3 since OfEither
    logs_are_removed new r s2 slot same holds past since s3 run =
        let lawful_after = after_is may versions in
        let later = named_in s1 (after may) new.logs (cut may) h.known.tables list
        (named_after may new r s1 h.known.tables list named h.known.count keeps) s2
        (λ line has. same line.file (λ is. log_no_slot (after may) lawful_after line has
        (subst IsSlotFile (sym is) slot)))
        (λ line has. same line.file (λ is. table_no_slot version lawful line has
        (subst IsSlotFile (sym is) slot))) in
        weaker (AreLeftBeside (obsolete_files files floor) s2) OfEither s2 past s3 since
        (λ left at. inr (named_left s2 (after may) new.logs (cut may) h.known.tables list later law
        id left (subst (λ (n : NodeVersion). ManifestRepresents n left) (known may new r)
        (held s2 new.manifest (known_version new) left holds
        (λ one is. at one (λ gone. gone_no_slot version lawful floor one gone is))))
        (λ line has. at line.file (left_apart version lawful floor line has))
        (λ line has. at line.file (table_apart version lawful floor line has)))) run

-- where other files than the slots change, the manifest holds the version that it held
pub slots_stay : (version : StoreVersion) (is : IsVersion version) (floor : ℕ) (mid new : State)
    → IsSameBeside (obsolete_logs floor version.logs) mid new → (slot : ℕ) → IsSlotFile slot
    → new slot ≡ mid slot
slots_stay version is floor mid new same slot one =
    same slot (λ gone. gone_no_slot version is floor slot gone one)

-- of two parts neither changed another file than a rise of the floor may
pub slot_then_logs : (files : StoreFiles) (floor : ℕ) (old mid new : State)
    → IsSameBut (counting_file files.manifest) old mid
    → IsSameBeside (obsolete_files files floor) mid new
    → IsSameBeside (raised_files files floor) old new
slot_then_logs files floor old mid new before after file other =
    after file (λ gone. other (contains_next (counting_file files.manifest)
    (obsolete_files files floor) file gone))
    ∙ slot_alone files floor old mid before file other

-- what was done is so, or a refusal ends the files
pub did_or_ends : {T : Type 0} (result : Result T EngineError) {P : Type 0} → P
    → IfErr result IsEnd → MatchResult result (λ _. P) IsEnd
did_or_ends (Ok x) p ends = p
did_or_ends (Err e) p ends = ends

-- an answer leaves what it is to leave, and a refusal is external as it was
pub held_or_external : {T : Type 0} (result : Result T EngineError) (P : Type 0) {Q : Type 0} → Q
    → MatchResult result (λ _. P)
    (IsEnvironmental engine.Disk engine.Memory) → MatchResult result (λ _. Q)
    (IsEnvironmental engine.Disk engine.Memory)
held_or_external (Ok x) P q told = q
held_or_external (Err e) P q told = told

-- .. and an answer leaves it
pub left_on_ok : {T : Type 0} (result : Result T EngineError) (P : Type 0)
    → MatchResult result (λ _. P) (IsEnvironmental engine.Disk engine.Memory) → OnOk result P
left_on_ok (Ok x) P told = told
left_on_ok (Err e) P told = tt
