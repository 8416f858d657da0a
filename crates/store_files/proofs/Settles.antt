-- Syncs of several files, one behind another.
use Rattle.std.proofs.Common.{◌≡◌, ◌↔◌, ◌⊎◌, ◌<◌, ℕ, ◌+◌, List, [], length, get_or, take}
use Rattle.std.proofs.Common.{Some, None, Option, Result, Ok, Err, ap, inl, inr, refl, subst, sym}
use Rattle.std.proofs.Common.{◌∙◌, arith}
use Rattle.std.specs.Prelude.{IsErrAnd, IsErrOf, IsNone, IsSome, IsSomeAnd}
use Rattle.std.proofs.lemmas.Bool.{cases_eq}
use Rattle.std.proofs.lemmas.List.Elements.{All-more, All-nil, All-weaker}
use Rattle.disk.specs.declared.Disk.{Ghosts}
use Rattle.disk.specs.declared.DiskError.{DiskError}
use Rattle.disk.specs.declared.DiskError.TheVariants as disk
use Rattle.disk.specs.{Absent, Fresh, IsSameBut, IsStill, Kept, KeepsDisk, Passes, Slot, State}
use Rattle.disk.specs.{IsEnvironmental, SyncOutcome, seen, synced}
use Rattle.disk.specs.Calls.{IsRefusalOf}
use Rattle.disk.specs.MomentsLemmas.{sync_narrows}
use Rattle.disk.specs.States.{ChangesSlot}
use Rattle.disk.specs.StillLemmas.{still, still_sync}
use Rattle.manifest.specs.declared.TableLine.{TableLine}
use Rattle.record_log.specs.{IsDurableAs}
use Rattle.store_tables.specs.declared.error.EngineError.TheVariants as engine
use Rattle.store_tables.specs.declared.error.EngineError.{EngineError}
use Rattle.store_tables.specs.Errors.{error_of_disk}
use Rattle.disk.specs.KeepingLemmas.{kept_as, kept_behind, neither, unchanged}
use Rattle.batch_logs.specs.Syncs.{AddsNothing, SlotSettles}
use Rattle.store_files.specs.Settling.{AreSynced}
use Rattle.batch_logs.specs.SyncsLemmas.{settled_seen}

-- what a call did with the files, told in other words
pub files_told : {D : Type 0} (g : Ghosts D) {old new : D} {told cause : Type 0}
    {R Q : State → State → Type 0} → KeepsDisk g old new told cause R →
    (g.is_honest old → Q (g.state old) (g.state new)) → KeepsDisk g old new told cause Q
files_told g kept files = record {
  honest = kept.honest;
  failed = kept.failed;
  count = kept.count;
  only = kept.only;
  reliable = kept.reliable;
  files = files;
  fault = kept.fault;
  spared = kept.spared;
}

-- a failure of the device is told as one of the disk
pub disk_failed : {T U : Type 0} (called : Result T DiskError) (e : DiskError)
    (result : Result U EngineError) → called ≡ Err e →
    IsErrAnd result (λ s. s ≡ error_of_disk e) →
    IsErrOf called disk.Failed ↔ IsErrOf result engine.Disk
disk_failed called e (Ok x) is told = absurd told
disk_failed called disk.Failed (Err s) is told = (λ _. ap (λ d. Err d) told, λ _. is)
disk_failed called disk.NoFile (Err s) is told = (λ f. cc, λ f. cc)
disk_failed called disk.Short (Err s) is told = (λ f. cc, λ f. cc)
disk_failed called disk.Memory (Err s) is told = (λ f. cc, λ f. cc)

-- an answer of the disk reports no failure
pub disk_works : {T : Type 0} {called : Result T DiskError} {x : T} → called ≡ Ok x →
    IsErrOf called disk.Failed → ⊥
disk_works is fails = cc

-- ---- one file

-- a file that settled exists where it existed
pub settled_there : (old new : State) (file : ℕ) → SlotSettles old new file →
    IsSome (seen (old file)) → IsSome (seen (new file))
settled_there old new file (inl same) there =
    subst (λ (slot : Slot). IsSome (seen slot)) (sym same) there
settled_there old new file (inr is) there =
    subst (λ (slot : Slot). IsSome (seen slot)) (sym is.2) refl

-- a slot that a sync has made durable
made_durable : (slot : Slot) → IsSome (seen slot) →
    (bytes : List ℕ) × (seen slot ≡ Some bytes) × (synced slot ≡ Kept bytes bytes [])
made_durable (Absent back) there = absurd cc
made_durable (Fresh bytes back) there = (bytes, refl, refl)
made_durable (Kept bytes kept touches) there = (bytes, refl, refl)

module _ (mid new : State) (file : ℕ) (there : IsSome (seen (mid file)))
    (changes : ChangesSlot mid new file (synced (mid file))) where
  -- the file that is synced
  synced_here : (bytes : List ℕ) × (seen (mid file) ≡ Some bytes) × IsDurableAs new file bytes
  synced_here =
      let it = made_durable (mid file) there in
      (it.0, it.1, changes.here ∙ it.2)

  -- a file that is durable stays so
  stays_durable : (other : ℕ) (bytes : List ℕ) → IsDurableAs mid other bytes →
      IsDurableAs new other bytes
  stays_durable other bytes sure = elim (cases_eq other file) [
    | inl here ↦ subst (λ (f : ℕ). IsDurableAs new f bytes) (sym here)
        (changes.here ∙ ap synced (subst (λ (f : ℕ). IsDurableAs mid f bytes) here sure))
    | inr apart ↦ changes.others other apart ∙ sure
  ]

  -- each file settles
  settles_more : (old : State) → ((other : ℕ) → SlotSettles old mid other) → (other : ℕ) →
      SlotSettles old new other
  settles_more old each other = elim (cases_eq other file) [
    | inl here ↦ subst (λ (f : ℕ). SlotSettles old new f) (sym here)
        (inr (
          synced_here.0,
          settled_seen old mid file synced_here.0 (each file) synced_here.1,
          synced_here.2,
        ))
    | inr apart ↦ subst (λ (slot : Slot). (slot ≡ old other)
        ⊎ ((bytes : List ℕ) × (seen (old other) ≡ Some bytes) × (slot ≡ Kept bytes bytes [])))
        (sym (changes.others other apart)) (each other)
  ]

  -- the file of one line more is synced
  pub synced_more : (old : State) (lines : List TableLine) (i : ℕ) (line : TableLine) →
      line.file ≡ file → i < length lines → line ≡ get_or lines i line →
      AreSynced old mid (take i lines) → AreSynced old new (take (i + 1) lines)
  synced_more old lines i line is lt at before =
      let P : TableLine → Type 0 = λ one. (bytes : List ℕ) × (seen (old one.file) ≡ Some bytes)
      × IsDurableAs new one.file bytes in
      let here : P line = subst (λ (f : ℕ). (bytes : List ℕ) × (seen (old f) ≡ Some bytes)
      × IsDurableAs new f bytes) (sym is) (
        synced_here.0,
        settled_seen old mid file synced_here.0 (before.each file) synced_here.1,
        synced_here.2,
      ) in
      record {
        named = All-more P lines i line lt (All-weaker
            (λ one. (bytes : List ℕ) × (seen (old one.file) ≡ Some bytes)
            × IsDurableAs mid one.file bytes) P
            (λ one it. (it.0, it.1, stays_durable one.file it.0 it.2)) (take i lines) before.named)
            (subst P at here);
        each = settles_more old before.each;
      }

-- none is synced
pub none_synced : (disk : State) → AreSynced disk disk []
none_synced disk = record {
  named = All-nil (λ line. (bytes : List ℕ) × (seen (disk line.file) ≡ Some bytes)
      × IsDurableAs disk line.file bytes);
  each = λ file. inl refl;
}

not_gone : (file : Option (List ℕ)) → IsSome file → IsNone file → ⊥
not_gone None there gone = cc
not_gone (Some bytes) there gone = cc

pub not_shorter : (file : Option (List ℕ)) → IsSomeAnd file (λ bytes. length bytes < 0) → ⊥
not_shorter None short = absurd short
not_shorter (Some bytes) short = omega (arith, short)

-- a refused sync of a file that is there is external
pub there_machine : (e : DiskError) (disk : State) (file : ℕ) → IsSome (seen (disk file)) →
    IsRefusalOf e disk file 0 → IsEnvironmental engine.Disk engine.Memory (error_of_disk e)
there_machine disk.Failed disk file there refusal = inl refl
there_machine disk.NoFile disk file there refusal =
    absurd (not_gone (seen (disk file)) there refusal)
there_machine disk.Short disk file there refusal = absurd (not_shorter (seen (disk file)) refusal)
there_machine disk.Memory disk file there refusal = inr refl

-- ---- several syncs

-- the files of these lines were synced, and no call failed
pub record HaveSynced {D : Type 0} (g : Ghosts D) (old new : D) (lines : List TableLine)
    : Type 0 where
  pub kept : KeepsDisk g old new ⊥ ⊥ AddsNothing
  pub still : IsStill g old new
  pub synced : g.is_honest old → AreSynced (g.state old) (g.state new) lines

pub none_yet : {D : Type 0} (g : Ghosts D) (disk : D) → HaveSynced g disk disk []
none_yet g disk = record {
  kept = unchanged g (λ a file left leaves. leaves);
  still = λ honest. still (g.state disk) (g.past disk);
  synced = λ honest. none_synced (g.state disk);
}

adds_then_adds : (a b c : State) → AddsNothing a b → AddsNothing b c → AddsNothing a c
adds_then_adds a b c before after file left leaves =
    before file left (after file left leaves)

module _ {D : Type 0} (g : Ghosts D) (old mid : D) {lines : List TableLine}
    (before : HaveSynced g old mid lines) where
  -- a sync more, which failed or not
  pub sync_then : {T : Type 0} {new : D} {told : Type 0} (result : Result T DiskError) (file : ℕ) →
      KeepsDisk g mid new told ⊥ (IsSameBut file) →
      (g.is_honest mid → SyncOutcome (g.state mid) file result (g.state new)) →
      KeepsDisk g old new told ⊥ AddsNothing
  sync_then {new = new} result file kept syncs =
      kept_behind g adds_then_adds before.kept (λ fails. fails)
      (files_told g kept (λ honest. sync_narrows result (g.state mid) (g.state new) file
      (syncs honest)))

  pub still_after : {T : Type 0} {new : D} (result : Result T DiskError) (file : ℕ) →
      (g.is_honest mid → SyncOutcome (g.state mid) file result (g.state new)) →
      (g.is_honest mid → Passes (g.past mid) (g.state mid) (g.past new) (g.state new)) →
      IsStill g old new
  still_after result file syncs passes honest =
      let was = before.kept.honest.1 honest in
      still_sync result file (before.still honest) (passes was) (syncs was)

  -- the syncs end, and none failed
  pub sync_all : {told : Type 0} → (told → ⊥) → KeepsDisk g old mid told ⊥ AddsNothing
  sync_all ends = kept_as g (neither (λ fails. fails) ends) (λ a b adds. adds) before.kept
