-- Calls of an engine that do nothing, and calls that only read.
use Rattle.std.proofs.Common.{◌≡◌, ◌∙◌, List, Result, Ok, Err, ap, inl, inr, refl, subst, sym}
use Rattle.std.specs.Prelude.{◌↔◌, IsErrAnd, IsErrOf, MatchResult, is_err}
use Rattle.kv_types.specs.{BatchContent}
use Rattle.disk.specs.declared.Disk.{Ghosts}
use Rattle.disk.specs.{IsSame, KeepsDisk, State}
use Rattle.disk.specs.MomentsLemmas.{none_yet, weaker}
use Rattle.disk.specs.StillLemmas.{still}
use Rattle.batch_logs.specs.Reads.{OnlyReads}
use Rattle.store_tables.specs.declared.error.EngineError.{EngineError}
use Rattle.store_tables.specs.declared.error.EngineError.TheVariants as error
use Rattle.store_tables.specs.Errors.{IsEnd}
use Rattle.disk.specs.KeepingLemmas.{kept_as, neither, same_files, unchanged}
use Rattle.store_files.specs.Files.{Facts, IsOwned}
use Rattle.store_files.specs.HeldFiles.{HeldFilesAreLeft}
use Rattle.store_files.specs.StoreFiles.{FilesRepresent, IsOneOf, WereOneOf}
use Rattle.table_files.specs.{inner_disk}
use Rattle.table_files.specs.declared.cached_disk.CachedDisk.{CachedDisk}
use Rattle.engine.specs.declared.engine.Engine.{Engine}
use Rattle.engine.specs.Calls.{ChangesList, ChangesSnapshots, KeepsEngine, ListFollows, ReadsEngine}
use Rattle.engine.specs.Calls.{tended_of}
use Rattle.engine.specs.Engines.{HasEnded, LookUps, engine_disk, facts_of, look_ups}
use Rattle.engine.specs.LentFiles.{files_ghosts}
use Rattle.engine.specs.Tends.{TendedStore}
use Rattle.engine.specs.UnderWay.{MergesOfEngineLast}
use Rattle.engine.proofs.Engines.{goes_on, kept_inside, none_since}
use Rattle.engine.proofs.Results.{closed_by, ends_by, no_refusal, off_of, works_on_ok}

-- ---- calls that do nothing

-- it is `Failed` where its call is
pub failed_as : {T P : Type 0} {e : EngineError} → (IsErrOf {T = T} (Err e) error.Failed ↔ P) →
    (e ≡ error.Failed) ↔ P
failed_as closed = (λ is. closed.0 (ap (λ s. Err s) is), λ p. let is = closed.1 p in cc)

module _ {D T : Type 0} (g : Ghosts D) (it : Engine D g) (e : EngineError)
    (result : Result T EngineError) (told : IsErrAnd result (λ s. s ≡ e)) where
  -- a refusal that ends no engine is of one that has ended, or of one that works
  pub none_keeps : {cause : Type 0} {IsKept : State → State → Type 0} → (IsEnd e → ⊥) →
      ((e ≡ error.Failed) ↔ HasEnded it) → ((s : State) → IsKept s s) →
      KeepsEngine g it it result cause IsKept
  none_keeps {cause = cause} {IsKept = IsKept} lives failed same = each result told
    where
      each : (r : Result T EngineError) → IsErrAnd r (λ s. s ≡ e) →
          KeepsEngine g it it r cause IsKept
      each (Ok x) is = absurd is
      each (Err s) is = record {
        disk = kept_as g (neither (λ f. f) (λ fails.
            let disk : s ≡ error.Disk = cc in lives (subst IsEnd (sym disk ∙ is) tt)))
            (λ p q kept. kept) (unchanged g same);
        closed = (
          λ fails. let failure : s ≡ error.Failed = cc in failed.0 (sym is ∙ failure),
          λ h. let failure = is ∙ failed.1 h in cc,
        );
        ends = (
          λ h. inl h,
          λ one. elim one [
            | inl h ↦ h
            | inr end ↦ absurd (lives (subst IsEnd is end))
          ],
        );
        refusal = λ _. refl;
      }

  -- a refusal leaves each list
  pub follows_none : (old new : Engine D g) (list more : List BatchContent) →
      ListFollows g old new list more result
  follows_none old new list more = each result told
    where
      each : (r : Result T EngineError) → IsErrAnd r (λ s. s ≡ e) →
          ListFollows g old new list more r
      each (Ok x) is = absurd is
      each (Err s) is = record { reads = λ _. tt; holds = λ _. tt; meant = λ _. tt }

  -- a read that is refused so
  pub reads_none : KeepsEngine g it it result ⊥ IsSame → ReadsEngine g it it result
  reads_none keeps = record {
    keeps = keeps;
    told = refl;
    work = refl;
    kept = λ list. follows_none it it list list;
    still = λ honest. still _ _;
  }

  -- a call that writes
  pub changes_none : HeldFilesAreLeft → {cause : Type 0} {IsKept : State → State → Type 0} →
      KeepsEngine g it it result cause IsKept → (facts : Facts)
      (after : List BatchContent → List BatchContent) →
      ChangesList g it it result cause IsKept facts after
  changes_none laws keeps facts after =
      let disk = g.state (engine_disk it) in
      let past = g.past (engine_disk it) in
      record {
        keeps = keeps;
        list = λ list. follows_none it it list (after list);
        any_moment = λ list h. weaker (FilesRepresent (facts_of it) list)
            (IsOneOf (facts_of it) list facts (after list)) disk past disk past (λ left at. inl at)
            (none_since g laws it list h.reads past);
        meant = λ list m. none_yet (WereOneOf (facts_of it) list facts (after list)) disk past
            (λ left leaves. inl (m.crash left leaves));
      }

-- a call that changes snapshots
pub snapshots_none : {D : Type 0} (g : Ghosts D) (it : Engine D g) (e : EngineError)
    (after : LookUps → LookUps) (result : Result (Unit {0}) EngineError) →
    IsErrAnd result (λ s. s ≡ e) → KeepsEngine g it it result ⊥ IsSame →
    ChangesSnapshots g it it after result
snapshots_none g it e after result told keeps = record {
  keeps = keeps;
  told = each result told;
  work = refl;
  kept = λ list. follows_none g it e result told it it list list;
  disk = refl;
}
  where
    each : (r : Result (Unit {0}) EngineError) → IsErrAnd r (λ s. s ≡ e) →
        MatchResult r (λ _. look_ups it ≡ after (look_ups it)) (λ _. look_ups it ≡ look_ups it)
    each (Ok x) is = absurd is
    each (Err s) is = refl

-- ---- calls that only read

-- what a read keeps of an engine that works, which its refusal ends
pub reads_so : {D T : Type 0} (g : Ghosts D) → HeldFilesAreLeft → MergesOfEngineLast g →
    (old new : Engine D g) (result : Result T EngineError) → (HasEnded old → ⊥) →
    OnlyReads (files_ghosts g) old.files new.files IsSame result →
    tended_of new ≡ tended_of old → look_ups new ≡ look_ups old →
    new.has_ended ≡ is_err result → ReadsEngine g old new result
reads_so {D = D} g laws lasts old new result works reads work told ended =
    let off = off_of old.has_ended works in
    record {
      keeps = record {
        disk = kept_inside g old.files new.files reads.kept;
        closed = closed_by result old.has_ended off reads.causes;
        ends = ends_by result old.has_ended new.has_ended off ended reads.causes;
        refusal = λ other. absurd (no_refusal result reads.causes other);
      };
      told = told;
      work = work;
      kept = λ list. goes_on g laws lasts old new list result (record {
        store = ap (λ (it : TendedStore D). it.store) work;
        merge = ap (λ (it : TendedStore D). it.merge) work;
        honest = reads.kept.honest.1;
        same = reads.kept.files;
      }) (works_on_ok result new.has_ended ended);
      still = reads.still;
    }

-- ---- calls that change no file

-- what a call keeps of an engine that works, whose disk stays
pub keeps_on : {D T : Type 0} (g : Ghosts D) (old new : Engine D g) (answer : T) {cause : Type 0} →
    engine_disk new ≡ engine_disk old → (HasEnded old → ⊥) → (HasEnded new → ⊥) →
    KeepsEngine g old new (Ok answer) cause IsSame
keeps_on g old new answer {cause = cause} same works on = record {
  disk = subst (λ d. KeepsDisk g (engine_disk old) d (IsErrOf (Ok answer) error.Disk) cause IsSame)
      (sym same) (kept_as g (neither (λ f. f) (λ fails. cc)) (λ p q kept. kept)
      (unchanged g same_files));
  closed = (λ failed. absurd cc, λ h. absurd (works h));
  ends = (
    λ h. absurd (on h),
    λ one. elim one [
      | inl h ↦ absurd (works h)
      | inr none ↦ absurd none
    ],
  );
  refusal = λ told. absurd told;
}

-- ---- calls that are given a disk

-- what such a call keeps of the disk, by what it keeps of the files over it
pub owned_keeps : {D : Type 0} (g : Ghosts D) (disk after : D) (a b : CachedDisk D g)
    {first told : Type 0} → inner_disk a ≡ disk → after ≡ inner_disk b → (first ↔ told) →
    KeepsDisk (files_ghosts g) a b first ⊥ IsOwned → KeepsDisk g disk after told ⊥ IsOwned
owned_keeps g disk after a b {told = told} from to same kept =
    subst (λ d. KeepsDisk g d after told ⊥ IsOwned) from
    (subst (λ d. KeepsDisk g (inner_disk a) d told ⊥ IsOwned) (sym to)
    (kept_as g same (λ p q own. own) (kept_inside g a b kept)))
