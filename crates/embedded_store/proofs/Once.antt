-- A write of a batch that the list may have already, by the calls of its store.
use Rattle.std.proofs.Common.{◌≡◌, ◌∙◌, List, ap, inl, inr, refl, subst, sym, ℕ}
use Rattle.std.specs.Prelude.{◌↔◌, ◌⊎◌, Result, Ok, Err, IfErr, IsErrAnd, MatchResult, OnOk}
use Rattle.kv_types.specs.{BatchContent}
use Rattle.disk.specs.{AlwaysLeaves, Contents, IsCrashOutcome, IsSame, IsSameBut, IsStill}
use Rattle.disk.specs.{KeepsDisk, MakesCalls, OnlyLeaves}
use Rattle.disk.specs.declared.Disk.{Ghosts}
use Rattle.disk.specs.KeepingLemmas.{kept_as, kept_behind, kept_but, same_files, unchanged}
use Rattle.disk.specs.MomentsLemmas.{join, weaker}
use Rattle.disk.specs.StillLemmas.{still}
use Rattle.engine.specs.EngineError.{EngineError}
use Rattle.engine.specs.EngineError.TheVariants as engine
use Rattle.engine.specs.declared.Engine.{Engine}
use Rattle.engine.specs.{EngineHolds, EngineWasMeant, Facts, HasEnded, HasNearlyFullLog}
use Rattle.engine.specs.{IsAppendRefusal, IsEnd, IsEndOrAfter, IsOneOf}
use Rattle.engine.specs.{KeepsEngine, LookUps, ReadsEngine, TendedStore, WereOneOf, facts_of}
use Rattle.engine.specs.{look_ups, newest_log_file, tended_of}
use Rattle.embedded_store.specs.declared.error.OnceError.{OnceError}
use Rattle.embedded_store.specs.declared.error.OnceError.TheVariants.{Store}
use Rattle.embedded_store.specs.declared.store.EmbeddedStore.{EmbeddedStore}
use Rattle.embedded_store.specs.Once.{CountsOnce, IsOnceRefusal, Recency, WritesOnce, ending}
use Rattle.embedded_store.specs.Once.{list_behind, recency, with_new, with_once}
use Rattle.embedded_store.specs.Once.Recency.{New}
use Rattle.embedded_store.specs.Stores.{HoldsBatches, ShowsBatches, StoreWasMeant, WritesAtMost}
use Rattle.embedded_store.specs.Stores.{WritesBatch, store_disk, store_engine, with_one_written}
use Rattle.embedded_store.proofs.Endings.{as_once, ending_end, keeps_err, keeps_full, keeps_ok}

-- ---- moments

module _ {D : Type 0} (g : Ghosts D) (P : Contents → Type 0) where
  -- where a disk is still, a crash leaves what it might have left before
  still_leaves : (old new : D) → IsStill g old new → g.is_honest old → OnlyLeaves P (g.state old) →
      AlwaysLeaves g old new P
  still_leaves old new leaves honest only =
      weaker (IsCrashOutcome (g.state old)) P (g.state old) (g.past old) (g.state new)
      (g.past new) (λ left at. only left at) (leaves honest)

  -- what calls behind that leave, both leave
  leaves_behind : (old mid new : D) → IsStill g old mid → g.is_honest old →
      OnlyLeaves P (g.state old) → AlwaysLeaves g mid new P → AlwaysLeaves g old new P
  leaves_behind old mid new leaves honest only later =
      join P (g.state old) (g.state mid) (g.state new) (g.past old) (g.past mid) (g.past new)
      (still_leaves old mid leaves honest only) later

-- ---- a read alone

-- a read that leaves the list as it was writes nothing
pub reads_once : {D : Type 0} (g : Ghosts D) (old new : EmbeddedStore D g) (batch : BatchContent)
    (result : Result ℕ OnceError) →
    ReadsEngine g (store_engine old) (store_engine new) (ending result) →
    ((list : List BatchContent) → ShowsBatches g old list →
    list_behind result batch list ≡ list) → WritesOnce g old new batch result
reads_once {D = D} g old new batch result reads stays =
    let facts = facts_of (store_engine old) in
    record {
      keeps = record {
        disk = kept_as g (λ fails. fails, λ fails. fails) (λ a b same other apart. same other)
            (kept_but g (λ none. absurd none) reads.keeps.disk);
        closed = reads.keeps.closed;
        ends = reads.keeps.ends;
        refusal = reads.keeps.refusal;
      };
      merging = record {
        merge = ap (λ (it : TendedStore D). it.merge) reads.work;
        turn = ap (λ (it : TendedStore D). it.turn) reads.work;
      };
      list = λ list holds. subst (λ l. OnOk (ending result) (HoldsBatches g new l))
          (sym (stays list (inl holds))) ((reads.kept list).holds holds);
      any_moment = λ list holds. still_leaves g (IsOneOf facts list facts (with_once batch list))
          (store_disk old) (store_disk new) reads.still holds.reads.honest
          (λ left at. inl (holds.crash left at));
      meant = λ list was. subst (λ l. OnOk (ending result) (StoreWasMeant g new l))
          (sym (stays list (inr was))) ((reads.kept list).meant was);
      meant_at_any_moment = λ list was. still_leaves g
          (WereOneOf facts list facts (with_once batch list)) (store_disk old) (store_disk new)
          reads.still was.honest (λ left at. inl (was.crash left at));
    }

-- ---- a write behind it

-- behind a read that was answered, or behind none, a store is as it was
pub record IsAsBefore {D : Type 0} (g : Ghosts D) (old mid : EmbeddedStore D g) : Type 0 where
  pub disk : KeepsDisk g (store_disk old) (store_disk mid) ⊥ ⊥ IsSame
  pub ended : HasEnded (store_engine mid) ↔ HasEnded (store_engine old)
  pub same : HasEnded (store_engine old) → store_engine mid ≡ store_engine old
  pub told : look_ups (store_engine mid) ≡ look_ups (store_engine old)
  pub work : tended_of (store_engine mid) ≡ tended_of (store_engine old)
  pub holds : (list : List BatchContent) → HoldsBatches g old list → HoldsBatches g mid list
  pub meant : (list : List BatchContent) → StoreWasMeant g old list → StoreWasMeant g mid list
  pub still : IsStill g (store_disk old) (store_disk mid)

module _ {D : Type 0} (g : Ghosts D) where
  -- behind none
  pub as_before : (store : EmbeddedStore D g) → IsAsBefore g store store
  as_before store = record {
    disk = unchanged g same_files;
    ended = (λ ended. ended, λ ended. ended);
    same = λ ended. refl;
    told = refl;
    work = refl;
    holds = λ list holds. holds;
    meant = λ list was. was;
    still = λ honest. still (g.state (store_disk store)) (g.past (store_disk store));
  }

  -- behind a read
  pub as_read : {T : Type 0} {x : T} (old mid : EmbeddedStore D g) →
      ReadsEngine g (store_engine old) (store_engine mid) (Ok x) → IsAsBefore g old mid
  as_read old mid reads = record {
    disk = kept_as g (λ fails. cc, λ fails. absurd fails) (λ a b same. same) reads.keeps.disk;
    ended = (
      λ ended. before (reads.keeps.ends.0 ended),
      λ ended. reads.keeps.ends.1 (inl ended),
    );
    same = λ ended. let fails = reads.keeps.closed.1 ended in cc;
    told = reads.told;
    work = reads.work;
    holds = λ list holds. (reads.kept list).holds holds;
    meant = λ list was. (reads.kept list).meant was;
    still = reads.still;
  }
    where
      before : {P : Type 0} → P ⊎ ⊥ → P
      before (inl ended) = ended
      before (inr now) = absurd now

-- what is so in one of two ways, where one of them is so in another
ended_as : {P Q R : Type 0} → (P → Q) → P ⊎ R → Q ⊎ R
ended_as so (inl before) = inl (so before)
ended_as so (inr now) = inr now

module _ {D : Type 0} (g : Ghosts D) (old mid new : EmbeddedStore D g) where
  -- what is kept behind it was kept all along
  keeps_behind : {T : Type 0} {answer : Result T EngineError} → IsAsBefore g old mid →
      (IsErrAnd answer (λ e. IsEnd e → ⊥) → store_engine new ≡ store_engine old) →
      KeepsEngine g (store_engine mid) (store_engine new) answer
      (HasNearlyFullLog (store_engine mid)) (IsSameBut (newest_log_file (store_engine mid))) →
      KeepsEngine g (store_engine old) (store_engine new) answer
      (HasNearlyFullLog (store_engine old)) (IsSameBut (newest_log_file (store_engine old)))
  keeps_behind before refused keeps =
      let store = ap (λ (it : TendedStore D). it.store) before.work in
      let newest : newest_log_file (store_engine mid) ≡ newest_log_file (store_engine old) = cc in
      record {
        disk = kept_behind g (λ a b c first second other apart. second other
            (subst (λ n. other ≡ n → ⊥) (sym newest) apart) ∙ first other)
            before.disk (λ none. none) (kept_but g (λ full. rw (store) at full) keeps.disk);
        closed = (
          λ fails. before.ended.0 (keeps.closed.0 fails),
          λ ended. keeps.closed.1 (before.ended.1 ended),
        );
        ends = (
          λ ended. ended_as before.ended.0 (keeps.ends.0 ended),
          λ ended. keeps.ends.1 (ended_as before.ended.1 ended),
        );
        refusal = refused;
      }

module _ {D : Type 0} (g : Ghosts D) (old mid new : EmbeddedStore D g) (batch : BatchContent)
    (before : IsAsBefore g old mid)
    (is_new : (list : List BatchContent) → ShowsBatches g old list → recency batch list ≡ New) where
  -- what a write behind it makes of the list
  writes_behind : (wrote : Result ℕ EngineError) → WritesBatch g mid new batch wrote →
      (answer : Result (Unit {0}) EngineError) (behind : List BatchContent → List BatchContent) →
      KeepsEngine g (store_engine old) (store_engine new) answer
      (HasNearlyFullLog (store_engine old)) (IsSameBut (newest_log_file (store_engine old))) →
      ((list : List BatchContent) → HoldsBatches g old list →
      OnOk answer (HoldsBatches g new (behind list))) →
      ((list : List BatchContent) → StoreWasMeant g old list →
      OnOk answer (StoreWasMeant g new (behind list))) →
      WritesAtMost g old new answer behind (with_once batch)
  writes_behind wrote writes answer behind keeps holds was =
      let facts = facts_of (store_engine old) in
      let known = ap (λ (l : LookUps). l.facts) before.told in
      record {
        keeps = keeps;
        merging = record {
          merge = writes.merging.merge ∙ ap (λ (it : TendedStore D). it.merge) before.work;
          turn = writes.merging.turn ∙ ap (λ (it : TendedStore D). it.turn) before.work;
        };
        list = holds;
        any_moment = λ list held. leaves_behind g (IsOneOf facts list facts (with_once batch list))
            (store_disk old) (store_disk mid) (store_disk new) before.still held.reads.honest
            (λ left at. inl (held.crash left at)) (subst (λ (f : Facts). AlwaysLeaves g
            (store_disk mid) (store_disk new) (IsOneOf f list f (with_once batch list))) known
            (subst (λ (r : Recency). AlwaysLeaves g (store_disk mid) (store_disk new)
            (IsOneOf (facts_of (store_engine mid)) list (facts_of (store_engine mid))
            (with_new r batch list))) (sym (is_new list (inl held)))
            (writes.any_moment list (before.holds list held))));
        meant = was;
        meant_at_any_moment = λ list held. leaves_behind g
            (WereOneOf facts list facts (with_once batch list)) (store_disk old) (store_disk mid)
            (store_disk new) before.still held.honest (λ left at. inl (held.crash left at))
            (subst (λ (f : Facts). AlwaysLeaves g (store_disk mid) (store_disk new)
            (WereOneOf f list f (with_once batch list))) known
            (subst (λ (r : Recency). AlwaysLeaves g (store_disk mid) (store_disk new)
            (WereOneOf (facts_of (store_engine mid)) list (facts_of (store_engine mid))
            (with_new r batch list))) (sym (is_new list (inr held)))
            (writes.meant_at_any_moment list (before.meant list held))));
      }

  -- a write behind it that ended the store, or found it ended
  end_behind : (e : EngineError) → WritesBatch {T = ℕ} g mid new batch (Err e) → IsEndOrAfter e →
      WritesOnce g old new batch (Err (Store e))
  end_behind e writes end =
      subst (λ (r : Result (Unit {0}) EngineError). WritesAtMost g old new r
      (list_behind (Err (Store e)) batch) (with_once batch)) (sym (ending_end ℕ e end))
      (writes_behind (Err e) writes (Err e) (list_behind (Err (Store e)) batch)
      (keeps_behind g old mid new before (stays end) (keeps_err e writes.keeps)) (λ list held. tt)
      (λ list held. tt))
    where
      stays : IsEndOrAfter e → (IsEnd e → ⊥) → store_engine new ≡ store_engine old
      stays (inl now) works = absurd (works now)
      stays (inr failed) works =
          writes.keeps.refusal works
          ∙ before.same (before.ended.0 (writes.keeps.closed.0 (ap (λ e. Err e) failed)))

  -- whatever a write behind it answers
  pub written : (wrote : Result ℕ EngineError) (count : ℕ) → WritesBatch g mid new batch wrote →
      IfErr wrote (IsAppendRefusal count) → WritesOnce g old new batch (as_once wrote)
  written (Ok n) count writes causes =
      writes_behind (Ok n) writes (Ok tt) (list_behind (Ok n) batch)
      (keeps_behind g old mid new before (λ none. absurd none) (keeps_ok writes.keeps))
      (λ list held. subst (λ (r : Recency). HoldsBatches g new (with_new r batch list))
      (sym (is_new list (inl held))) (writes.list list (before.holds list held)))
      (λ list held. subst (λ (r : Recency). StoreWasMeant g new (with_new r batch list))
      (sym (is_new list (inr held))) (writes.meant list (before.meant list held)))
  written (Err e) count writes (inl end) = end_behind e writes end
  written (Err e) count writes (inr none) =
      let full : WritesBatch {T = ℕ} g mid new batch (Err engine.Exhausted) =
      subst (λ (e : EngineError). WritesBatch {T = ℕ} g mid new batch (Err e)) none.0 writes in
      let stays : store_engine new ≡ store_engine mid = full.keeps.refusal (λ end. end) in
      subst (λ (e : EngineError). WritesOnce g old new batch (Err (Store e))) (sym none.0)
      (writes_behind (Err engine.Exhausted) full (Ok tt)
      (list_behind (Err (Store engine.Exhausted)) batch)
      (keeps_behind g old mid new before (λ none. absurd none) (keeps_full full.keeps))
      (λ list held. subst (λ (it : Engine D g). EngineHolds g it list) (sym stays)
      (before.holds list held)) (λ list held. subst (λ (it : Engine D g). EngineWasMeant g it list)
      (sym stays) (before.meant list held)))

-- ---- what the write behind it answers

-- the store tells one batch more, or what it told
pub counts_once : (old mid new : LookUps) (wrote : Result ℕ EngineError) → mid ≡ old →
    MatchResult wrote (λ n. (n ≡ new.count) × (new ≡ with_one_written mid)) (λ _. new ≡ mid) →
    CountsOnce old new (as_once wrote)
counts_once old mid new (Ok n) same told = inl (told.1 ∙ ap with_one_written same, told.0)
counts_once old mid new (Err e) same told = told ∙ same

-- of any disk, it is refused as the write
pub causes_once : (count : ℕ) (wrote : Result ℕ EngineError) → IfErr wrote (IsAppendRefusal count) →
    IfErr (as_once wrote) (IsOnceRefusal count)
causes_once count (Ok n) why = tt
causes_once count (Err e) why = why

-- the disk is called as often
pub calls_once : {D : Type 0} (g : Ghosts D) (old new : D) (wrote : Result ℕ EngineError) →
    MakesCalls g 4 old new wrote → MakesCalls g 4 old new (as_once wrote)
calls_once g old new (Ok n) calls = calls
calls_once g old new (Err e) calls = calls
