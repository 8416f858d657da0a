use Rattle.std.proofs.Common.{◌≡◌, ◌∙◌, List, Option, Result, Ok, Err, Some, ap, inl, inr, refl}
use Rattle.std.proofs.Common.{subst, sym, ℕ}
use Rattle.std.proofs.lemmas.Result.{err_from_is_err_and}
use Rattle.std.specs.Prelude.{IfErr, IfSome, IsErrOf, IsSomeAnd}
use Rattle.kv_types.specs.{BatchContent, mark_of}
use Rattle.kv_types.specs.declared.mark.Mark.{Mark}
use Rattle.disk.specs.{IsEnvironmental, MakesCalls}
use Rattle.engine.specs.EngineError.TheVariants.{Damaged, Disk, Memory}
use Rattle.engine.specs.{IsAppendRefusal, LookUps, ReadsEngine, look_ups}
use Rattle.embedded_store.specs.declared.error.OnceError.{OnceError}
use Rattle.embedded_store.specs.declared.store.EmbeddedStore.{EmbeddedStore}
use Rattle.embedded_store.specs.Once.{AnswersOnce, CountsOnce, IsOnceRefusal, LacksLastMark}
use Rattle.embedded_store.specs.Once.{MakesCallsFor, MemoryHasMark, Recency, WritesOnce, ending}
use Rattle.embedded_store.specs.Once.{recency, recency_by}
use Rattle.embedded_store.specs.Once.Recency.{Last, New}
use Rattle.embedded_store.specs.Stores.{ShowsBatches, store_disk, store_engine}
use Rattle.embedded_store.proofs.Endings.{as_once, once_is, refused_once, unharmed}
use Rattle.embedded_store.proofs.Once.{IsAsBefore, as_before, as_read, calls_once, causes_once}
use Rattle.embedded_store.proofs.Once.{counts_once, reads_once, written}
use Rattle.embedded_store.proofs.Recency.{answers_last, answers_new, answers_refused, none_found}
use Rattle.embedded_store.proofs.Recency.{some_found, stays_same}
use Rattle.embedded_store.proofs.StoreReads.{shown_count}
use Rattle.embedded_store.proofs.store.EmbeddedStore.write_once.Goals as goal
use Rattle.embedded_store.proofs.store.EmbeddedStore.write_once.Goals.{in_default}
use Rattle.embedded_store.proofs.store.EmbeddedStore.write_once.Goals.{
  in-Some+in_ok-number+in_default-2,
}

-- ---- a look that is refused

-- its refusal is passed on
passed_on : (g : _) (c : goal.After-from_residual g) →
    c.from_residual.result ≡ Err c.in_err-number.field-0.0
passed_on g c =
    let p = err_from_is_err_and c.from_residual.result c.from_residual.ensures.1 in
    p.1 ∙ ap (λ d. Err d) p.2

pub returns-in_err-number-clause-changes : goal.returns-in_err-number-clause-changes
returns-in_err-number-clause-changes g c =
    let batch = c.args.batch.now in
    subst (λ (r : Result ℕ OnceError). WritesOnce g.D.Disk c.args.self.now c.number_held.new.self
    batch r) (sym (passed_on g c))
    (reads_once g.D.Disk c.args.self.now c.number_held.new.self batch
    (Err c.in_err-number.field-0.0) c.in_err-number.ensures.reads (λ list shown. refl))

-- nothing is written
pub returns-in_err-number-clause-answers : goal.returns-in_err-number-clause-answers
returns-in_err-number-clause-answers g c = λ list shown.
    let batch = c.args.batch.now in (
      subst (λ (r : Result ℕ OnceError). AnswersOnce batch list r) (sym (passed_on g c))
          (answers_refused batch list c.in-Some.mark c.in_err-number.field-0.0
          (sym c.mark.ensures.mark ∙ c.in-Some.is) (c.in_err-number.ensures.found list shown)
          c.in_err-number.ensures.told),
      λ known. subst (λ (r : Result ℕ OnceError). ReadsEngine g.D.Disk
          (store_engine c.args.self.now) (store_engine c.number_held.new.self) (ending r))
          (sym (passed_on g c)) c.in_err-number.ensures.reads,
    )

pub returns-in_err-number-clause-damaged : goal.returns-in_err-number-clause-damaged
returns-in_err-number-clause-damaged g c = λ list shown damaged.
    subst (λ (o : Option Mark). IsSomeAnd o (LacksLastMark g.D.Disk c.args.self.now))
    (sym c.in-Some.is ∙ c.mark.ensures.mark)
    (c.in_err-number.ensures.damaged list shown
    (subst (λ (r : Result ℕ OnceError). IsErrOf (ending r) Damaged) (passed_on g c) damaged))

-- ---- a mark that is held

-- the batch is the last of its client
is_last : (g : _) (c : goal.In-Some-2 g) (list : List BatchContent) →
    ShowsBatches g.D.Disk c.args.self.now list →
    recency_by (Some c.in-Some.mark) list ≡ Last c.in-Some-2.number
is_last g c list shown =
    some_found c.in_ok-number.field-0 (recency_by (Some c.in-Some.mark) list) c.in-Some-2.number
    c.in-Some-2.is (c.in_ok-number.ensures.found list shown)

pub returns-in-Some-2-clause-changes : goal.returns-in-Some-2-clause-changes
returns-in-Some-2-clause-changes g c =
    reads_once g.D.Disk c.args.self.now c.number_held.new.self c.args.batch.now
    (Ok c.in-Some-2.number) c.in_ok-number.ensures.reads
    (λ list shown. stays_same c.args.batch.now list c.in-Some.mark c.in-Some-2.number
    (sym c.mark.ensures.mark ∙ c.in-Some.is) (is_last g c list shown))

pub returns-in-Some-2-clause-answers : goal.returns-in-Some-2-clause-answers
returns-in-Some-2-clause-answers g c = λ list shown. (
  answers_last c.args.batch.now list c.in-Some.mark c.in-Some-2.number
      (sym c.mark.ensures.mark ∙ c.in-Some.is) (is_last g c list shown),
  λ known. c.in_ok-number.ensures.reads,
)

-- ---- a write

-- behind the look, or without one, the store is as it was
looked : (g : _) (c : goal.After-map_err g) →
    IsAsBefore g.D.Disk c.args.self.now c.match-mark.self
looked g c = elim c.match-mark.branch [
  | in-Some+in_ok-number+in_default-2 w ↦
      subst (λ (s : EmbeddedStore _ _). IsAsBefore g.D.Disk c.args.self.now s) (sym w.self-is)
      (as_read g.D.Disk c.args.self.now w.number_held.new.self w.in_ok-number.ensures.reads)
  | in_default w ↦
      subst (λ (s : EmbeddedStore _ _). IsAsBefore g.D.Disk c.args.self.now s) (sym w.self-is)
      (as_before g.D.Disk c.args.self.now)
]

-- it shows what it did
shown_then : (g : _) (c : goal.After-map_err g) (list : List BatchContent) →
    ShowsBatches g.D.Disk c.args.self.now list → ShowsBatches g.D.Disk c.match-mark.self list
shown_then g c list (inl holds) = inl ((looked g c).holds list holds)
shown_then g c list (inr was) = inr ((looked g c).meant list was)

-- the batch is new there
is_new : (g : _) (c : goal.After-map_err g) (list : List BatchContent) →
    ShowsBatches g.D.Disk c.args.self.now list → recency c.args.batch.now list ≡ New
is_new g c list shown = elim c.match-mark.branch [
  | in-Some+in_ok-number+in_default-2 w ↦
      ap (λ (o : Option Mark). recency_by o list) (sym c.mark.ensures.mark ∙ w.in-Some.is)
      ∙ none_found w.in_ok-number.field-0 (recency_by (Some w.in-Some.mark) list)
      w.in_default-2.is (w.in_ok-number.ensures.found list shown)
  | in_default w ↦
      ap (λ (o : Option Mark). recency_by o list) (sym c.mark.ensures.mark ∙ w.in_default.is)
]

-- where memory has a mark of its client, the look made no call
unread : (g : _) (c : goal.After-map_err g) (list : List BatchContent) →
    ShowsBatches g.D.Disk c.args.self.now list →
    IfSome (mark_of c.args.batch.now) (MemoryHasMark g.D.Disk c.args.self.now list) →
    store_disk c.match-mark.self ≡ store_disk c.args.self.now
unread g c list shown has = elim c.match-mark.branch [
  | in-Some+in_ok-number+in_default-2 w ↦
      ap (λ (s : EmbeddedStore _ _). store_disk s) w.self-is
      ∙ (w.in_ok-number.ensures.memory list shown (subst (λ (o : Option Mark). IfSome o
      (MemoryHasMark g.D.Disk c.args.self.now list))
      (sym c.mark.ensures.mark ∙ w.in-Some.is) has)).same
  | in_default w ↦ ap (λ (s : EmbeddedStore _ _). store_disk s) w.self-is
]

-- the answer is the write's
answer_is : (g : _) (c : goal.After-map_err g) → c.map_err.result ≡ as_once c.write.result
answer_is g c = once_is c.write.result c.map_err.result c.map_err.ensures.cases

pub returns-clause-changes : goal.returns-clause-changes
returns-clause-changes g c =
    subst (λ (r : Result ℕ OnceError). WritesOnce g.D.Disk c.args.self.now c.write.new.self
    c.args.batch.now r) (sym (answer_is g c))
    (written g.D.Disk c.args.self.now c.match-mark.self c.write.new.self c.args.batch.now
    (looked g c) (is_new g c) c.write.result _ c.write.ensures.changes c.write.ensures.causes)

pub returns-clause-told : goal.returns-clause-told
returns-clause-told g c =
    let old = look_ups (store_engine c.args.self.now) in
    let new = look_ups (store_engine c.write.new.self) in
    subst (λ (r : Result ℕ OnceError). CountsOnce old new r) (sym (answer_is g c))
    (counts_once old (look_ups (store_engine c.match-mark.self)) new c.write.result
    (looked g c).told c.write.ensures.told)

pub returns-clause-answers : goal.returns-clause-answers
returns-clause-answers g c = λ list shown.
    let old = look_ups (store_engine c.args.self.now) in
    let new = look_ups (store_engine c.write.new.self) in (
      subst (λ (r : Result ℕ OnceError). AnswersOnce c.args.batch.now list r)
          (sym (answer_is g c))
          (answers_new c.args.batch.now list old (look_ups (store_engine c.match-mark.self)) new
          c.write.result (is_new g c list shown) (shown_count c.args.self.now list shown)
          (looked g c).told c.write.ensures.told c.write.ensures.causes),
      λ known. absurd (known (is_new g c list shown)),
    )

pub returns-clause-refused : goal.returns-clause-refused
returns-clause-refused g c = λ list holds.
    subst (λ (r : Result ℕ OnceError). IfErr (ending r) (IsEnvironmental Disk Memory))
    (sym (answer_is g c)) (refused_once _ c.write.result
    (c.write.ensures.refused list (shown_then g c list (inl holds))))

pub returns-clause-damaged : goal.returns-clause-damaged
returns-clause-damaged g c = λ list shown damaged.
    absurd (unharmed (ending (as_once c.write.result)) (refused_once _ c.write.result
    (c.write.ensures.refused list (shown_then g c list shown)))
    (subst (λ (r : Result ℕ OnceError). IsErrOf (ending r) Damaged) (answer_is g c) damaged))

pub returns-clause-memory : goal.returns-clause-memory
returns-clause-memory g c = λ list shown has.
    subst (λ (r : Result ℕ OnceError). MakesCallsFor g.D.Disk c.args.self.now
    (recency c.args.batch.now list) c.write.new.self r) (sym (answer_is g c))
    (subst (λ (r : Recency). MakesCallsFor g.D.Disk c.args.self.now r c.write.new.self
    (as_once c.write.result)) (sym (is_new g c list shown))
    (calls_once g.D.Disk (store_disk c.args.self.now) (store_disk c.write.new.self) c.write.result
    (subst (λ d. MakesCalls g.D.Disk 4 d (store_disk c.write.new.self) c.write.result)
    (unread g c list shown has) c.write.ensures.calls)))

pub returns-clause-causes : goal.returns-clause-causes
returns-clause-causes g c =
    let count = (look_ups (store_engine c.args.self.now)).count in
    subst (λ (r : Result ℕ OnceError). IfErr r (IsOnceRefusal count)) (sym (answer_is g c))
    (causes_once count c.write.result
    (subst (λ (l : LookUps). IfErr c.write.result (IsAppendRefusal l.count)) (looked g c).told
    c.write.ensures.causes))
