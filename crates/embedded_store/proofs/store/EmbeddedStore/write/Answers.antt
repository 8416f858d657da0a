use Rattle.std.proofs.Common.{◌++◌, ◌∷◌, [], ap, arith, subst, sym, ℕ, ◌∙◌}
use Rattle.std.proofs.lemmas.Result.{err_from_is_err_and}
use Rattle.disk.specs.{AlwaysLeaves}
use Rattle.engine.specs.{IsOldOrNewSince, LookUps, WereOneOf, facts_of, look_ups}
use Rattle.engine.specs.{with_committed, with_one_more}
use Rattle.embedded_store.specs.Stores.{store_disk, store_engine}
use Rattle.embedded_store.proofs.StoreReads.{write_refused}
use Rattle.embedded_store.proofs.StoreWrites.{kept_on, merge_stays}
use Rattle.embedded_store.proofs.store.EmbeddedStore.write.Goals as goal

-- what the engine says of each list is said of the one that is shown
pub returns-in_err-number-clause-refused : goal.returns-in_err-number-clause-refused
returns-in_err-number-clause-refused g c = λ list shown.
    let cause = write_refused c.args.self.now list c.in_err-number.field-0.0
    c.in_err-number.ensures.met shown in
    let p = err_from_is_err_and c.from_residual.result c.from_residual.ensures.1 in
    rw (p.1, p.2) cause

-- no fewer batches are committed, and no more than there are
pub set_committed-requires : goal.set_committed-requires
set_committed-requires g c =
    let all = c.args.self.now.committed in
    let told = c.in_ok-number.ensures.told in
    let known = ap (λ (l : LookUps). l.committed) told.0 in
    let more = ap (λ (l : LookUps). l.count) told.0 in
    (omega (arith, all, known, more, told.1), omega (arith, told.1))

-- the batch is the newest one, and committed
pub returns-clause-told : goal.returns-clause-told
returns-clause-told g c =
    let told = c.in_ok-number.ensures.told in
    let known = c.set_committed.ensures.told in
    let old = look_ups (store_engine c.args.self.now) in
    let n = told.1 ∙ ap (λ (l : LookUps). l.count) told.0 in (
      told.1 ∙ sym (ap (λ (l : LookUps). l.count) known),
      known ∙ ap (λ (l : LookUps). with_committed l c.in_ok-number.number) told.0
          ∙ ap (λ (k : ℕ). with_committed (with_one_more old) k) n,
    )

-- what the engine promises of the append, the store does of the write
pub returns-clause-changes : goal.returns-clause-changes
returns-clause-changes g c =
    let did = c.in_ok-number.ensures.changes in
    let said = c.set_committed.ensures in
    let old = c.args.self.now in
    let facts = facts_of (store_engine old) in
    record {
      keeps = record {
        disk = kept_on g.D.Disk said.disk did.keeps.disk;
        closed = did.keeps.closed;
        ends = (
          λ ended. did.keeps.ends.0 (said.stays.ended.0 ended),
          λ ended. said.stays.ended.1 (did.keeps.ends.1 ended),
        );
        refusal = λ none. absurd none;
      };
      merging = merge_stays (store_engine old) _ _ c.in_ok-number.ensures.merging said.stays.work;
      list = λ list holds.
          said.stays.holds (list ++ c.args.batch.now ∷ []) ((did.list list).holds holds);
      any_moment = λ list holds.
          subst (λ d. IsOldOrNewSince g.D.Disk (store_disk old) d facts list facts
          (list ++ c.args.batch.now ∷ [])) (sym said.disk) (did.any_moment list holds);
      meant = λ list was.
          said.stays.meant (list ++ c.args.batch.now ∷ []) ((did.list list).meant was);
      meant_at_any_moment = λ list was.
          subst (λ d. AlwaysLeaves g.D.Disk (store_disk old) d (WereOneOf facts list facts
          (list ++ c.args.batch.now ∷ []))) (sym said.disk) (did.meant list was);
    }
