use Rattle.std.proofs.Common.{rules, ◌≡◌, ◌+◌, ◌-◌, ◌<◌, ◌++◌, suc, ap, ◌∙◌, sym, subst, arith, inr}
use Rattle.disk.specs.{IsEnvironmental}
use Rattle.std.proofs.Common.{refl}
use Rattle.std.specs.Prelude.{option_to_list}
use Rattle.std.proofs.lemmas.Result.{err_from_is_err_and}
use Rattle.chain_model.specs.{forward, forwards}
use Rattle.chain_core.specs.{AreFrames}
use Rattle.disk.specs.KeepingLemmas.{answered, neither}
use Rattle.engine.specs.{LookUps}
use Rattle.node.specs.declared.stop.Stop.TheVariants as stop
use Rattle.node.proofs.Causes.{done_told, env_of, later_ends, memory_ends, memory_told}
use Rattle.node.proofs.Causes.{passed_ends, refuses, still_works, stop_passed}
use Rattle.node.proofs.Running.{read_more, unread}
use Rattle.node.proofs.Outputs.{both_sent, made_of}
use Rattle.node.proofs.performing.resent.Goals as goal

-- the log has the batch
pub batch-requires : goal.batch-requires
batch-requires g c =
    let was = c.loop-number.invariant in
    let numbers = c.resends-numbers in
    let at = c.loop-number.number in
    let made = made_of c.new.result _ at c.unwrap-number.result c.new.ensures
    c.unwrap-number.ensures in
    let inside : numbers.result.start < numbers.result.end =
    omega (arith, c.loop-number.auto.number, c.loop-number-test.true) in
    let count = ap (λ (l : LookUps). l.count) was.read.told in
    let trimmed = ap (λ (l : LookUps). l.facts.kept) was.read.told in (
      omega (
        arith,
        made,
        numbers.ensures.kept inside,
        trimmed,
        c.requires.kept,
        c.loop-number.auto.number,
      ),
      omega (
        arith,
        made,
        numbers.ensures.there inside,
        count,
        c.requires.count,
        c.loop-number-test.true,
      ),
    )

-- a batch that could not be had is wanted for the engine's cause
pub returns-in_err-batch-clause-sent : goal.returns-in_err-batch-clause-sent
returns-in_err-batch-clause-sent g c = λ n is holds.
    let was = c.loop-number.invariant in
    refuses c.from_residual.result _
    (IsEnvironmental stop.Disk stop.Memory) c.from_residual.ensures.1
    (env_of c.in_err-batch.field-0.0
    (c.in_err-batch.ensures.found.reads n.list (was.sent n is holds).0.reads))

pub returns-in_err-push_some-clause-sent : goal.returns-in_err-push_some-clause-sent
returns-in_err-push_some-clause-sent g c = λ n is holds.
    refuses c.from_residual-in_err-push_some.result _ (IsEnvironmental stop.Disk stop.Memory)
    c.from_residual-in_err-push_some.ensures.1 (inr refl)

-- the engine was only read
pub returns-in_err-batch-clause-read : goal.returns-in_err-batch-clause-read
returns-in_err-batch-clause-read g c =
    let result = c.from_residual.result in
    read_more g.D.Disk c.args.engine.now c.loop-number.engine c.batch.new.self c.batch.result result
    c.loop-number.invariant.read c.batch.ensures.reads.keeps c.batch.ensures.reads.told
    c.batch.ensures.reads.still
    (stop_passed c.batch.result c.in_err-batch.field-0.0 result c.in_err-batch.was
    c.from_residual.ensures.1) (rw (err_from_is_err_and result c.from_residual.ensures.1).1 tt)

pub returns-in_err-push_some-clause-read : goal.returns-in_err-push_some-clause-read
returns-in_err-push_some-clause-read g c =
    let result = c.from_residual-in_err-push_some.result in
    let err = c.from_residual-in_err-push_some.ensures.1 in
    read_more g.D.Disk c.args.engine.now c.loop-number.engine c.batch.new.self c.batch.result result
    c.loop-number.invariant.read c.batch.ensures.reads.keeps c.batch.ensures.reads.told
    c.batch.ensures.reads.still
    (neither (answered c.batch.result c.in_ok-batch.was) (memory_told result err))
    (rw (err_from_is_err_and result err).1 tt)

pub returns-clause-read : goal.returns-clause-read
returns-clause-read g c = c.loop-number.invariant.read

-- none was sent
pub loop-number-init : goal.loop-number-init
loop-number-init g c = record {
  reached = search rules;
  read = unread g.D.Disk c.args.engine.now c.new-sent.result c.requires.works;
  sent = λ n is holds.
      let none : c.resends-numbers.result.start - c.resends-numbers.result.start ≡ 0 =
      omega arith in
      (holds, rw (none, c.new-sent.ensures) refl);
}

-- the batch of one number more was sent
pub loop-number-preserved : goal.loop-number-preserved
loop-number-preserved g c =
    let was = c.loop-number.invariant in
    let core = c.args.core.now in
    let x = core.id in
    let k = core.successor_has in
    let start = c.resends-numbers.result.start in
    let at = c.loop-number.number in
    let m = at - start in
    let from = c.resends-numbers.ensures.from in
    let number : at ≡ suc (k + m) = omega (arith, from, c.loop-number.auto.number) in
    let more : at + 1 - start ≡ suc m = omega (arith, c.loop-number.auto.number) in
    record {
      reached = search rules;
      read = read_more g.D.Disk c.args.engine.now c.loop-number.engine c.batch.new.self
          c.batch.result _ was.read c.batch.ensures.reads.keeps c.batch.ensures.reads.told
          c.batch.ensures.reads.still
          (neither (answered c.batch.result c.in_ok-batch.was) done_told)
          (λ ended. still_works c.in_ok-batch.ensures.reads.keeps.ends was.read.works ended);
      sent = λ n is holds.
          let before = was.sent n is holds in
          let made = made_of c.new.result _ at c.unwrap-number.result c.new.ensures
          c.unwrap-number.ensures in
          let there = c.in_ok-batch.ensures.found.reads n.list before.0.reads in
          let frame = option_to_list c.forward.result in
          let one = subst (λ i. AreFrames frame (forward x n i)) made
          (c.forward.ensures n is there) in
          let passed : forwards x n k (at + 1 - start) ≡ forwards x n k m ++ forward x n at
          = ap (forwards x n k) more ∙ c.one_by_one.ensures x n k m
          ∙ ap (λ i. forwards x n k m ++ forward x n i) (sym number) in
          let sent = both_sent _ _ _ _ before.1 one in (
            (c.in_ok-batch.ensures.reads.kept n.list).holds before.0,
            rw (passed, c.in_ok-push_some.ensures) sent,
          );
    }

-- all of them were sent
pub returns-clause-sent : goal.returns-clause-sent
returns-clause-sent g c = λ n is holds.
    let core = c.args.core.now in
    let numbers = c.resends-numbers.result in
    let at = c.loop-number in
    let was = at.invariant.sent n is holds in
    let all : at.number - numbers.start ≡ numbers.end - numbers.start =
    omega (arith, c.loop-number-test.false, at.invariant.reached) in
    let sent = subst (λ m. AreFrames at.sent (forwards core.id n core.successor_has m)) all
    was.1 in
    let whole = c.resends-numbers.ensures.all n is
    ∙ ap (λ k. forwards core.id n k (numbers.end - numbers.start)) is.successor_has in
    (was.0, subst (AreFrames at.sent) (sym whole) sent)

-- no cause is that of a disk without a node
pub returns-in_err-batch-clause-causes : goal.returns-in_err-batch-clause-causes
returns-in_err-batch-clause-causes g c =
    passed_ends c.from_residual.result c.from_residual.ensures.1
    (later_ends c.in_err-batch.field-0.0 c.in_err-batch.ensures.causes)

pub returns-in_err-push_some-clause-causes : goal.returns-in_err-push_some-clause-causes
returns-in_err-push_some-clause-causes g c =
    memory_ends c.from_residual-in_err-push_some.result c.from_residual-in_err-push_some.ensures.1
