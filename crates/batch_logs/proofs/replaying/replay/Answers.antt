use Rattle.std.proofs.Common.{◌≡◌, ◌+◌, ℕ, suc, ap, arith, subst, ◌∙◌, length, refl, rules}
use Rattle.record_log.specs.{count_of}
use Rattle.batch_logs.specs.Layout.{batch_record, records_from}
use Rattle.batch_logs.specs.Memtables.{IsNumberedTo}
use Rattle.batch_logs.specs.LayoutLemmas.{length-ends, length-records}
use Rattle.batch_logs.proofs.Records.{made_of, numbered_at}
use Rattle.batch_logs.proofs.Replays.{all_taken, none_taken, taken_next}
use Rattle.batch_logs.proofs.replaying.replay.Goals as goal

-- the log has no more records than there are batches
pub returns-then-count-before : goal.returns-then-count-before
returns-then-count-before c = record {
  taken = λ records read is. cc;
  numbered = λ is. cc;
  found = λ batches read each few.
      absurd (omega (
        arith,
        few,
        c.if-count-before.true,
        c.len-count.ensures,
        c.requires.few,
        ap length read.ends,
        length-ends 0 (records_from (suc c.args.before) batches),
        length-records (suc c.args.before) batches,
      ));
}

-- none was taken
pub loop-index-init : goal.loop-index-init
loop-index-init c = record {
  numbered = subst (λ (n : ℕ). IsNumberedTo c.args.memtable.now n) (omega arith)
      c.requires.numbered;
  taken = λ records read. none_taken records c.args.before c.args.flushed c.args.memtable.now;
}

-- the number is the next one
pub replay_record-requires-clause-numbered : goal.replay_record-requires-clause-numbered
replay_record-requires-clause-numbered c =
    let number_is = made_of c.new.result _ (c.args.before + c.loop-index.index + 1)
    c.unwrap-number.result c.new.ensures c.unwrap-number.ensures in
    subst (λ (n : ℕ). IsNumberedTo c.loop-index.memtable n) (omega (arith, number_is))
    c.loop-index.invariant.numbered

-- there was no memory
pub returns-in_err-replay_record : goal.returns-in_err-replay_record
returns-in_err-replay_record c = record {
  taken = search rules;
  numbered = search rules;
  found = search rules;
}

-- the records of batches are read
pub returns-then-not-branch : goal.returns-then-not-branch
returns-then-not-branch c = record {
  taken = λ records read is. cc;
  numbered = λ is. cc;
  found = λ batches read each few.
      let got = c.record.ensures (records_from (suc c.args.before) batches) read in
      let at = numbered_at (suc c.args.before) batches c.loop-index.index c.record.result.now each
      got in
      let number_is = made_of c.new.result _ (c.args.before + c.loop-index.index + 1)
      c.unwrap-number.result c.new.ensures c.unwrap-number.ensures in
      let number : suc c.args.before + c.loop-index.index ≡ c.unwrap-number.result =
      omega (arith, number_is) in
      let spelled = at.spelled ∙ ap (λ n. batch_record n at.batch) number in
      let found = c.in_ok-replay_record.ensures.found at.batch at.is_batch spelled in
      cc;
}

-- one more was taken
pub loop-index-preserved : goal.loop-index-preserved
loop-index-preserved c =
    let number_is = made_of c.new.result _ (c.args.before + c.loop-index.index + 1)
    c.unwrap-number.result c.new.ensures c.unwrap-number.ensures in
    let next : c.unwrap-number.result ≡ c.args.before + (c.loop-index.index + 1) =
    omega (arith, number_is) in
    let took = c.in_ok-replay_record.ensures.taken c.if-not-branch.false in
    record {
      numbered = subst (λ (n : ℕ). IsNumberedTo c.replay_record.new.memtable n) next took.1;
      taken = λ records read. taken_next records c.loop-index.index c.args.before c.args.flushed
          c.unwrap-number.result c.args.memtable.now c.loop-index.memtable
          c.replay_record.new.memtable c.record.result.now
          (c.loop-index.invariant.taken records read)
          (c.record.ensures records read) number_is took.0;
    }

-- all were taken
pub returns : goal.returns
returns c =
    let all : c.args.before + c.loop-index.index ≡ c.args.before + count_of c.args.opened.now.log =
    omega (arith, c.loop-index-test.false, c.len-count.ensures) in
    record {
      taken = λ records read is.
          all_taken c.args.opened.now records c.loop-index.index c.args.before c.args.flushed
          c.args.memtable.now c.loop-index.memtable read
          (omega (arith, c.loop-index-test.false, c.len-count.ensures))
          (c.loop-index.invariant.taken records read);
      numbered = λ is. (
        subst (λ (n : ℕ). IsNumberedTo c.loop-index.memtable n) all
            c.loop-index.invariant.numbered,
        omega (arith, c.if-count-before.false, c.len-count.ensures, c.requires.few),
      );
      found = λ batches read each few. refl;
    }
