use Rattle.std.proofs.Common.{◌≡◌, ◌+◌, ◌-◌, Err, Some, ap, sym, ◌∙◌, arith, rules}
use Rattle.std.specs.Prelude.{slice_get}
use Rattle.std.proofs.lemmas.Result.{err_from_is_err_and}
use Rattle.batch_logs.specs.Layout.{records_from}
use Rattle.batch_logs.proofs.Causes.{working_log}
use Rattle.batch_logs.proofs.JoinedLogs.{batch_of_part}
use Rattle.batch_logs.proofs.batch_logs.batch_in.Goals as goal

-- the log works, so it reports environment errors alone
pub returns-in_err-record : goal.returns-in_err-record
returns-in_err-record g c = record {
  reads = search rules;
  found = λ here honest h each.
      let p = err_from_is_err_and c.from_residual.result c.from_residual.ensures.1 in
      let why = c.in_err-record.ensures.given (records_from c.args.one.now.first here) honest h in
      let failed = c.in_err-record.ensures.failed.0 in
      rw (p.1, p.2) (working_log c.in_err-record.field-0.0 why
      (λ e. c.requires.works (failed (ap (λ d. Err d) e))));
}

-- the record is that of the batch of this number
pub returns : goal.returns
returns g c = record {
  reads = search rules;
  found = λ here honest h each.
      let first = c.args.one.now.first in
      let records = records_from first here in
      let at : c.args.number - first ≡ c.get.result - first = omega (arith, c.get.ensures.same) in
      let number : c.get-2.result ≡ first + (c.args.number - first) =
      omega (arith, c.get-2.ensures.same, c.requires.within.0) in
      let got : slice_get records (c.args.number - first) ≡ Some c.deref.result.now =
      ap (slice_get records) at ∙ c.in_ok-record.ensures.given records honest h
      ∙ ap (λ b. Some b) (sym c.deref.ensures.value) in
      batch_of_part c.spellings_differ.ensures first c.get-2.result (c.args.number - first) here
      c.deref.result.now c.in_ok-batch_of.field-0 c.ok_or.result number each got
      c.in_ok-batch_of.ensures c.ok_or.ensures.value;
}
