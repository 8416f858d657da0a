use Rattle.std.proofs.Common.{rules}
use Rattle.std.proofs.lemmas.Result.{on_ok_weaker}
use Rattle.program.proofs.Wholes.{failed_reading, failed_run, if_err_weaker}
use Rattle.program.proofs.run_input.run_input.Goals as goal

pub returns-clause-run : goal.returns-clause-run
returns-clause-run g c = on_ok_weaker c.run_in_memory-ran.result (λ run. record {
  setup = c.in_ok-script.script.setup;
  statements = c.in_ok-script.script.statements.items;
  spelled = c.in_ok-script.ensures.found;
  fault = c.in_ok-script.ensures.lawful;
  run = run;
}) c.run_in_memory-ran.ensures.run

pub returns-clause-failed : goal.returns-clause-failed
returns-clause-failed g c = if_err_weaker c.run_in_memory-ran.result
    (λ failure fails. failed_run (g.R.Read.remaining c.args.input.now)
    (g.W.Write.contents c.args.out.now) (g.W.Write.contents c.run_in_memory-ran.new.out)
    c.in_ok-script.script.setup c.in_ok-script.script.statements.items failure
    c.in_ok-script.ensures.found c.in_ok-script.ensures.lawful fails)
    c.run_in_memory-ran.ensures.failed

pub returns-in_err-script-clause-failed : goal.returns-in_err-script-clause-failed
returns-in_err-script-clause-failed g c =
    let failed = failed_reading (g.R.Read.remaining c.args.input.now)
    (g.W.Write.contents c.args.out.now) c.in_err-script.field-0.0 c.in_err-script.ensures.cause
    c.in_err-script.ensures.fault in
    search (rules, failed)
