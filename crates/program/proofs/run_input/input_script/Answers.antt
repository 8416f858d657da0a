use Rattle.std.proofs.Common.{rules}
use Rattle.program.proofs.Beginnings.{not_read, of_reading, reported_input}
use Rattle.program.proofs.run_input.input_script.Goals as goal

pub returns-in_err-text-clause-fault : goal.returns-in_err-text-clause-fault
returns-in_err-text-clause-fault g c =
    let failed = not_read c.args.faults (g.R.Read.remaining c.args.input.now)
    c.in_err-text.field-0.0 c.in_err-text.ensures.cause in
    search (rules, failed)

pub returns-in_err-text-clause-cause : goal.returns-in_err-text-clause-cause
returns-in_err-text-clause-cause g c =
    let failed = of_reading c.in_err-text.field-0.0 c.in_err-text.ensures.cause in
    search (rules, failed)

pub returns-in-Err-clause-fault : goal.returns-in-Err-clause-fault
returns-in-Err-clause-fault g c =
    reported_input c.args.faults (g.R.Read.remaining c.args.input.now) c.in_ok-text.text.items
    c.in-Err.fault c.in_ok-text.ensures.read (rw (
      c.deref.ensures.value,
      c.in-Err.is,
    ) at c.read_script-read.ensures.fault)
