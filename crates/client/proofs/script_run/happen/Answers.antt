use Rattle.std.proofs.Common.{inl, refl, rules}
use Rattle.lab.specs.{faultless}
use Rattle.client.specs.ReportedRuns.{StepIsCut}
use Rattle.client.proofs.script_run.happen.Goals as goal

-- memory is wanted for the event
pub returns-in_err-event-clause-refused : goal.returns-in_err-event-clause-refused
returns-in_err-event-clause-refused g c =
    let cut : StepIsCut g.C.Carrier (faultless c.args.kind) c.args.world.now c.args.world.now =
    inl refl in
    search (rules, cut)
