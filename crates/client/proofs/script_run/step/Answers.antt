use Rattle.std.proofs.Common.{inl, inr}
use Rattle.client.specs.ReportedRuns.{StepIsCut}
use Rattle.client.specs.ScriptRuns.{followed_by, one_step, run_of}
use Rattle.client.proofs.Flowing.{added}
use Rattle.client.proofs.PlacesBetween.{added_between}
use Rattle.client.proofs.RunsActions.{on_err}
use Rattle.client.proofs.script_run.step.Goals as goal

pub returns-clause-ran : goal.returns-clause-ran
returns-clause-ran g c = λ setup past run named.
    let ran = (c.in_ok-step.ensures.ran (run_of setup past) run.run).follows named in (
      ran.choice,
      ran.lines,
      record {
        run = ran.run;
        limits = c.in_ok-step.ensures.steps.limits setup.limits run.limits;
      },
      added c.sent-before.result c.sent.result _ c.args.left.now.items past.steps ran.lines
          (c.sent-before.ensures.run (run_of setup past) run.run)
          (c.sent.ensures.run (run_of setup
          (followed_by past (one_step c.args.event.now ran.choice ran.lines))) ran.run)
          c.in_ok-add_sent.ensures,
    )

pub returns-clause-left : goal.returns-clause-left
returns-clause-left g c = added_between c.sent-before.result c.sent.result _ _
    c.add_sent.new.left.items c.args.left.now.items c.sent-before.ensures.kept
    c.sent.ensures.kept c.in_ok-add_sent.ensures

-- the world refused it
pub returns-in_err-step-clause-refused : goal.returns-in_err-step-clause-refused
returns-in_err-step-clause-refused g c =
    on_err c.from_residual.result (inr (inl c.in_err-step.ensures.refused))

-- the event was run, and memory is wanted for the places
pub returns-in_err-add_sent-clause-refused : goal.returns-in_err-add_sent-clause-refused
returns-in_err-add_sent-clause-refused g c =
    let cut : StepIsCut g.C.Carrier c.args.event.now c.args.world.now c.step.new.self =
    inr (inr c.in_ok-step.ensures.steps) in
    on_err c.from_residual-in_err-add_sent.result cut
