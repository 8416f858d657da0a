use Rattle.std.proofs.Common.{List, ◌+◌, ◌++◌, refl, ap, arith, sym, subst, ◌∙◌, append_assoc}
use Rattle.std.proofs.Common.{rules}
use Rattle.lab.specs.declared.Line.{Line}
use Rattle.lab.specs.{frames_in_steps, frames_of_step}
use Rattle.scripts.specs.declared.statement.Action.{Action}
use Rattle.scripts.specs.declared.statement.Action.TheVariants.{Event}
use Rattle.client.specs.ReportedRuns.{ActionIsCut}
use Rattle.client.specs.ScriptRuns.{run_of}
use Rattle.client.specs.declared.statement_result.Note.TheVariants as note
use Rattle.client.proofs.Leaving.{all_rise}
use Rattle.client.proofs.PlacesBetween.{left_of_event}
use Rattle.client.proofs.StatementResults.{turned_by_event, turned_by_flow, turned_by_settle}
use Rattle.client.proofs.StatementResults.{turned_by_show, turned_without}
use Rattle.client.proofs.ReportedLemmas.{reported_event, reported_flow, reported_invalid}
use Rattle.client.proofs.ReportedLemmas.{reported_settle, reported_show}
use Rattle.client.proofs.RunsActions.{event_cut, runs_one}
use Rattle.client.proofs.script_run.run_statement.Goals as goal

pub returns-in_ok-step-in-Event-clause-ran : goal.returns-in_ok-step-in-Event-clause-ran
returns-in_ok-step-in-Event-clause-ran g c = λ setup past run named up.
    let old = c.args.left.now.items in
    let new = c.remove_delivered.new.left.items in
    let it = c.args.statement.now in
    let went = c.in_ok-step-in-Event.ensures.ran setup past run (rw c.in-Event.is at named) in
    let sent = frames_in_steps past.steps in
    let frames = frames_of_step went.1 in
    let left = rw went.3 at (c.remove_delivered.ensures 0 (sent + frames)
    (rw went.3 (all_rise old 0 sent frames up))) in
    rw c.result_of.ensures (turned_by_event setup past it c.args.world.now c.step.new.world old new
    c.in-Event.event went.0 went.1 c.in-Event.is went.2 left)

pub returns-in-Invalid-clause-ran : goal.returns-in-Invalid-clause-ran
returns-in-Invalid-clause-ran g c = λ setup past run named up.
    rw c.result_of-in-Invalid.ensures (turned_without setup past c.args.statement.now
    c.args.world.now c.args.left.now.items (note.Invalid c.in-Invalid.error) run
    (rw c.in-Invalid.is (refl, refl, refl)) tt (rw c.in-Invalid.is refl))

pub returns-in_ok-events-in-Flow-clause-ran : goal.returns-in_ok-events-in-Flow-clause-ran
returns-in_ok-events-in-Flow-clause-ran g c = λ setup past run named up.
    let went = c.in_ok-events-in-Flow.ensures.ran setup past run in
    rw (c.result_of-in-Flow.ensures, c.busy.ensures) (turned_by_flow setup past
    c.args.statement.now c.args.world.now c.flow.new.world c.args.left.now.items
    c.flow.new.left.items c.in_ok-events-in-Flow.events c.in-Flow.is went)

pub returns-in_ok-tends-in-Settle-clause-ran : goal.returns-in_ok-tends-in-Settle-clause-ran
returns-in_ok-tends-in-Settle-clause-ran g c = λ setup past run named up.
    let node = c.in-Settle.node in
    let went = c.in_ok-tends-in-Settle.ensures.ran setup past run (rw c.in-Settle.is at named) in
    let last = went.4 in
    turned_by_settle setup past c.args.statement.now c.args.world.now c.settle.new.world
    c.args.left.now.items c.settle.new.left.items node c.in_ok-tends-in-Settle.tends _
    c.tend_has_worked.result c.in-Settle.is went
    (c.tend_has_worked.ensures (past.steps ++ last.before) last.last (went.1.run.kept
    ∙ (ap (λ (l : List (List Line)). past.steps ++ l) last.all
    ∙ sym (append_assoc past.steps last.before _)))) c.settled_result.ensures

pub returns-in-Show-clause-ran : goal.returns-in-Show-clause-ran
returns-in-Show-clause-ran g c = λ setup past run named up.
    rw c.result_of-in-Show.ensures (turned_by_show setup past c.args.statement.now c.args.world.now
    c.args.left.now.items c.in-Show.node c.numbers.result c.shown-note.result c.in-Show.is
    c.shown-note.ensures run
    (c.numbers.ensures.run (run_of setup past) run.run (rw c.in-Show.is at named))
    c.numbers.ensures.own)

-- ---- in any world

pub returns-in_ok-step-in-Event-clause-reported : goal.returns-in_ok-step-in-Event-clause-reported
returns-in_ok-step-in-Event-clause-reported g c =
    let old = c.args.world.now in
    let new = c.step.new.world in
    let kind = c.in-Event.event.kind in
    reported_event g.C.Carrier old new c.args.statement.now c.result_of.result
    c.args.left.now.items c.remove_delivered.new.left.items c.in-Event.event c.in-Event.is
    c.result_of.ensures c.in_ok-step-in-Event.ensures.steps.adds
    (runs_one g.C.Carrier (Event c.in-Event.event) old new c.in-Event.event refl
    c.in_ok-step-in-Event.ensures.steps)
    (left_of_event old new kind c.args.left.now.items c.step.new.left.items
    c.remove_delivered.new.left.items c.in_ok-step-in-Event.ensures.left
    c.remove_delivered.ensures)

pub returns-in-Invalid-clause-reported : goal.returns-in-Invalid-clause-reported
returns-in-Invalid-clause-reported g c =
    reported_invalid g.C.Carrier c.args.world.now c.args.statement.now c.result_of-in-Invalid.result
    c.args.left.now.items c.in-Invalid.error c.in-Invalid.is c.result_of-in-Invalid.ensures

pub returns-in_ok-events-in-Flow-clause-reported : goal.returns-in_ok-events-in-Flow-clause-reported
returns-in_ok-events-in-Flow-clause-reported g c =
    let went = c.in_ok-events-in-Flow.ensures.adds in
    let more = c.in_ok-events-in-Flow.ensures.delivers in
    reported_flow g.C.Carrier c.args.world.now c.flow.new.world c.args.statement.now
    c.result_of-in-Flow.result
    c.args.left.now.items c.flow.new.left.items c.in_ok-events-in-Flow.events c.in-Flow.is
    (rw c.busy.ensures at c.result_of-in-Flow.ensures) went.0 went.1 went.2
    c.in_ok-events-in-Flow.ensures.runs more.0 more.1

pub returns-in_ok-tends-in-Settle-clause-reported
    : goal.returns-in_ok-tends-in-Settle-clause-reported
returns-in_ok-tends-in-Settle-clause-reported g c =
    let went = c.in_ok-tends-in-Settle.ensures.adds in
    let more = c.in_ok-tends-in-Settle.ensures.left in
    reported_settle g.C.Carrier c.args.world.now c.settle.new.world c.args.statement.now
    c.settled_result.result c.args.left.now.items c.settle.new.left.items c.in-Settle.node
    c.in_ok-tends-in-Settle.tends c.tend_has_worked.result
    c.in-Settle.is c.settled_result.ensures went.0 went.1
    c.in_ok-tends-in-Settle.ensures.tends c.tend_has_worked.ensures
    c.in_ok-tends-in-Settle.ensures.runs more.0 more.1

pub returns-in-Show-clause-reported : goal.returns-in-Show-clause-reported
returns-in-Show-clause-reported g c =
    reported_show g.C.Carrier c.args.world.now c.args.statement.now c.result_of-in-Show.result
    c.args.left.now.items c.in-Show.node
    c.numbers.result c.in-Show.is (rw c.shown-note.ensures at c.result_of-in-Show.ensures)
    c.numbers.ensures.own c.numbers.ensures.none

-- ---- memory is wanted, in any world

pub returns-in_err-step-in-Event-clause-refused : goal.returns-in_err-step-in-Event-clause-refused
returns-in_err-step-in-Event-clause-refused g c =
    let old = c.args.world.now in
    let event = c.in-Event.event in
    let left = c.args.left.now.items in
    let cut = subst (λ (a : Action). ActionIsCut g.C.Carrier a left old c.step.new.world)
    (sym c.in-Event.is) (event_cut g.C.Carrier old c.step.new.world left event
    c.in_err-step-in-Event.ensures.refused) in
    search (rules, cut)

pub returns-in_err-events-in-Flow-clause-refused : goal.returns-in_err-events-in-Flow-clause-refused
returns-in_err-events-in-Flow-clause-refused g c =
    let cut = subst (λ (a : Action). ActionIsCut g.C.Carrier a c.args.left.now.items
    c.args.world.now c.flow.new.world) (sym c.in-Flow.is)
    c.in_err-events-in-Flow.ensures.refused in
    search (rules, cut)

pub returns-in_err-tends-in-Settle-clause-refused
    : goal.returns-in_err-tends-in-Settle-clause-refused
returns-in_err-tends-in-Settle-clause-refused g c =
    let cut = subst (λ (a : Action). ActionIsCut g.C.Carrier a c.args.left.now.items
    c.args.world.now c.settle.new.world) (sym c.in-Settle.is)
    c.in_err-tends-in-Settle.ensures.refused in
    search (rules, cut)
