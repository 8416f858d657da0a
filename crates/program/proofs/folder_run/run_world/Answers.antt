use Rattle.std.proofs.Common.{ap, rules, ◌∙◌}
use Rattle.client.specs.ScriptRuns.{run_of}
use Rattle.program.specs.FolderRuns.{has_stop}
use Rattle.program.proofs.FolderEnds.{ends_early, output_or_memory, printed_report, report_fails}
use Rattle.program.proofs.folder_run.run_world.Goals as goal

pub returns-clause-run : goal.returns-clause-run
returns-clause-run g c = λ ready.
    let it = c.in_ok-ran.ensures.printed ready in
    record {
      world = c.run_script-ran.new.world;
      turns = it.turns;
      all = it.all;
      run = it.run;
      wrote = it.wrote;
      stops = c.has_stop-stopped.ensures ∙ ap has_stop
          (c.report.ensures.steps (run_of c.args.script.now.setup it.all) it.run.run.run);
    }

pub returns-in_err-ran-clause-failed : goal.returns-in_err-ran-clause-failed
returns-in_err-ran-clause-failed g c = λ ready.
    let early = ends_early g.C.Carrier c.run_script-ran.new.world c.args.script.now.setup
    c.args.script.now.statements.items (g.W.Write.contents c.args.out.now)
    (g.W.Write.contents c.run_script-ran.new.out) c.in_err-ran.field-0.0
    (c.in_err-ran.ensures.ended ready) in
    search (rules, early)

pub returns-in_err-ran-clause-cause : goal.returns-in_err-ran-clause-cause
returns-in_err-ran-clause-cause g c =
    let cause = output_or_memory c.in_err-ran.field-0.0 in
    search (rules, cause)

pub returns-in_err-ran-clause-printed : goal.returns-in_err-ran-clause-printed
returns-in_err-ran-clause-printed g c = λ none.
    let fails = report_fails g.C.Carrier c.args.world c.run_script-ran.new.world
    c.args.script.now.statements.items (g.W.Write.contents c.args.out.now)
    (g.W.Write.contents c.run_script-ran.new.out) c.in_err-ran.field-0.0
    c.in_err-ran.ensures.reported in
    search (rules, fails)

pub returns-clause-printed : goal.returns-clause-printed
returns-clause-printed g c = λ none.
    printed_report g.C.Carrier c.args.world c.run_script-ran.new.world
    c.args.script.now.statements.items
    (g.W.Write.contents c.args.out.now) (g.W.Write.contents c.run_script-ran.new.out)
    c.report.result.now c.has_stop-stopped.result none c.in_ok-ran.ensures.reported
    c.report.ensures.kept c.has_stop-stopped.ensures
