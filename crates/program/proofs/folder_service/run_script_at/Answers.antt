use Rattle.program.specs.declared.failure.Failure.TheVariants.{Unreadable}
use Rattle.program.specs.declared.folder_failure.LoopFailure.TheVariants.{Run}
use Rattle.program.proofs.FolderEnds.{loop_ended, loop_reported, of_any_loop}
use Rattle.program.proofs.folder_service.run_script_at.Goals as goal

pub returns-in-Err-clause-ends : goal.returns-in-Err-clause-ends
returns-in-Err-clause-ends g c =
    loop_reported c.args.folder.now (Run Unreadable) (g.O.Write.contents c.args.out.now)
    (g.E.Write.contents c.args.err.now) (g.E.Write.contents c.report_loop.new.err)
    c.report_loop.result tt c.report_loop.ensures.status c.report_loop.ensures.text

-- the script is standard input
pub returns-then-eq-clause-ends : goal.returns-then-eq-clause-ends
returns-then-eq-clause-ends g c =
    let text = g.R.Read.remaining c.args.input.now in
    let old_out = g.O.Write.contents c.args.out.now in
    let new_out = g.O.Write.contents c.run_in_folders.new.out in
    let old_err = g.E.Write.contents c.args.err.now in
    let new_err = g.E.Write.contents c.end_loop.new.err in
    of_any_loop c.args.folder.now text old_out new_out old_err new_err c.end_loop.result
    (loop_ended c.args.folder.now c.run_in_folders.result c.end_loop.result text old_out new_out
    old_err new_err c.end_loop.ensures c.run_in_folders.ensures.printed
    c.run_in_folders.ensures.failed)

pub returns-then-eq-clause-input : goal.returns-then-eq-clause-input
returns-then-eq-clause-input g c = λ _.
    loop_ended c.args.folder.now c.run_in_folders.result c.end_loop.result
    (g.R.Read.remaining c.args.input.now) (g.O.Write.contents c.args.out.now)
    (g.O.Write.contents c.run_in_folders.new.out) (g.E.Write.contents c.args.err.now)
    (g.E.Write.contents c.end_loop.new.err) c.end_loop.ensures
    c.run_in_folders.ensures.printed c.run_in_folders.ensures.failed

-- the script is the file at its path
pub returns-in-Ok-clause-ends : goal.returns-in-Ok-clause-ends
returns-in-Ok-clause-ends g c =
    of_any_loop c.args.folder.now _ (g.O.Write.contents c.args.out.now)
    (g.O.Write.contents c.run_in_folders-in-Ok.new.out) (g.E.Write.contents c.args.err.now)
    (g.E.Write.contents c.end_loop-in-Ok.new.err) c.end_loop-in-Ok.result
    (loop_ended c.args.folder.now c.run_in_folders-in-Ok.result c.end_loop-in-Ok.result _
    (g.O.Write.contents c.args.out.now) (g.O.Write.contents c.run_in_folders-in-Ok.new.out)
    (g.E.Write.contents c.args.err.now) (g.E.Write.contents c.end_loop-in-Ok.new.err)
    c.end_loop-in-Ok.ensures c.run_in_folders-in-Ok.ensures.printed
    c.run_in_folders-in-Ok.ensures.failed)
