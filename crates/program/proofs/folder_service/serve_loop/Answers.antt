use Rattle.std.proofs.Common.{[], None, inl}
use Rattle.program.specs.declared.failure.Failure.TheVariants.{Memory}
use Rattle.program.specs.declared.folder_failure.LoopFailure.TheVariants.{Run}
use Rattle.program.proofs.FolderEnds.{loop_not_usage, loop_reported}
use Rattle.program.proofs.folder_service.serve_loop.Goals as goal

pub returns-in-Err-Memory-clause-ends : goal.returns-in-Err-Memory-clause-ends
returns-in-Err-Memory-clause-ends g c = inl (
  [],
  loop_reported [] (Run Memory) (g.O.Write.contents c.args.out.now)
      (g.E.Write.contents c.args.err.now) (g.E.Write.contents c.report_loop.new.err)
      c.report_loop.result tt c.report_loop.ensures.status c.report_loop.ensures.text,
)

-- it was run in the folders that were found in the words
pub returns-in-Ok-clause-ends : goal.returns-in-Ok-clause-ends
returns-in-Ok-clause-ends g c = inl (_, c.run_script_at.ensures.ends)

-- a run does not end with the usage
pub returns-in-Ok-clause-usage : goal.returns-in-Ok-clause-usage
returns-in-Ok-clause-usage g c = λ two.
    absurd (loop_not_usage _ None (g.O.Write.contents c.args.out.now)
    (g.O.Write.contents c.run_script_at.new.out) (g.E.Write.contents c.args.err.now)
    (g.E.Write.contents c.run_script_at.new.err) c.run_script_at.result
    c.run_script_at.ensures.ends two)
