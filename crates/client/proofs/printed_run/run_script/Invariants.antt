use Rattle.std.proofs.Common.{take}
use Rattle.client.specs.PrintedRuns.{IsReadyToRun}
use Rattle.client.proofs.PrintedRuns.{Prints}
use Rattle.client.proofs.StatementReports.{ReportsSoFar}
use Rattle.client.proofs.printed_run.run_script.Given as goal

-- the statements so far were run and printed
abbrev pub invariant-loop-statement : goal.invariant-loop-statement
invariant-loop-statement g l = (
    IsReadyToRun g.C.Carrier l.fn.world l.script.setup l.script.statements.items →
    Prints g.C.Carrier l.world l.script.setup l.left.items
    (take l.statement-index l.script.statements.items) l.places.items l.before
    (g.W.Write.contents l.fn.out) (g.W.Write.contents l.out))
    × ReportsSoFar g.C.Carrier l.fn.world l.world l.left.items
    (take l.statement-index l.script.statements.items) l.places.items l.before
    (g.W.Write.contents l.fn.out) (g.W.Write.contents l.out)
