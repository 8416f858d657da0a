use Rattle.std.proofs.Common.{◌≡◌, ◌-◌, ◌≤◌, true}
use Rattle.kv_types.specs.{has}
use Rattle.lab.specs.NodeLists.{at_epoch}
use Rattle.lab.specs.{configs_of, lines_so_far}
use Rattle.scripts.specs.Scripts.{Names}
use Rattle.scripts.specs.declared.setup.Setup.{Setup}
use Rattle.scripts.specs.declared.statement.Action.TheVariants.{Settle}
use Rattle.client.specs.ReportedRuns.{ActionAddsLines, HaveWorked, RunsAction}
use Rattle.client.specs.ScriptRuns.{HasRunTo, Stretch, most}
use Rattle.client.proofs.PlacesBetween.{LeavesSent}
use Rattle.client.proofs.Settling.{Settles}
use Rattle.client.proofs.script_run.settle.Given as goal

-- so many tends worked, and the world has a list of lines of each, if it has the node
abbrev pub invariant-loop-count : goal.invariant-loop-count
invariant-loop-count g l = ((setup : Setup) (past : Stretch) →
    HasRunTo g.C.Carrier l.fn.world setup past → has (at_epoch setup.configs 0) l.fn.node ≡ true →
    Settles g.C.Carrier l.world setup past l.fn.node l.fn.left.items l.left.items l.count)
    × ((l.count ≤ most) × ActionAddsLines (Settle l.fn.node) l.count l.fn.world l.world)
    × (Names (configs_of l.fn.world) (Settle l.fn.node) →
    HaveWorked (lines_so_far l.fn.world) (lines_so_far l.world) l.count)
    × LeavesSent l.fn.world l.world l.fn.left.items l.left.items l.count
    × RunsAction g.C.Carrier (Settle l.fn.node) l.count l.fn.world l.world

abbrev pub decreases-loop-count : goal.decreases-loop-count
decreases-loop-count g l = most - l.count
