use Rattle.std.proofs.Common.{◌-◌, ◌≤◌}
use Rattle.scripts.specs.declared.setup.Setup.{Setup}
use Rattle.scripts.specs.declared.statement.Action.TheVariants.{Flow}
use Rattle.client.specs.ReportedRuns.{ActionAddsLines, RunsAction}
use Rattle.client.specs.ScriptRuns.{HasRunTo, Stretch, most}
use Rattle.client.proofs.Flowing.{Flows}
use Rattle.client.proofs.PlacesBetween.{Delivers}
use Rattle.client.proofs.script_run.flow.Given as goal

-- so many frames were delivered, and the world has a list of lines of each
abbrev pub invariant-loop-count : goal.invariant-loop-count
invariant-loop-count g l = ((setup : Setup) (past : Stretch) →
    HasRunTo g.C.Carrier l.fn.world setup past →
    Flows g.C.Carrier l.world setup past l.fn.left.items l.left.items l.count)
    × ((l.count ≤ most) × ActionAddsLines Flow l.count l.fn.world l.world)
    × Delivers l.fn.world l.world l.fn.left.items l.left.items l.count
    × RunsAction g.C.Carrier Flow l.count l.fn.world l.world

abbrev pub decreases-loop-count : goal.decreases-loop-count
decreases-loop-count g l = most - l.count
