use Rattle.std.proofs.Common.{List, take}
use Rattle.lab.specs.declared.report.Line.{Line}
use Rattle.lab.specs.SimNodes.{Choice}
use Rattle.lab.specs.Worlds.{HasRun, WorldHasLimits, direct_carrier}
use Rattle.lab.proofs.runs.run.Given as goal

-- the world has applied so many events, with the limits that were given
abbrev pub invariant-loop-event : goal.invariant-loop-event
invariant-loop-event l =
    (choices : List Choice) × (steps : List (List Line))
    × HasRun direct_carrier l.world (record {
      configs = l.fn.configs;
      events = take l.event-index l.events;
      choices = choices;
      steps = steps;
    })
    × WorldHasLimits l.world l.fn.limits
