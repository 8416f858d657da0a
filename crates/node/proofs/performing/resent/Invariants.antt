use Rattle.std.proofs.Common.{◌-◌, ◌≤◌, max, Ok}
use Rattle.chain_model.specs.{forwards}
use Rattle.chain_core.specs.{Machine, CoreRefines, AreFrames}
use Rattle.engine.specs.{EngineHolds}
use Rattle.node.specs.Outputs.{IsOnlyRead}
use Rattle.node.proofs.performing.resent.Given as goal

-- the batches of the numbers that the loop has passed, of an engine that holds what it held
abbrev pub invariant-loop-number : goal.invariant-loop-number
invariant-loop-number g l = record {
  reached : l.number ≤ max l.initial.number l.number-end;
  read : IsOnlyRead g.D.Disk l.fn.engine l.engine (Ok l.sent);
  sent : (n : Machine) → CoreRefines l.core n → EngineHolds g.D.Disk l.fn.engine n.list →
      EngineHolds g.D.Disk l.engine n.list × AreFrames l.sent
      (forwards l.core.id n l.core.successor_has (l.number - l.initial.number));
}
