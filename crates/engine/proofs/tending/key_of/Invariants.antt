use Rattle.std.proofs.Common.{◌≡◌, ◌==◌, ◌&&◌, length}
use Rattle.std.specs.List.{find}
use Rattle.engine.proofs.tending.key_of.Given as goal

-- the tables that are left decide
abbrev pub invariant-loop-rest : goal.invariant-loop-rest
invariant-loop-rest l =
    find (λ line. line.level == l.plan.level && line.file == l.file) l.rest
    ≡ find (λ line. line.level == l.plan.level && line.file == l.file) l.tables

abbrev pub decreases-loop-rest : goal.decreases-loop-rest
decreases-loop-rest l = length l.rest
