use Rattle.std.proofs.Common.{◌≡◌, None, replicate}
use Rattle.compaction.proofs.turn.Turn.new.Given as goal

abbrev pub invariant-loop : goal.invariant-loop
invariant-loop l = l.last.items ≡ replicate l.counter None
