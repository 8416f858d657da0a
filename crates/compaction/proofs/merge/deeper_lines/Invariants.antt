use Rattle.std.proofs.Common.{◌≡◌, ◌++◌, ◌+◌, length, filter, nat_lt}
use Rattle.compaction.proofs.merge.deeper_lines.Given as goal

-- the lines so far, and those among the tables that are left
abbrev pub invariant-loop-rest : goal.invariant-loop-rest
invariant-loop-rest l =
    l.lines.items ++ filter (λ line. nat_lt (l.level + 1) line.level) l.rest
    ≡ filter (λ line. nat_lt (l.level + 1) line.level) l.tables

abbrev pub decreases-loop-rest : goal.decreases-loop-rest
decreases-loop-rest l = length l.rest
