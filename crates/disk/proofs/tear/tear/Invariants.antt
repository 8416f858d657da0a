use Rattle.disk.proofs.Tears.{IsTornTo}
use Rattle.disk.proofs.tear.tear.Given as goal

-- the places passed are torn
abbrev pub invariant-loop-place : goal.invariant-loop-place
invariant-loop-place l = IsTornTo l.end l.touches l.junk l.initial.bytes l.bytes l.place l.next
