use Rattle.std.proofs.Common.{◌≡◌, take}
use Rattle.disk.proofs.buffer.clone_all.Given as goal

-- the pieces passed are cloned
abbrev pub invariant-loop-one : goal.invariant-loop-one
invariant-loop-one l = l.all.items ≡ take l.one-index l.covered
