use Rattle.std.proofs.Common.{◌≡◌, length, vec_len}
use Rattle.disk.specs.Buffer.{uncovered, AllWithin}
use Rattle.disk.proofs.buffer.uncover.Given as goal

-- what is left to put back lies within the buffer, and leads to the same bytes
abbrev pub invariant-loop-one : goal.invariant-loop-one
invariant-loop-one l = record {
  len : length l.buffer.items ≡ length l.initial.buffer.items;
  within : AllWithin (length l.initial.buffer.items) l.covered.items;
  same : uncovered l.buffer.items l.covered.items
      ≡ uncovered l.initial.buffer.items l.initial.covered.items;
}

-- one piece less is left
abbrev pub decreases-loop-one : goal.decreases-loop-one
decreases-loop-one l = vec_len l.covered
