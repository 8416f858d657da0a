use Rattle.std.proofs.Common.{◌*◌, length}
use Rattle.bloom.specs.Probes.{IsAtProbe}
use Rattle.bloom.proofs.Putting.{HasPut}
use Rattle.bloom.proofs.filter.put.Given as goal

-- so many probes are put, and the walk is at the next
abbrev pub invariant-loop-i : goal.invariant-loop-i
invariant-loop-i l = record {
  put : HasPut l.fn.filter l.fn.hashes l.i l.filter;
  walk : IsAtProbe (8 * length l.fn.filter) l.fn.hashes l.i l.probes;
}
