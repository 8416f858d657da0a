use Rattle.std.proofs.Common.{ℕ, ◌*◌, ◌<◌, length}
use Rattle.bloom.specs.Filters.{HasBit, probe_of}
use Rattle.bloom.specs.Probes.{IsAtProbe}
use Rattle.bloom.proofs.filter.may_hold_hashed.Given as goal

-- so many probes are set, and the walk is at the next
abbrev pub invariant-loop-i : goal.invariant-loop-i
invariant-loop-i l = record {
  set : (i : ℕ) → i < l.i → HasBit l.filter (probe_of (8 * length l.filter) l.fn.hashes i);
  walk : IsAtProbe (8 * length l.filter) l.fn.hashes l.i l.probes;
}
