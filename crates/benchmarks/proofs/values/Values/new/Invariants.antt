use Rattle.std.proofs.Common.{◌≡◌, ◌*◌, length}
use Rattle.benchmarks.proofs.values.Values.new.Given as goal

-- each piece has 100 bytes
abbrev pub invariant-loop : goal.invariant-loop
invariant-loop l = length l.text.items ≡ 100 * l.counter
