use Rattle.benchmarks.specs.Words.{AreInRange}
use Rattle.benchmarks.proofs.words.read_words.Given as goal

-- the numbers so far are in their ranges
abbrev pub invariant-loop-pair : goal.invariant-loop-pair
invariant-loop-pair l = AreInRange l.read.keys l.read.value
