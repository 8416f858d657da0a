-- The names of benchmarks.
use Rattle.std.specs.Prelude.{ℕ, ◌+◌, ◌-◌, ◌/◌, ◌^◌, max, min, Bool, true, false, List, codes}
use Rattle.benchmarks.specs.declared.benchmark.Benchmark.{Benchmark}
use Rattle.benchmarks.specs.declared.benchmark.Benchmark.TheVariants as bench

-- the word that names a benchmark
abbrev pub name_of : Benchmark → List ℕ
name_of bench.FillSeq = codes "fillseq"
name_of bench.FillSync = codes "fillsync"
name_of bench.FillRandom = codes "fillrandom"
name_of bench.Overwrite = codes "overwrite"
name_of bench.ReadRandom = codes "readrandom"
name_of bench.ReadMissing = codes "readmissing"
name_of bench.ReadSeq = codes "readseq"
name_of bench.ReadReverse = codes "readreverse"
name_of bench.SeekRandom = codes "seekrandom"
name_of bench.Compact = codes "compact"
name_of bench.Open = codes "open"
name_of bench.ChainSubmit = codes "chainsubmit"

-- those that begin with a store without batches, for which one that stands there is removed
abbrev pub is_fresh : Benchmark → Bool
is_fresh bench.FillSeq = true
is_fresh bench.FillSync = true
is_fresh bench.FillRandom = true
is_fresh bench.Overwrite = false
is_fresh bench.ReadRandom = false
is_fresh bench.ReadMissing = false
is_fresh bench.ReadSeq = false
is_fresh bench.ReadReverse = false
is_fresh bench.SeekRandom = false
is_fresh bench.Compact = false
is_fresh bench.Open = false
is_fresh bench.ChainSubmit = false

-- Puts of a batch with values of this length: one in a benchmark of single puts, else as many as
-- 60,000 bytes have room for, with 32 beside each value, from 1 to 256.
abbrev pub puts_of : Benchmark → ℕ → ℕ
puts_of bench.FillSync length = 1
puts_of bench.ChainSubmit length = 1
puts_of _ length = max 1 (min (60000 / (length + 32)) 256)

-- how often the operation is done in a run of so many: once at least
abbrev pub operations_of : Benchmark → ℕ → ℕ
operations_of bench.Compact number = 2 ^ 64 - 1
operations_of bench.FillSync number = max (number / 1000) 1
operations_of bench.Open number = max (number / 10000) 1
operations_of bench.ChainSubmit number = max (number / 10) 1
operations_of _ number = max number 1
