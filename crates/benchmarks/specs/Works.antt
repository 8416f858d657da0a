-- The numbers of keys that a benchmark draws, its values, and its batches.
use Rattle.std.specs.Prelude.{ℕ, zero, suc, ◌+◌, ◌-◌, ◌%◌, ◌^◌, max, min, List, [], ◌∷◌, ◌++◌}
use Rattle.std.specs.Prelude.{Bool, true, false, if◌then◌else◌}
use Rattle.kv_types.specs.declared.edit.Edit.{Edit}
use Rattle.kv_types.specs.declared.edit.Edit.TheVariants.{Put}
use Rattle.kv_types.specs.{Span}
use Rattle.benchmarks.specs.declared.benchmark.Benchmark.{Benchmark}
use Rattle.benchmarks.specs.declared.benchmark.Benchmark.TheVariants as bench
use Rattle.benchmarks.specs.declared.work.Work.{Work}
use Rattle.benchmarks.specs.Keys.{key_text, next_seed}
use Rattle.benchmarks.specs.Stretches.{behind_stretch, next_stretch}
use Rattle.benchmarks.specs.Walks.{seek_range}

-- the benchmarks that use the numbers of keys in order
abbrev pub counts_up : Benchmark → Bool
counts_up bench.FillSeq = true
counts_up bench.ChainSubmit = true
counts_up _ = false

-- the one that walks from the greatest key to the least
abbrev pub is_backward : Benchmark → Bool
is_backward bench.ReadReverse = true
is_backward _ = false

-- of two ranges the one that a benchmark reads: in `seekrandom` that from the key on
abbrev pub range_read : Benchmark → List ℕ → Span → Span
range_read bench.SeekRandom key range = seek_range key
range_read _ key range = range

-- the next number: in order, or at random below the number of keys
abbrev pub drawn_number : Work → ℕ
drawn_number work =
    if counts_up work.benchmark then work.next else next_seed work.random % max work.keys 1

-- what is left when that number is drawn
abbrev pub behind_number : Work → Work
behind_number work =
    if counts_up work.benchmark then record work { next = min (work.next + 1) (2 ^ 64 - 1) } else
    record work { random = next_seed work.random }

-- the key that a benchmark reads at a number: in `readmissing` one that no number has
abbrev pub key_read : Benchmark → ℕ → List ℕ
key_read bench.ReadMissing number = key_text number ++ 46 ∷ []
key_read _ number = key_text number

-- the range that a walk is at: in `seekrandom` it begins again, at the next number's key
abbrev pub range_walked : Work → Span
range_walked work = range_read work.benchmark (key_text (drawn_number work)) work.walk.range

-- the next put: the next stretch of text, at the next number's key
abbrev pub next_put : Work → Edit
next_put work = Put (key_text (drawn_number work)) (next_stretch work.values)

-- what is left when that put is made
abbrev pub behind_put : Work → Work
behind_put work = record (behind_number work) { values = behind_stretch work.values }

-- what is left when so many are made
abbrev pub behind_puts : ℕ → Work → Work
behind_puts zero work = work
behind_puts (suc n) work = behind_put (behind_puts n work)

-- the next so many puts
abbrev pub next_puts : ℕ → Work → List Edit
next_puts zero work = []
next_puts (suc n) work = next_puts n work ++ next_put (behind_puts n work) ∷ []
