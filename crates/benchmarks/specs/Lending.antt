-- What a walk that is lent leaves.
use Rattle.std.specs.Prelude.{Result}
use Rattle.std.specs.Borrow.{Fml, LendsIfOk, MutBor}
use Rattle.kv_types.specs.declared.error.KvError.{KvError}
use Rattle.benchmarks.specs.declared.benchmark.Benchmark.{Benchmark}
use Rattle.benchmarks.specs.declared.benchmark.Benchmark.TheVariants as bench
use Rattle.benchmarks.specs.declared.walk.Walk.{Walk}
use Rattle.benchmarks.specs.declared.work.Work.{Work}
use Rattle.benchmarks.specs.contracts.walk.Walk as walk
use Rattle.benchmarks.specs.contracts.work.Work as work
use Rattle.benchmarks.specs.Works.{behind_number}

-- what is left when a walk begins again for a benchmark: in `seekrandom` a number is drawn
abbrev pub behind_seek : Benchmark → Work → Work
behind_seek bench.SeekRandom work = behind_number work
behind_seek _ work = work

-- the same, with this walk in its place
abbrev pub with_walk : Work → Walk → Work
with_walk work walk = record (behind_seek work.benchmark work) { walk = walk }

-- The walk is lent, and all else is as it was, but for the number that a seek draws. Behind an
-- `Err` the walk is as it was, too.
abbrev pub LendsWalk : MutBor Work → Result (MutBor Walk) KvError → Fml
LendsWalk it result =
    LendsIfOk work.the_row walk.the_row it result (with_walk it.now)
    (behind_seek it.now.benchmark it.now)
