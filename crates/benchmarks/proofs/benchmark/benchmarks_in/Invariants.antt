use Rattle.std.proofs.Common.{◌≡◌, map, take}
use Rattle.benchmarks.specs.Benchmarks.{name_of}
use Rattle.benchmarks.proofs.benchmark.benchmarks_in.Given as goal

-- the parts so far name the benchmarks that were found
abbrev pub invariant-loop-part : goal.invariant-loop-part
invariant-loop-part l =
    map name_of l.found.items ≡ map (λ part. part.now) (take l.part-index l.part-items)
