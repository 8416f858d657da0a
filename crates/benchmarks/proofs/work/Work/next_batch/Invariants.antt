use Rattle.std.proofs.Common.{◌≡◌}
use Rattle.benchmarks.specs.Works.{behind_puts, next_puts}
use Rattle.benchmarks.proofs.work.Work.next_batch.Given as goal

-- so many puts were made
abbrev pub invariant-loop : goal.invariant-loop
invariant-loop l =
    (l.edits.items ≡ next_puts l.counter l.fn.self) × (l.self ≡ behind_puts l.counter l.fn.self)
