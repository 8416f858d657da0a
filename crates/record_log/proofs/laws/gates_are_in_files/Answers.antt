use Rattle.std.proofs.Common.{◌+◌, ◌<◌, length, subst, sym, arith}
use Rattle.std.specs.Prelude.{IsSomeAnd}
use Rattle.disk.specs.{Slot, seen}
use Rattle.record_log.proofs.Ways.{gate_at}
use Rattle.record_log.proofs.laws.gates_are_in_files.Goals as goal

-- behind the last record
pub returns : goal.returns
returns c = λ disk log records h.
    let gate = gate_at h.bytes log.start (log.start + log.end) records h.start h.stands
    (omega (arith, h.end)) in
    subst (λ (slot : Slot). IsSomeAnd (seen slot) (λ bytes. log.start + log.end < length bytes))
    (sym h.sure) gate.within
