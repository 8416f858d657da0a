use Rattle.std.proofs.Common.{◌<◌, ◌+◌, ◌^◌, ap, arith, length, subst}
use Rattle.std.specs.Prelude.{IsSomeAnd}
use Rattle.disk.specs.{Slot, seen}
use Rattle.record_log.specs.{gate_of}
use Rattle.batch_logs.proofs.batch_logs.BatchLogs.newest_length.Goals as goal

-- the gate is within the file, whose length a place can name
pub returns : goal.returns
returns c = λ disk first batches h.
    let log = c.args.self.now.newest.log in
    let held = h.newest.log in
    let within : gate_of log < length held.bytes =
    subst (λ (slot : Slot). IsSomeAnd (seen slot) (λ bytes. gate_of log < length bytes)) held.sure
    (c.gates_are_in_files.ensures disk log _ held) in
    let fits = held.fits in
    let small : gate_of log + 1 < 2 ^ 64 = omega (arith, within, fits) in
    ap (λ n. n + 1) (c.gate.ensures.gate small)
