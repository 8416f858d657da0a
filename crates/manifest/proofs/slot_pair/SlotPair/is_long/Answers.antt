use Rattle.std.proofs.Common.{◌<◌, length, subst, arith}
use Rattle.std.specs.Prelude.{IsSomeAnd}
use Rattle.std.proofs.lemmas.Bool.Decides.{nat_tests}
use Rattle.disk.specs.{Slot, seen}
use Rattle.record_log.specs.{gate_of}
use Rattle.manifest.proofs.slot_pair.SlotPair.is_long.Goals as goal

-- no sum passes its bound where the slot may be long
pub returns-clause-told : goal.returns-clause-told
returns-clause-told c = λ below.
    let gate = c.gate.ensures.gate below in
    let first = c.first_len-first.ensures in
    let twice = c.saturating_mul.ensures in
    let sum = c.saturating_add.ensures in (
      λ longer. grind (arith, nat_tests),
      λ longer. grind (arith, nat_tests),
    )

-- the gate is within the file
pub returns-clause-due : goal.returns-clause-due
returns-clause-due c = λ disk id records h.
    let log = c.args.self.now.log in
    let within : gate_of log < length h.log.bytes =
    subst (λ (slot : Slot). IsSomeAnd (seen slot) (λ bytes. gate_of log < length bytes)) h.log.sure
    (c.gates_are_in_files.ensures disk log records h.log) in
    let fits = h.log.fits in
    let gate = c.gate.ensures.gate (omega (arith, within, fits)) in
    let first = c.first_len-first.ensures in
    let twice = c.saturating_mul.ensures in
    let sum = c.saturating_add.ensures in (
      λ longer. grind (arith, nat_tests),
      λ longer. grind (arith, nat_tests),
    )
