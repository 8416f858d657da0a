use Rattle.std.proofs.Common.{List, Result, map, refl, inl, subst}
use Rattle.disk.specs.declared.error.DiskError.{DiskError}
use Rattle.disk.specs.States.{State}
use Rattle.disk.specs.Calls.{BegunWrite, WriteOutcome}
use Rattle.disk.specs.Faults.{CallPasses, fault_of}
use Rattle.disk.specs.Memory.{IsReliable, Slots, past_states, state_of}
use Rattle.disk.proofs.Agreement.{writes_agree}
use Rattle.disk.proofs.Devices.{ends_past, fail_passes}
use Rattle.disk.proofs.memory.MemDiskDisk.write_at.Goals as goal

-- a write that would end out of range has no effect
pub returns-then-ends_out_of_range-clause-passes : goal.returns-then-ends_out_of_range-clause-passes
returns-then-ends_out_of_range-clause-passes c = λ honest.
    let slots = c.self.inside.slots.entries in
    let since : List State = map state_of c.fail.new.self.past in
    subst (λ (disk : Slots). CallPasses (past_states disk) since (fault_of disk.incidents)
    (IsReliable disk)
    c.fail.result (state_of disk.slots) (state_of slots)
    (BegunWrite (state_of disk.slots) c.args.file c.args.at c.args.bytes.now))
    c.self.view_is
    (fail_passes _ slots c.self.inside.device c.fail.new.self c.fail.result _
    (BegunWrite (state_of slots) c.args.file c.args.at c.args.bytes.now) c.fail.ensures
    (inl (c.ends_out_of_range.ensures.0 c.if-ends_out_of_range.true, λ file. refl)))

-- a write keeps the agreement
pub invariant_of-self-2 : goal.invariant_of-self-2
invariant_of-self-2 c = record {
  agrees = writes_agree c.write_in-answer.result (state_of c.self.inside.slots.entries)
      (state_of c.write_in-answer.new.slots.entries) c.args.file c.args.at c.args.bytes.now
      c.write_in-answer.ensures.writes c.write_in-answer.ensures.other c.self.invariant.agrees;
  last = ends_past (state_of c.self.inside.slots.entries) c.write_in-answer.new.slots.entries
      c.self.inside.device c.end.new.self c.write_in-answer.result c.end.result c.end.ensures
      (λ wants. (subst (λ (answer : Result Unit DiskError). WriteOutcome
      (state_of c.self.inside.slots.entries) c.args.file c.args.at c.args.bytes.now answer
      (state_of c.write_in-answer.new.slots.entries)) wants c.write_in-answer.ensures.writes).0)
      c.self.invariant.last;
}
