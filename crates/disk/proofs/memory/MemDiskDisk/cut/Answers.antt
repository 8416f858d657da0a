use Rattle.std.proofs.Common.{Result, subst}
use Rattle.disk.specs.declared.error.DiskError.{DiskError}
use Rattle.disk.specs.Calls.{CutOutcome}
use Rattle.disk.specs.Memory.{state_of}
use Rattle.disk.proofs.Agreement.{cuts_agree}
use Rattle.disk.proofs.Devices.{ends_past}
use Rattle.disk.proofs.memory.MemDiskDisk.cut.Goals as goal

-- a cut keeps the agreement
pub invariant_of-self-2 : goal.invariant_of-self-2
invariant_of-self-2 c = record {
  agrees = cuts_agree c.cut_in-answer.result (state_of c.self.inside.slots.entries)
      (state_of c.cut_in-answer.new.slots.entries)
      c.args.file c.args.length c.cut_in-answer.ensures.cuts c.cut_in-answer.ensures.other
      c.self.invariant.agrees;
  last = ends_past (state_of c.self.inside.slots.entries) c.cut_in-answer.new.slots.entries
      c.self.inside.device c.end.new.self c.cut_in-answer.result c.end.result c.end.ensures
      (λ wants. (subst (λ (answer : Result Unit DiskError). CutOutcome
      (state_of c.self.inside.slots.entries) c.args.file c.args.length answer
      (state_of c.cut_in-answer.new.slots.entries)) wants c.cut_in-answer.ensures.cuts).0)
      c.self.invariant.last;
}
