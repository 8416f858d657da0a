use Rattle.std.proofs.Common.{List, map, refl, subst}
use Rattle.disk.specs.States.{State, IsSame}
use Rattle.disk.specs.Faults.{CallPasses, fault_of}
use Rattle.disk.specs.Memory.{IsReliable, Slots, past_states, state_of}
use Rattle.disk.proofs.Devices.{fail_passes}
use Rattle.disk.proofs.memory.MemDiskDisk.sync.Goals as goal

-- a sync that was begun has no effect
pub returns-then-strikes_next-clause-passes : goal.returns-then-strikes_next-clause-passes
returns-then-strikes_next-clause-passes c = λ honest.
    let slots = c.self.inside.slots.entries in
    let fail = c.fail-then-strikes_next in
    let since : List State = map state_of fail.new.self.past in
    subst (λ (disk : Slots). CallPasses (past_states disk) since (fault_of disk.incidents)
    (IsReliable disk)
    fail.result (state_of disk.slots) (state_of slots) (λ _. IsSame (state_of disk.slots)))
    c.self.view_is
    (fail_passes _ slots c.self.inside.device fail.new.self fail.result _
    (λ _. IsSame (state_of slots)) fail.ensures (λ file. refl))
