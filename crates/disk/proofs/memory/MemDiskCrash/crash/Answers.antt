use Rattle.std.proofs.Common.{List, ap, map, refl, subst}
use Rattle.disk.specs.Moments.{AddsMoment}
use Rattle.disk.specs.States.{IsCrashOutcome, State, contents}
use Rattle.disk.specs.Memory.{Slots, past_states, state_of}
use Rattle.disk.proofs.Outcomes.{crashes_allowed}
use Rattle.disk.proofs.memory.MemDiskCrash.crash.Goals as goal

-- the synced bytes agree with the bytes that a read returned
pub returns-clause-allowed : goal.returns-clause-allowed
returns-clause-allowed c = λ honest.
    let left = state_of c.crash_in.new.slots.entries in
    subst (λ (disk : Slots). IsCrashOutcome (state_of disk.slots) (contents left)) c.self.view_is
    (crashes_allowed c.args.junk
    (state_of c.self.inside.slots.entries) left c.self.invariant.agrees c.crash_in.ensures)

-- the crash left one state more
pub returns-clause-past : goal.returns-clause-past
returns-clause-past c = λ honest.
    let left = state_of c.crash_in.new.slots.entries in
    let since : List State = map state_of c.crash.new.self.past in
    subst (λ (disk : Slots). AddsMoment (past_states disk) since left) c.self.view_is
    (left, (λ file. refl), ap (map state_of) c.crash.ensures.past)
