-- The last disks of a run tell the faults of its events.
use Rattle.std.specs.Prelude.{◌≡◌, ℕ, zero, suc, List, [], ◌∷◌, ◌⊎◌, Bool, Some, None, true}
use Rattle.kv_types.specs.{Edits, has}
use Rattle.disk.specs.declared.Fault.{Fault}
use Rattle.disk.specs.declared.Junk.{Junk}
use Rattle.disk.specs.{IsLastLeft, IsSame, Slots, past_states, struck_call}
use Rattle.configurations.specs.{Configurations, at_epoch}
use Rattle.chain_model.specs as model
use Rattle.chain_core.specs.{Machine}
use Rattle.events.specs.declared.EventContent.{EventContent}
use Rattle.events.specs.declared.EventKind.{EventKind}
use Rattle.lab.specs.declared.report.Report.{Report}
use Rattle.lab.specs.Disks.{DiskFollows, junk_at_end, junk_of}
use Rattle.lab.specs.Runs.{IsRun}
use Rattle.lab.specs.Events.{modelled}
use Rattle.lab.specs.SimNodes.{Choice, in_memory, incidents, state}

-- events of these kinds with these faults
abbrev pub with_faults : (ℕ → Fault) → List EventKind → List EventContent
with_faults f [] = []
with_faults f (kind ∷ kinds) =
    record { kind = kind; fault = f zero } ∷ with_faults (λ i. f (suc i)) kinds

-- two faults strike the same call, and where the node stopped leave the same junk
pub record IsSameFault (it other : Fault) (struck stopped : Bool) : Type 0 where
  pub call : struck_call it ≡ struck_call other
  pub junk : stopped ≡ true → junk_at_end it struck ≡ junk_at_end other struck

-- so do the faults of all events
abbrev pub AreSame : Configurations → ℕ → (f f' : ℕ → Fault) → List EventKind → List Choice
    → model.SystemState Edits → Type 0
AreSame cs i f f' [] choices w = Unit {0}
AreSame cs i f f' (kind ∷ kinds) [] w = Unit {0}
AreSame cs i f f' (kind ∷ kinds) (choice ∷ choices) w =
    let o = model.outcome w cs (modelled i kind choice) in
    IsSameFault (f zero) (f' zero) choice.struck o.stopped
    × AreSame cs (suc i) (λ j. f (suc j)) (λ j. f' (suc j)) kinds choices (model.after w o)

-- a node worked for its event: it stopped by itself, or runs and took it
pub record HasWorked (kind : EventKind) (o : model.Outcome Edits)
    (n : Machine) : Type 0 where
  pub took : (o.stopped ≡ true) ⊎ ((n.running ≡ true) × (o.dropped ≡ None))
  pub no_stop : junk_of kind ≡ None

-- a node of the first configuration worked for each of these events
abbrev pub AllWork : Configurations → ℕ → List EventKind → List Choice
    → model.SystemState Edits → Type 0
AllWork cs i [] choices w = Unit {0}
AllWork cs i (kind ∷ kinds) [] w = ⊥
AllWork cs i (kind ∷ kinds) (choice ∷ choices) w =
    let o = model.outcome w cs (modelled i kind choice) in
    ((x : ℕ) × (n : Machine) × (o.acted_on ≡ Some (x, n)) × HasWorked kind o n
    × (has (at_epoch cs 0) x ≡ true))
    × AllWork cs (suc i) kinds choices (model.after w o)

-- two disks have had the same
pub record HasSamePast (a b : Slots) : Type 0 where
  pub occurred : incidents a ≡ incidents b
  pub past : past_states a ≡ past_states b

-- A report is a run of events with these faults and with those, in which nodes worked: then the
-- faults are the same, as far as they did something.
abbrev pub FaultsAreDetermined : Type 0
FaultsAreDetermined = (cs : Configurations) (kinds : List EventKind) (f f' : ℕ → Fault)
    (choices : List Choice) (report : Report) →
    AllWork cs 1 kinds choices (model.first_state cs) →
    IsRun cs (with_faults f kinds) choices report →
    IsRun cs (with_faults f' kinds) choices report →
    AreSame cs 1 f f' kinds choices (model.first_state cs)

-- what two stop events with this junk and that left of a disk is one disk: then the junk is the
-- same, and so is what the disk had had
abbrev pub StopsAreDetermined : Type 0
StopsAreDetermined = (event event' : EventContent) (choice choice' : Choice)
    (o : model.Outcome Edits)
    (n : Machine) (junk junk' : Junk) (old old' new : Slots) → junk_of event.kind ≡ Some junk →
    junk_of event'.kind ≡ Some junk' → o.stopped ≡ true →
    DiskFollows in_memory event choice o n old new →
    DiskFollows in_memory event' choice' o n old' new →
    IsLastLeft (past_states old) (state old) → IsLastLeft (past_states old') (state old') →
    (junk ≡ junk') × HasSamePast old old' × IsSame (state old) (state old')
