-- What was chosen to rise in an event, and that nothing rises in one that is no tend.
use Rattle.std.proofs.Common.{◌≡◌, ℕ, Bool, [], true, false, refl, sym, ◌∙◌}
use Rattle.std.proofs.lemmas.Bool.{false≢true}
use Rattle.std.specs.Prelude.{Option}
use Rattle.kv_types.specs.{Edits}
use Rattle.disk.specs.declared.Disk.{Ghosts}
use Rattle.chain_model.specs.{Answered, Outcome}
use Rattle.chain_core.specs.{Machine}
use Rattle.engine.specs.Tended.{Tended}
use Rattle.engine.specs.Tended.TheVariants as tended
use Rattle.node.specs.declared.Output.{Output}
use Rattle.node.specs.declared.Stop.{Stop as Cause}
use Rattle.node.specs.declared.Stop.TheVariants.{Disk}
use Rattle.lab.specs.declared.input.StepOutcome.{StepOutcome}
use Rattle.lab.specs.declared.input.StepOutcome.TheVariants as done
use Rattle.events.specs.declared.EventKind.{EventKind}
use Rattle.lab.specs.declared.node_state.NodeState.{NodeState}
use Rattle.lab.specs.Events.{RiseFits}
use Rattle.lab.specs.Outcomes.{rises_in}
use Rattle.lab.specs.SimNodes.{Choice}

-- where the outcome is a tend's, the floor was chosen to rise as the node's facts tell
abbrev pub RaisesAsTold : {D : Type 0} {g : Ghosts D} → ℕ → Machine → NodeState D g → Choice
    → StepOutcome → Type 0
RaisesAsTold x n new choice did =
    (answer : Tended) → did ≡ done.Tended answer → choice.rises ≡ rises_in x n new

-- the outcome is no tend's
abbrev pub IsNoTend : StepOutcome → Type 0
IsNoTend did = (answer : Tended) → did ≡ done.Tended answer → ⊥

-- nothing was chosen to rise
abbrev pub ChoosesNoRise : Choice → Type 0
ChoosesNoRise choice = (choice.rises ≡ false) × (choice.gives_up ≡ 0)

-- that fits every event
pub no_rise : (kind : EventKind) (choice : Choice) (o : Outcome Edits) →
    ChoosesNoRise choice → RiseFits kind choice o
no_rise kind choice o none = record {
  rises = λ rises. absurd (false≢true (sym none.0 ∙ rises));
  rests = λ rests. none.1;
}

-- an answer, a start and a stop are no tends
pub no_answer : {did : StepOutcome} {output : Output} → did ≡ done.Answered output → IsNoTend did
no_answer is answer other = cc

pub no_stop : {did : StepOutcome} {traced : Option Cause} → did ≡ done.Stopped traced → IsNoTend did
no_stop is answer other = cc

pub no_start : {did : StepOutcome} {epoch count committed : ℕ} →
    did ≡ done.Started epoch count committed → IsNoTend did
no_start is answer other = cc

-- the choice in an event for which no node does anything, lost or not
abbrev pub at_rest : Bool → Choice
at_rest lost = record {
  went = Answered;
  struck = false;
  cause = Disk;
  tended = tended.Idle;
  rises = false;
  gives_up = 0;
  lost = lost;
  told = [];
}

-- where nothing may be lost, nothing was
pub not_lost : (lost : Bool) → (lost ≡ true → ⊥) → lost ≡ false
not_lost true none = absurd (none refl)
not_lost false none = refl
