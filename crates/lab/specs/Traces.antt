-- Events and the lines of each, as a run of the model by what was chosen in each.
use Rattle.std.specs.Prelude.{◌≡◌, ℕ, suc, List, [], ◌∷◌, length}
use Rattle.kv_types.specs.{Edits}
use Rattle.configurations.specs.{Configurations}
use Rattle.chain_model.specs as model
use Rattle.events.specs.declared.EventContent.{EventContent}
use Rattle.lab.specs.declared.report.Line.{Line}
use Rattle.lab.specs.Events.{modelled, reported_lines, ChoiceFits}
use Rattle.lab.specs.SimNodes.{Choice}

-- the events from place i on, as the model has them, by what was chosen in each
abbrev pub modelled_from : ℕ → List EventContent → List Choice
    → List (model.SystemEvent Edits)
modelled_from i [] choices = []
modelled_from i (event ∷ events) [] = []
modelled_from i (event ∷ events) (choice ∷ choices) =
    modelled i event.kind choice ∷ modelled_from (suc i) events choices

-- the lines of each of them, from a world on
abbrev pub lines_from : Configurations → ℕ → List EventContent → List Choice → model.SystemState
    Edits
    → List (List Line)
lines_from cs i [] choices w = []
lines_from cs i (event ∷ events) [] w = []
lines_from cs i (event ∷ events) (choice ∷ choices) w =
    let e = modelled i event.kind choice in
    reported_lines (length w.frames) event choice (model.outcome w cs e)
    ∷ lines_from cs (suc i) events choices (model.state_after cs w e)

-- what was chosen fits each of them, from a world on
abbrev pub AllFit : Configurations → ℕ → List EventContent → List Choice
    → model.SystemState Edits
    → Type 0
AllFit cs i [] choices w = Unit {0}
AllFit cs i (event ∷ events) [] w = ⊥
AllFit cs i (event ∷ events) (choice ∷ choices) w =
    let e = modelled i event.kind choice in
    ChoiceFits w.frames event choice (model.outcome w cs e)
    × AllFit cs (suc i) events choices (model.state_after cs w e)

-- By these choices, one for each event, the events are a run of the model, and each has the lines
-- of its outcome.
pub record IsTrace (cs : Configurations) (events : List EventContent) (choices : List Choice)
    (steps : List (List Line)) : Type 0 where
  pub one_each : length choices ≡ length events
  pub fits : AllFit cs 1 events choices (model.first_state cs)
  pub traced : steps ≡ lines_from cs 1 events choices (model.first_state cs)
