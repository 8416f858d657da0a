-- Events of a statement, run one after another in any world.
use Rattle.std.proofs.Common.{◌≡◌, ◌<◌, ◌+◌, ℕ, suc, List, [], ◌∷◌, ◌++◌, length, drop, ◌⊎◌}
use Rattle.std.proofs.Common.{All, Err, Ok, Result, arith, get_or, length-append, refl, subst, sym}
use Rattle.std.specs.Prelude.{OnErr}
use Rattle.std.proofs.Math.Seq.{drop-cons}
use Rattle.std.proofs.lemmas.List.Elements.{All-append, All-from_recursion}
use Rattle.disk.specs.declared.disk.Disk.{Ghosts}
use Rattle.carriers.specs.declared.Carrier.{Ghosts as Carriers}
use Rattle.lab.specs.EventContent as lab
use Rattle.lab.specs.declared.world.World.{World}
use Rattle.lab.specs.{StepsOnce, configs_of, lines_so_far}
use Rattle.lab.specs.LinesSoFar.RunsEvents.{NoEvent, OneEvent}
use Rattle.scripts.specs.Scripts.{Names}
use Rattle.scripts.specs.declared.statement.Action.{Action}
use Rattle.scripts.specs.declared.statement.Action.TheVariants.{Event, Flow, Settle}
use Rattle.scripts.specs.declared.statement.Statement.{Statement}
use Rattle.client.specs.declared.statement_result.StatementResult.{StatementResult}
use Rattle.client.specs.ReportedRuns.{ActionIsCut, DeliversUpTo, HaveWorked, IsActionEvent}
use Rattle.client.specs.ReportedRuns.{IsCutAtFirst, IsReportedIn, RunsAction, StepIsCut}
use Rattle.client.specs.ReportedRuns.{most_events}
use Rattle.client.specs.ScriptRuns.{delivery, most, tending}

-- what holds anyway holds of an error
pub on_err : {T E P : Type 0} (result : Result T E) → P → OnErr result P
on_err (Ok x) p = tt
on_err (Err e) p = p

-- a statement is of one kind
no_flow : (event : lab.EventContent) → Event event ≡ Flow → ⊥
no_flow event is = absurd cc

no_settle : (event : lab.EventContent) (node : ℕ) → Event event ≡ Settle node → ⊥
no_settle event node is = absurd cc

flow_no_settle : (node : ℕ) → Flow ≡ Settle node → ⊥
flow_no_settle node is = absurd cc

settle_no_flow : (node : ℕ) → Settle node ≡ Flow → ⊥
settle_no_flow node is = absurd cc

module _ {D C : Type 0} {g : Ghosts D} (h : Carriers C) (action : Action) where
  -- none
  pub runs_none : (world : World D C g) → RunsAction h action 0 world world
  runs_none world = record {
    events = [];
    own = All-from_recursion (IsActionEvent action) [] tt;
    each = refl;
    runs = NoEvent;
  }

  -- one more
  pub runs_more : (old mid new : World D C g) (count : ℕ) (event : lab.EventContent) →
      RunsAction h action count old mid → IsActionEvent action event →
      StepsOnce h event mid new → RunsAction h action (count + 1) old new
  runs_more old mid new count event before own step = record {
    events = before.events ++ event ∷ [];
    own = All-append (IsActionEvent action) before.events (event ∷ []) before.own
        (All-from_recursion (IsActionEvent action) (event ∷ []) (own, tt));
    each = omega (arith, before.each, length-append before.events (event ∷ []));
    runs = OneEvent before.events event mid new before.runs step;
  }

  -- only one
  pub runs_one : (old new : World D C g) (event : lab.EventContent) → IsActionEvent action event →
      StepsOnce h event old new → RunsAction h action 1 old new
  runs_one old new event own step = runs_more old old new 0 event (runs_none old) own step

  -- .. which was cut short
  cut_behind : (old mid new : World D C g) (left : List ℕ) (count : ℕ)
      (event : lab.EventContent) → count < most_events action →
      RunsAction h action count old mid → IsActionEvent action event →
      (action ≡ Flow → DeliversUpTo old mid left event) →
      ((node : ℕ) → action ≡ Settle node → Names (configs_of old) action →
      HaveWorked (lines_so_far old) (lines_so_far mid) count) → StepIsCut h event mid new →
      ActionIsCut h action left old new
  cut_behind old mid new left count event few before own order worked cut = record {
    count = count;
    few = few;
    mid = mid;
    runs = before;
    event = event;
    own = own;
    order = order;
    worked = worked;
    cut = cut;
  }

-- one of an event was
pub event_cut : {D C : Type 0} {g : Ghosts D} (h : Carriers C) (old new : World D C g)
    (left : List ℕ) (event : lab.EventContent) → StepIsCut h event old new →
    ActionIsCut h (Event event) left old new
event_cut h old new left event cut = cut_behind h (Event event) old old new left 0 event
    (omega arith) (runs_none h (Event event) old) refl
    (λ flow. absurd (no_flow event flow)) (λ node is. absurd (no_settle event node is)) cut

-- .. a flow
pub flow_cut : {D C : Type 0} {g : Ghosts D} (h : Carriers C) (old mid new : World D C g)
    (left : List ℕ) (count place : ℕ) → count < most → RunsAction h Flow count old mid →
    DeliversUpTo old mid left (delivery place) → StepIsCut h (delivery place) mid new →
    ActionIsCut h Flow left old new
flow_cut h old mid new left count place few before order cut =
    cut_behind h Flow old mid new left count (delivery place) few before (place, refl)
    (λ _. order) (λ node is. absurd (flow_no_settle node is)) cut

-- .. a settle
pub settle_cut : {D C : Type 0} {g : Ghosts D} (h : Carriers C) (node : ℕ)
    (old mid new : World D C g) (left : List ℕ) (count : ℕ) → count < most →
    RunsAction h (Settle node) count old mid →
    (Names (configs_of old) (Settle node) →
    HaveWorked (lines_so_far old) (lines_so_far mid) count) → StepIsCut h (tending node) mid new →
    ActionIsCut h (Settle node) left old new
settle_cut h node old mid new left count few before worked cut =
    cut_behind h (Settle node) old mid new left count (tending node) few before refl
    (λ flow. absurd (settle_no_flow node flow)) (λ _ is. worked) cut

-- a statement that was cut is the first of all that are left
pub cut_at_first : {D C : Type 0} {g : Ghosts D} (h : Carriers C) (all : List Statement) (i : ℕ)
    (d it : Statement) (left : List ℕ) (old new : World D C g) → i < length all →
    it ≡ get_or all i d → ActionIsCut h it.action left old new
    ⊎ ((turn : StatementResult) × (next : List ℕ) × IsReportedIn h old new it turn left next) →
    IsCutAtFirst h (drop i all) left old new
cut_at_first {D = D} {C = C} {g = g} h all i d it left old new within at cut =
    subst (λ (l : List Statement). IsCutAtFirst h l left old new) (sym (drop-cons all i d within))
    (subst (λ (x : Statement). IsCutAtFirst h (x ∷ drop (suc i) all) left old new) at cut)
