-- A statement that is run in any world: what it adds, and how it is answered.
use Rattle.std.proofs.Common.{◌≡◌, ◌≤◌, ◌+◌, ℕ, List, [], ◌∷◌, ◌++◌, Option, length}
use Rattle.std.proofs.Common.{append_assoc, append-nil, ap, arith}
use Rattle.std.proofs.Common.{length-append, map, refl, subst, sym, ◌∙◌, ◌-◌, ◌⊎◌, inl, inr, Bool}
use Rattle.std.specs.Prelude.{IfSome, MatchOption, Some, None, if◌then◌else◌, true, false}
use Rattle.std.proofs.lemmas.List.{map-append}
use Rattle.std.proofs.lemmas.List.Elements.{All-append, All-from_recursion, All-weaker}
use Rattle.disk.specs.declared.disk.Disk.{Ghosts}
use Rattle.lab.specs.declared.Line.{Line}
use Rattle.lab.specs.declared.SimNode.{SimNode}
use Rattle.lab.specs.declared.world.World.{World}
use Rattle.carriers.specs.declared.Carrier.{Ghosts as Carriers}
use Rattle.lab.specs.{AddsLines, EventAddsLines, IsDownAmong}
use Rattle.lab.specs.{ShowsNumbers, configs_of, drops_in_steps, events_so_far, is_lost}
use Rattle.lab.specs.{lines_so_far, lost_so_far, nodes_of, sent_so_far}
use Rattle.lab.specs.NodeLists.{Configurations}
use Rattle.kv_types.specs.declared.KvError.{KvError}
use Rattle.lab.specs.EventContent as lab
use Rattle.lab.specs.Numbers.{Numbers}
use Rattle.scripts.specs.Scripts.{Names}
use Rattle.scripts.specs.declared.statement.Action.{Action}
use Rattle.scripts.specs.declared.statement.Action.TheVariants.{Event, Invalid, Flow}
use Rattle.scripts.specs.declared.statement.Action.TheVariants.{Settle, Show}
use Rattle.scripts.specs.declared.statement.Statement.{Statement}
use Rattle.client.specs.declared.statement_result.Note.TheVariants as note
use Rattle.client.specs.ScriptRuns.{IsRising, busy, delivery, left_after_event, most}
use Rattle.client.specs.ScriptRuns.{shown}
use Rattle.client.specs.declared.statement_result.StatementResult.{StatementResult}
use Rattle.client.specs.ReportedRuns.{ActionAddsLines, AreActionLines}
use Rattle.client.specs.ReportedRuns.{DeliversLeft, IsActionEvent, IsReportedIn}
use Rattle.client.specs.ReportedRuns.{RunsAction, ShowsNow, places_between}
use Rattle.client.proofs.Flowing.{frames_in_steps-more}
use Rattle.client.proofs.PlacesBetween.{none_between}
use Rattle.client.proofs.RunsActions.{runs_none}
use Rattle.client.proofs.Tends.{HasTendedOn, TellsWhetherWorked, same_more, shows_last}

-- ---- events and lines

drops_in_steps-more : (xs ys : List (List Line)) →
    drops_in_steps (xs ++ ys) ≡ drops_in_steps xs + drops_in_steps ys
drops_in_steps-more [] ys = omega arith
drops_in_steps-more (x ∷ xs) ys = omega (arith, drops_in_steps-more xs ys)

module _ {D C : Type 0} {g : Ghosts D} where
  -- no event
  pub adds_nothing : (action : Action) (world : World D C g) → ActionAddsLines action 0 world world
  adds_nothing action world = record {
    own = [];
    took = sym (append-nil (events_so_far world));
    all = λ _. refl;
    of = All-from_recursion (IsActionEvent action) [] tt;
    more = [];
    added = sym (append-nil (lines_so_far world));
    each = λ _. refl;
    pairs = refl;
    lost = sym (append-nil (lost_so_far world));
    shown = omega arith;
    few = omega arith;
    are = λ _. All-from_recursion (AreActionLines action) [] tt;
    unknown = λ _. refl;
    configs = refl;
    nodes = λ its. its;
  }

  -- one event more
  pub adds_more : (action : Action) (old mid new : World D C g) (count : ℕ) →
      ActionAddsLines action count old mid → ActionAddsLines action 1 mid new →
      ActionAddsLines action (count + 1) old new
  adds_more action old mid new count before after =
      let next = subst (λ (cs : Configurations).
      AddsLines (Names cs action) (IsActionEvent action) (AreActionLines action) 1 mid new)
      before.configs after in
      record {
        own = before.own ++ next.own;
        took = next.took ∙ ap (λ (l : List lab.EventContent). l ++ next.own) before.took
            ∙ append_assoc (events_so_far old) before.own next.own;
        all = λ named. omega (
          arith,
          length-append before.own next.own,
          before.all named,
          next.all named,
        );
        of = All-append (IsActionEvent action) before.own next.own before.of next.of;
        more = before.more ++ next.more;
        added = next.added ∙ ap (λ (l : List (List Line)). l ++ next.more) before.added
            ∙ append_assoc (lines_so_far old) before.more next.more;
        each = λ named. omega (
          arith,
          length-append before.more next.more,
          before.each named,
          next.each named,
        );
        pairs = omega (
          arith,
          length-append before.more next.more,
          length-append before.own next.own,
          before.pairs,
          next.pairs,
        );
        lost = next.lost ∙ (ap (λ (l : List Bool). l ++ map is_lost next.more) before.lost
            ∙ (append_assoc (lost_so_far old) (map is_lost before.more) (map is_lost next.more)
            ∙ ap (λ (l : List Bool). lost_so_far old ++ l)
            (sym (map-append is_lost before.more next.more))));
        shown = omega (
          arith,
          before.shown,
          next.shown,
          frames_in_steps-more before.more next.more,
        );
        few = omega (
          arith,
          before.few,
          next.few,
          frames_in_steps-more before.more next.more,
          drops_in_steps-more before.more next.more,
        );
        are = λ its. All-append (AreActionLines action) before.more next.more (before.are its)
            (next.are (before.nodes its));
        unknown = λ other. next.unknown other ∙ before.unknown other;
        configs = next.configs ∙ before.configs;
        nodes = λ its. next.nodes (before.nodes its);
      }

  -- a flow delivers a frame
  pub adds_delivery : (place : ℕ) (old new : World D C g) →
      EventAddsLines (delivery place) old new → ActionAddsLines Flow 1 old new
  adds_delivery place old new adds = record {
    own = adds.own;
    took = adds.took;
    all = adds.all;
    of = All-weaker (λ (it : lab.EventContent). it ≡ delivery place) (IsActionEvent Flow)
        (λ it is. (place, is)) adds.own adds.of;
    more = adds.more;
    added = adds.added;
    each = adds.each;
    pairs = adds.pairs;
    lost = adds.lost;
    shown = adds.shown;
    few = adds.few;
    are = adds.are;
    unknown = adds.unknown;
    configs = adds.configs;
    nodes = adds.nodes;
  }

-- nothing more than there was
pub no_more : (first more : List (List Line)) → first ≡ first ++ more → more ≡ []
no_more first [] is = refl
no_more first (step ∷ more) is =
    absurd (omega (arith, length-append first (step ∷ more), ap length is))

-- ---- a statement

busy_or_not : (left : List ℕ) (count : ℕ) → (left ≡ []) ⊎ (count ≡ most) →
    (busy left ≡ note.Nothing) ⊎ ((busy left ≡ note.Busy) × (count ≡ most))
busy_or_not [] count ends = inl refl
busy_or_not (place ∷ left) count (inl none) = absurd (omega (arith, ap length none))
busy_or_not (place ∷ left) count (inr all) = inr (refl, all)

-- another statement is no flow
no_flow : (event : lab.EventContent) → Event event ≡ Flow → ⊥
no_flow event is = absurd cc

no_settle : (node : ℕ) → Settle node ≡ Flow → ⊥
no_settle node is = absurd cc

no_invalid : (e : KvError) → Invalid e ≡ Flow → ⊥
no_invalid e is = absurd cc

no_show : (node : ℕ) → Show node ≡ Flow → ⊥
no_show node is = absurd cc

-- what is said of a node, by what a world tells of it
module _ {D : Type 0} {g : Ghosts D} (sims : List (SimNode D g)) where
  shows_now : (node : ℕ) (numbers : Option Numbers) → IfSome numbers (ShowsNumbers sims node) →
      MatchOption numbers (IsDownAmong sims node) (λ _. Unit {0}) →
      ShowsNow sims (shown node numbers)
  shows_now node None own none = none
  shows_now node (Some numbers) own none = own

  -- a flow and a settle say nothing of a node
  shows_busy : (left : List ℕ) → ShowsNow sims (busy left)
  shows_busy [] = tt
  shows_busy (place ∷ left) = tt

  shows_more : (more : Bool) → ShowsNow sims (if more then note.Busy else note.Nothing)
  shows_more true = tt
  shows_more false = tt

module _ {D C : Type 0} {g : Ghosts D} (h : Carriers C) (old new : World D C g) (it : Statement)
    (turn : StatementResult) (old_left new_left : List ℕ) where
  pub reported_event : (event : lab.EventContent) → it.action ≡ Event event →
      turn ≡ record { line = it.line; events = 1; silent = 0; note = note.Nothing } →
      EventAddsLines event old new → RunsAction h (Event event) 1 old new →
      (IsRising 0 (sent_so_far old) old_left →
      new_left ≡ left_after_event event.kind (old_left ++ places_between old new)) →
      IsReportedIn h old new it turn old_left new_left
  reported_event event is made adds runs left = rw made (record {
    answered = record { line = refl; did = rw is (refl, refl, refl) };
    shown = tt;
    adds = rw is adds;
    runs = rw is runs;
    ends = rw is (λ named. (adds.more, adds.added, tt));
    stays = λ none. absurd (omega (arith, none));
    delivers = λ flow. absurd (no_flow event (sym is ∙ flow));
    left = rw is left;
  })

  pub reported_flow : (count : ℕ) → it.action ≡ Flow →
      turn ≡ record { line = it.line; events = count; silent = 0; note = busy new_left } →
      count ≤ most → ActionAddsLines Flow count old new → (new_left ≡ []) ⊎ (count ≡ most) →
      RunsAction h Flow count old new → (count ≡ 0 → new ≡ old) →
      DeliversLeft old new old_left new_left →
      IsReportedIn h old new it turn old_left new_left
  reported_flow count is made few adds ends runs stays delivers = rw made (record {
    answered = record { line = refl; did = rw is (few, refl, busy_or_not new_left count ends) };
    shown = shows_busy (nodes_of old) new_left;
    adds = rw is adds;
    runs = rw is runs;
    ends = rw is (λ named. (adds.more, adds.added, tt));
    stays = stays;
    delivers = λ flow. (delivers, refl);
    left = rw is (λ up. delivers.left);
  })

  pub reported_settle : (node count : ℕ) (more : Bool) → it.action ≡ Settle node →
      turn ≡ record {
        line = it.line;
        events = count;
        silent = (if more then count else count - 1);
        note = (if more then note.Busy else note.Nothing);
      } → count ≤ most → ActionAddsLines (Settle node) count old new →
      (Names (configs_of old) (Settle node) → HasTendedOn (lines_so_far old) (lines_so_far new)) →
      TellsWhetherWorked (lines_so_far new) more → RunsAction h (Settle node) count old new →
      (count ≡ 0 → new ≡ old) → new_left ≡ old_left ++ places_between old new →
      IsReportedIn h old new it turn old_left new_left
  reported_settle node count more is made few adds tends told runs stays left = rw made (record {
    answered = record { line = refl; did = rw is (few, (more, refl, refl)) };
    shown = shows_more (nodes_of old) more;
    adds = rw is adds;
    runs = rw is runs;
    ends = rw is (λ named.
        let t = tends named in
        let own = same_more (lines_so_far old) adds.more t.0 (sym adds.added ∙ t.1) in (
          t.0,
          t.1,
          (
            t.2,
            shows_last (lines_so_far old) (lines_so_far new) t.0 count more t.1 t.2
                (sym (adds.each named) ∙ ap length own) told,
          ),
        ));
    stays = stays;
    delivers = λ flow. absurd (no_settle node (sym is ∙ flow));
    left = rw is (λ up. left);
  })

module _ {D C : Type 0} {g : Ghosts D} (h : Carriers C) (world : World D C g) (it : Statement)
    (turn : StatementResult) (left : List ℕ) where
  pub reported_invalid : (e : KvError) → it.action ≡ Invalid e →
      turn ≡ record { line = it.line; events = 0; silent = 0; note = note.Invalid e } →
      IsReportedIn h world world it turn left left
  reported_invalid e is made = rw made (record {
    answered = record { line = refl; did = rw is (refl, refl, refl) };
    shown = tt;
    adds = adds_nothing it.action world;
    runs = runs_none h it.action world;
    ends = rw is (λ named. ([], sym (append-nil (lines_so_far world)), tt));
    stays = λ _. refl;
    delivers = λ flow. absurd (no_invalid e (sym is ∙ flow));
    left = rw is (λ up. none_between world left);
  })

  pub reported_show : (node : ℕ) (numbers : Option Numbers) → it.action ≡ Show node →
      turn ≡ record { line = it.line; events = 0; silent = 0; note = shown node numbers } →
      IfSome numbers (ShowsNumbers (nodes_of world) node) →
      MatchOption numbers (IsDownAmong (nodes_of world) node) (λ _. Unit {0}) →
      IsReportedIn h world world it turn left left
  reported_show node numbers is made own none = rw made (record {
    answered = record { line = refl; did = rw is (refl, refl, (numbers, refl)) };
    shown = shows_now (nodes_of world) node numbers own none;
    adds = adds_nothing it.action world;
    runs = runs_none h it.action world;
    ends = rw is (λ named. ([], sym (append-nil (lines_so_far world)), tt));
    stays = λ _. refl;
    delivers = λ flow. absurd (no_show node (sym is ∙ flow));
    left = rw is (λ up. none_between world left);
  })
