-- Statements that are run and printed in any world, one after another.
use Rattle.std.proofs.Common.{◌≡◌, ◌<◌, ℕ, suc, List, [], ◌∷◌, ◌++◌, Option, length}
use Rattle.std.proofs.Common.{take, drop, replicate, get_or, append_assoc, append-nil, ap, arith}
use Rattle.std.proofs.Common.{refl, subst, sym, ◌∙◌}
use Rattle.std.proofs.Math.Seq.{take-suc}
use Rattle.std.specs.Io.KnownBytes.{Appends}
use Rattle.disk.specs.declared.disk.Disk.{Ghosts}
use Rattle.lab.specs.declared.Line.{Line}
use Rattle.lab.specs.declared.world.World.{World}
use Rattle.carriers.specs.declared.Carrier.{Ghosts as Carriers}
use Rattle.lab.specs.{HasItsNodes, configs_of}
use Rattle.lab.specs.{lines_so_far, sent_so_far}
use Rattle.lab.specs.NodeLists.{Configurations}
use Rattle.scripts.specs.declared.statement.Statement.{Statement}
use Rattle.client.specs.declared.run_error.RunError.TheVariants.{Memory, Write}
use Rattle.client.specs.ScriptRuns.{IsRising, left_after}
use Rattle.client.specs.declared.statement_result.StatementResult.{StatementResult}
use Rattle.store_texts.specs.Writing.{AppendsPart}
use Rattle.client.specs.ReportedRuns.{AreLinesOf, AreReported}
use Rattle.client.specs.ReportedRuns.{IsCutAtFirst, IsReportedIn}
use Rattle.client.specs.ReportedRuns.{ReportIsCut, ReportIsPrinted, places_between}
use Rattle.client.specs.ReportedRuns.AreReported.{NoStatement, OneMore}
use Rattle.client.specs.Text.{result_text}
use Rattle.client.proofs.PlacesBetween.{left_rises_on}
use Rattle.store_texts.specs.WritingLemmas.{appends_more, appends_none}
use Rattle.client.proofs.ReportedLemmas.{no_more}
use Rattle.client.proofs.Tends.{ends_own}

-- ---- texts

drop_first : (first own : List (List Line)) → drop (length first) (first ++ own) ≡ own
drop_first [] own = refl
drop_first (s ∷ first) own = drop_first first own

-- the lines behind so many of a world's are an event's own
own_lines : (first own steps found : List (List Line)) (before : ℕ) → before ≡ length first →
    steps ≡ first ++ own → found ≡ drop before steps → found ≡ own
own_lines first own steps found before count is behind =
    behind ∙ (ap (λ (l : List (List Line)). drop before l) is
    ∙ (ap (λ (n : ℕ). drop n (first ++ own)) count ∙ drop_first first own))

-- ---- statements

no_write : Memory ≡ Write → ⊥
no_write is = absurd cc

no_memory : Write ≡ Memory → ⊥
no_memory is = absurd cc

module _ {D C : Type 0} {g : Ghosts D} (h : Carriers C) where
  -- the first statements were run in a world and printed
  pub record ReportsSoFar (first now : World D C g) (left : List ℕ) (done : List Statement)
      (places : List ℕ) (before : ℕ) (old new : Option (List ℕ)) : Type 0 where
    pub steps : List (List Line)
    pub text : List ℕ
    pub are : AreReported h first now left done places steps text
    pub rising : IsRising 0 (sent_so_far now) left
    pub configs : configs_of now ≡ configs_of first
    pub nodes : HasItsNodes first → HasItsNodes now
    pub added : lines_so_far now ≡ lines_so_far first ++ steps
    pub count : before ≡ length (lines_so_far now)
    pub wrote : Appends old new text

  pub reports_none : (world : World D C g) (before : ℕ) (out : Option (List ℕ)) →
      before ≡ length (lines_so_far world) → ReportsSoFar world world [] [] [] before out out
  reports_none world before out count = record {
    steps = [];
    text = [];
    are = NoStatement;
    rising = omega arith;
    configs = refl;
    nodes = λ its. its;
    added = sym (append-nil (lines_so_far world));
    count = count;
    wrote = appends_none out;
  }

  -- the run ended for memory behind them, at the next statement
  pub cut_in_memory : (first world now : World D C g) (left : List ℕ) (all : List Statement) (i : ℕ)
      (places : List ℕ) (before : ℕ) (old new : Option (List ℕ)) → i < length all →
      ReportsSoFar first world left (take i all) places before old new →
      IsCutAtFirst h (drop i all) left world now → ReportIsCut h Memory first now all old new
  cut_in_memory first world now left all i places before old new within r kept = record {
    count = i;
    within = within;
    behind = world;
    left = left;
    places = places;
    steps = r.steps;
    text = r.text;
    are = r.are;
    added = r.added;
    part = [];
    wrote = subst (λ (l : List ℕ). Appends old new l) (sym (append-nil r.text)) r.wrote;
    memory = λ _. (refl, kept);
    output = λ is. absurd (no_write is);
  }

  -- all statements were run
  pub all_reported : (first now : World D C g) (left : List ℕ) (done all : List Statement)
      (places : List ℕ) (before : ℕ) (old new : Option (List ℕ)) → done ≡ all →
      ReportsSoFar first now left done places before old new →
      ReportIsPrinted h first now all old new
  all_reported first now left done all places before old new is r = record {
    left = left;
    places = places;
    steps = r.steps;
    text = r.text;
    are = subst (λ (l : List Statement).
        AreReported h first now left l places r.steps r.text) is r.are;
    added = r.added;
    wrote = r.wrote;
  }

-- the next statement was run, and its text made of its own lines
module _ {D C : Type 0} {g : Ghosts D} (h : Carriers C) (first world now : World D C g)
    (left next : List ℕ)
    (all : List Statement) (i : ℕ) (d it : Statement) (turn : StatementResult)
    (places more_places : List ℕ) (before : ℕ) (steps found : List (List Line)) (text : List ℕ)
    (old mid : Option (List ℕ)) (within : i < length all) (at : it ≡ get_or all i d)
    (r : ReportsSoFar h first world left (take i all) places before old mid)
    (is : IsReportedIn h world now it turn left next) (reports : steps ≡ lines_so_far now)
    (behind : found ≡ drop before steps)
    (added : more_places ≡ places ++ replicate turn.events turn.line)
    (made : text ≡ result_text more_places turn found) where
  -- its lines, by the configurations that the world had at first
  own_lines_are : AreLinesOf (configs_of first) (HasItsNodes first) it turn is.adds.more
  own_lines_are = subst (λ (cs : Configurations).
      AreLinesOf cs (HasItsNodes first) it turn is.adds.more) r.configs (record {
        each = is.adds.each;
        ends = λ named. ends_own it.action turn (lines_so_far world) (lines_so_far now)
            is.adds.more is.adds.added (is.ends named);
        are = λ its. is.adds.are (r.nodes its);
        unknown = λ other. no_more (lines_so_far world) is.adds.more
            (sym (ap lines_so_far (is.adds.unknown other)) ∙ is.adds.added);
      })

  -- .. and what is left then
  left_now : next ≡ left_after it.action (left ++ places_between world now)
  left_now = is.left r.rising

  one_more : AreReported h first now next (take (suc i) all) more_places
      (r.steps ++ is.adds.more) (r.text ++ text)
  one_more =
      let own = own_lines (lines_so_far world) is.adds.more steps found before r.count
      (reports ∙ is.adds.added) behind in
      let same : text ≡ result_text (places ++ replicate turn.events turn.line) turn is.adds.more =
      rw (made, own, added) refl in
      rw (take-suc all i d within, ← at, same, added)
      (OneMore world now left next (take i all) places r.steps r.text r.are it turn is.adds.more is
      left_now is.adds.added own_lines_are)

  added_more : lines_so_far now ≡ lines_so_far first ++ (r.steps ++ is.adds.more)
  added_more = is.adds.added ∙ ap (λ (l : List (List Line)). l ++ is.adds.more) r.added
      ∙ append_assoc (lines_so_far first) r.steps is.adds.more

  -- .. of which the output took a beginning
  pub cut_in_output : (new : Option (List ℕ)) → AppendsPart mid new text →
      ReportIsCut h Write first now all old new
  cut_in_output new part = record {
    count = i;
    within = within;
    behind = world;
    left = left;
    places = places;
    steps = r.steps;
    text = r.text;
    are = r.are;
    added = r.added;
    part = take part.count text;
    wrote = appends_more old mid new r.text (take part.count text) r.wrote part.wrote;
    memory = λ is. absurd (no_memory is);
    output = λ _. record {
      left = next;
      places = more_places;
      steps = r.steps ++ is.adds.more;
      next = text;
      are = one_more;
      added = added_more;
      beginning = part.count;
      is = refl;
    };
  }

  -- .. which was written
  pub reports_more : (new : Option (List ℕ)) → Appends mid new text →
      ReportsSoFar h first now next (take (suc i) all) more_places (length steps) old new
  reports_more new wrote = record {
    steps = r.steps ++ is.adds.more;
    text = r.text ++ text;
    are = one_more;
    rising = left_rises_on world now it.action left next (omega (arith, is.adds.shown)) r.rising
        left_now;
    configs = is.adds.configs ∙ r.configs;
    nodes = λ its. is.adds.nodes (r.nodes its);
    added = added_more;
    count = ap length reports;
    wrote = appends_more old mid new r.text text r.wrote wrote;
  }
