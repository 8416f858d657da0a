-- What of a run is printed so far, and how it ends.
use Rattle.std.proofs.Common.{◌≡◌, ◌<◌, ℕ, suc, List, [], ◌∷◌, ◌++◌, Option, length, take, drop}
use Rattle.std.proofs.Common.{replicate, refl, sym, ap, ap₂, subst, ◌∙◌, append-nil, get_or}
use Rattle.std.proofs.lemmas.Grind.{flat_map-append}
use Rattle.std.specs.Io.KnownBytes.{Appends}
use Rattle.disk.specs.declared.disk.Disk.{Ghosts}
use Rattle.carriers.specs.declared.Carrier.{Ghosts as Carriers}
use Rattle.lab.specs.declared.Line.{Line}
use Rattle.lab.specs.declared.world.World.{World}
use Rattle.lab.specs.{HasRun, WorldRun}
use Rattle.lab.specs.Worlds.{HasHistory, IsRunSoFar}
use Rattle.client.specs.declared.run_error.RunError.TheVariants.{Memory, Write}
use Rattle.scripts.specs.declared.setup.Setup.{Setup}
use Rattle.scripts.specs.declared.statement.Statement.{Statement}
use Rattle.client.specs.declared.statement_result.StatementResult.{StatementResult}
use Rattle.client.specs.PrintedRuns.{HasEndedEarly, IsPrintedRun}
use Rattle.client.specs.ScriptRuns.{HasRunTo, HasTurned, Stretch, followed_by, no_stretch, run_of}
use Rattle.client.specs.Text.{event_lines, result_text, run_text}
use Rattle.client.proofs.Printed.{texts_more}
use Rattle.store_texts.specs.Writing.{AppendsPart}
use Rattle.store_texts.specs.WritingLemmas.{appends_more, appends_none}
use Rattle.client.proofs.StatementRuns.{Goes, goes_next, goes_nowhere, gone}

module _ {D C : Type 0} {g : Ghosts D} where
  -- the first statements ran, and their text is written
  pub record Prints (h : Carriers C) (world : World D C g) (setup : Setup) (left : List ℕ)
      (done : List Statement) (places : List ℕ) (before : ℕ) (old new : Option (List ℕ))
      : Type 0 where
    pub turns : List StatementResult
    pub past : Stretch
    pub goes : Goes h world setup left done turns past
    pub at : places ≡ event_lines turns
    pub count : before ≡ length past.steps
    pub so_far : IsRunSoFar h world (run_of setup past)
    pub history : HasHistory world (run_of setup past)
    pub wrote : Appends old new (run_text turns past.steps)

module _ {D C : Type 0} {g : Ghosts D} {h : Carriers C} where
  pub prints_none : (world : World D C g) (setup : Setup) (before : ℕ) (out : Option (List ℕ)) →
      HasRunTo h world setup no_stretch → before ≡ 0 →
      IsRunSoFar h world (run_of setup no_stretch) →
      HasHistory world (run_of setup no_stretch) → Prints h world setup [] [] [] before out out
  prints_none world setup before out run none so_far history = record {
    turns = [];
    past = no_stretch;
    goes = goes_nowhere world setup run;
    at = refl;
    count = none;
    so_far = so_far;
    history = history;
    wrote = appends_none out;
  }

  -- all statements ran
  pub printed : (world : World D C g) (setup : Setup) (left : List ℕ) (done all : List Statement)
      (places : List ℕ) (before : ℕ) (old new : Option (List ℕ)) → done ≡ all →
      Prints h world setup left done places before old new → IsPrintedRun h world setup all old new
  printed world setup left done all places before old new is p = record {
    turns = p.turns;
    all = p.past;
    run = rw is at (gone world setup left done p.turns p.past p.goes p.so_far p.history);
    wrote = p.wrote;
  }

  -- memory was short at the next statement
  pub ended_in_memory : (world now : World D C g) (setup : Setup) (left : List ℕ)
      (all : List Statement) (i : ℕ) (places : List ℕ) (before : ℕ) (old new : Option (List ℕ)) →
      i < length all → Prints h world setup left (take i all) places before old new →
      HasEndedEarly h Memory now setup all old new
  ended_in_memory world now setup left all i places before old new within p = record {
    done = i;
    within = within;
    turns = p.turns;
    all = p.past;
    behind = world;
    run = gone world setup left (take i all) p.turns p.past p.goes p.so_far p.history;
    part = [];
    next = refl;
    wrote = subst (λ (l : List ℕ). Appends old new l)
        (sym (append-nil (run_text p.turns p.past.steps))) p.wrote;
  }

drop_past : (steps own : List (List Line)) → drop (length steps) (steps ++ own) ≡ own
drop_past [] own = refl
drop_past (s ∷ steps) own = drop_past steps own

-- the steps behind so many of a world's are a statement's own
own_steps : (own past steps found : List (List Line)) (before : ℕ) → before ≡ length past →
    steps ≡ past ++ own → found ≡ drop before steps → found ≡ own
own_steps own past steps found before count is behind =
    behind ∙ (ap (λ (l : List (List Line)). drop before l) is
    ∙ (ap (λ (n : ℕ). drop n (past ++ own)) count ∙ drop_past past own))

-- the places of the events of one statement more
places_more : (turns : List StatementResult) (turn : StatementResult) (old new : List ℕ) →
    old ≡ event_lines turns → new ≡ old ++ replicate turn.events turn.line →
    new ≡ event_lines (turns ++ turn ∷ [])
places_more turns turn old new was is = is
    ∙ (ap (λ (l : List ℕ). l ++ replicate turn.events turn.line) was
    ∙ (ap (λ (l : List ℕ). event_lines turns ++ l)
    (sym (append-nil (replicate turn.events turn.line)))
    ∙ sym (flat_map-append (λ (r : StatementResult). replicate r.events r.line) turns
    (turn ∷ []))))

-- the next statement was run, and its text made of its own steps
module _ {D C : Type 0} {g : Ghosts D} {h : Carriers C} (world now : World D C g) (setup : Setup)
    (left next : List ℕ)
    (all : List Statement) (i : ℕ) (d it : Statement) (turn : StatementResult)
    (places more_places : List ℕ) (before : ℕ) (steps found : List (List Line)) (text : List ℕ)
    (old mid : Option (List ℕ)) (within : i < length all) (at : it ≡ get_or all i d)
    (p : Prints h world setup left (take i all) places before old mid)
    (t : HasTurned h setup p.past it turn world now left next)
    (reports : (run : WorldRun) → HasRun h now run → steps ≡ run.steps)
    (so_far : (run : WorldRun) → HasRun h now run → IsRunSoFar h now run)
    (history : (run : WorldRun) → HasRun h now run → HasHistory now run)
    (behind : found ≡ drop before steps)
    (added : more_places ≡ places ++ replicate turn.events turn.line)
    (made : text ≡ result_text more_places turn found) where
  abbrev run_now : WorldRun
  run_now = run_of setup (followed_by p.past t.own)

  goes_more : Goes h now setup next (take (suc i) all) (p.turns ++ turn ∷ [])
      (followed_by p.past t.own)
  goes_more = goes_next world now setup left next all i d it p.turns turn p.past within at p.goes t

  at_more : more_places ≡ event_lines (p.turns ++ turn ∷ [])
  at_more = places_more p.turns turn places more_places p.at added

  own_text : text ≡ result_text (event_lines (p.turns ++ turn ∷ [])) turn t.own.steps
  own_text = made ∙ ap₂ (λ (l : List ℕ) (s : List (List Line)). result_text l turn s) at_more
      (own_steps t.own.steps p.past.steps steps found before p.count
      (reports run_now t.run.run) behind)

  -- .. of which the output took a beginning
  pub ended_in_write : (new : Option (List ℕ)) → AppendsPart mid new text →
      HasEndedEarly h Write now setup all old new
  ended_in_write new part = record {
    done = i;
    within = within;
    turns = p.turns;
    all = p.past;
    behind = world;
    run = gone world setup left (take i all) p.turns p.past p.goes p.so_far p.history;
    part = take part.count text;
    next = record {
      turn = turn;
      own = t.own;
      run = gone now setup next (take (suc i) all) (p.turns ++ turn ∷ []) (followed_by p.past t.own)
          goes_more
          (so_far run_now t.run.run) (history run_now t.run.run);
      count = part.count;
      beginning = ap (λ (l : List ℕ). take part.count l) own_text;
    };
    wrote = appends_more old mid new (run_text p.turns p.past.steps) (take part.count text)
        p.wrote part.wrote;
  }

  -- .. which was written
  pub prints_more : (new : Option (List ℕ)) → Appends mid new text →
      Prints h now setup next (take (suc i) all) more_places (length steps) old new
  prints_more new wrote = record {
    turns = p.turns ++ turn ∷ [];
    past = followed_by p.past t.own;
    goes = goes_more;
    at = at_more;
    count = ap length (reports run_now t.run.run);
    so_far = so_far run_now t.run.run;
    history = history run_now t.run.run;
    wrote = subst (λ (l : List ℕ). Appends old new l)
        (sym (texts_more [] p.turns turn p.past.steps t.own.steps p.goes.each))
        (appends_more old mid new (run_text p.turns p.past.steps) _ p.wrote
        (subst (λ (l : List ℕ). Appends mid new l) own_text wrote));
  }
