-- Reads at the last tail are fresh, by the model's theorem and the lines of each event.
use Rattle.std.proofs.Common.{◌≡◌, ℕ, suc, ◌≤◌, List, [], ◌∷◌, ◌++◌, length, take, None, true}
use Rattle.std.proofs.Common.{inl, inr, refl, sym, ap, subst, ◌∙◌, arith}
use Rattle.std.specs.Prelude.{All}
use Rattle.std.specs.List.{AllByRecursion}
use Rattle.std.proofs.lemmas.Bool.{cond_both, cond-true}
use Rattle.std.proofs.lemmas.List.Elements.{All-from_recursion, recursion_from_All}
use Rattle.kv_types.specs.{BatchContent, Edits}
use Rattle.configurations.specs.{Configurations, Lawful}
use Rattle.chain_model.specs.{Request, Response, Committed, Shows, Opened}
use Rattle.chain_model.specs.{Closed, Refused, SystemEvent as ModelEvent, SystemState, Outcome}
use Rattle.chain_model.specs.System.{Ask, Lost}
use Rattle.chain_model.specs.{StepResult, Answered, StoppedBefore, StoppedAfter, Answer, answers}
use Rattle.chain_model.specs.{as_completed, ask, first_state, outcome, reached, refused, run}
use Rattle.chain_model.specs.{state_after}
use Rattle.chain_core.specs.{Machine}
use Rattle.chain_model.specs.declared.Refusal.TheVariants.{NotRunning}
use Rattle.chain_model.specs.Freshness.{IsAtMost, ReadsFresh}
use Rattle.chain_model.specs.Retention.{KeepsEnough}
use Rattle.events.specs.declared.EventContent.{EventContent}
use Rattle.events.specs.declared.EventKind.{EventKind}
use Rattle.events.specs.declared.EventKind.TheVariants.{Get, Rows}
use Rattle.lab.specs.declared.report.Line.{Line}
use Rattle.lab.specs.Events.{arriving, modelled, reported_lines, reply_line, reply_lines}
use Rattle.lab.specs.Freshness.{AreFresh, IsTailRead, NodesKeepEnough, LineIsAtMost, LineIsFresh}
use Rattle.lab.specs.Freshness.{AreAtMost, ReadsAreFresh, ReadsLatest}
use Rattle.lab.specs.SimNodes.{Choice}
use Rattle.lab.specs.Traces.{IsTrace, lines_from, modelled_from}
use Rattle.lab.proofs.TraceLines.{IsQuiet, back, both, front, reported_have}

-- ---- lines with numbers at most s

-- a line that is no reply has none
quiet_below : (s : ℕ) → IsQuiet (LineIsAtMost s)
quiet_below s = record {
  nothing = tt;
  lost = tt;
  dropped = λ why. tt;
  started = λ x e n k. tt;
  adopted = λ x e. tt;
  forwarded = λ p from to e n. tt;
  acknowledged = λ p from to e k n. tt;
  stopped = λ x cause. tt;
  tended = λ did. tt;
}

-- a read's line has the number of the model's reply
shown_below : (s : ℕ) (kind : EventKind) (i n : ℕ) (l : List BatchContent) → n ≤ s →
    AllByRecursion (LineIsAtMost s) (reply_line kind (Shows i n l))
shown_below s (Get x key at) i n l below = (below, tt)
shown_below s (Rows x range at) i n l below = (below, tt)
shown_below s kind i n l below = tt

-- so has that of any reply
reply_below : (s : ℕ) (kind : EventKind) (r : Response Edits) → IsAtMost s r →
    AllByRecursion (LineIsAtMost s) (reply_line kind r)
reply_below s kind (Committed i n) below = (below, tt)
reply_below s kind (Shows i n l) below = shown_below s kind i n l below
reply_below s kind (Opened i n) below = (below, tt)
reply_below s kind (Closed i n) below = (tt, tt)
reply_below s kind (Refused i why) below = (tt, tt)

replies_below : (s : ℕ) (kind : EventKind) (replies : List (Response Edits)) →
    AllByRecursion (IsAtMost s) replies → AllByRecursion (LineIsAtMost s) (reply_lines kind replies)
replies_below s kind [] below = tt
replies_below s kind (r ∷ replies) below =
    both (LineIsAtMost s) (reply_line kind r) (reply_lines kind replies)
    (reply_below s kind r below.0) (replies_below s kind replies below.1)

-- these lines have no greater number than the replies of a run of the model so far
abbrev IsBounded : SystemState Edits → List (List Line) → Type 0
IsBounded w earlier = (s : ℕ) → AllByRecursion (IsAtMost s) w.replies →
    AllByRecursion (λ lines. All (LineIsAtMost s) lines) earlier

-- nor have those of one event more
bounded_more : (cs : Configurations) (w : SystemState Edits) (i : ℕ) (event : EventContent)
    (ch : Choice) (earlier : List (List Line)) → IsBounded w earlier →
    IsBounded (state_after cs w (modelled i event.kind ch)) (earlier ++ reported_lines
    (length w.frames) event ch (outcome w cs (modelled i event.kind ch)) ∷ [])
bounded_more cs w i event ch earlier bounded = λ s below.
    let o = outcome w cs (modelled i event.kind ch) in
    let lines = reported_lines (length w.frames) event ch o in
    both (λ (l : List Line). All (LineIsAtMost s) l) earlier (lines ∷ [])
    (bounded s (front (IsAtMost s) w.replies o.replies below)) (
      All-from_recursion (LineIsAtMost s) lines
          (reported_have (LineIsAtMost s) (quiet_below s) (length w.frames) event ch o
          (replies_below s event.kind o.replies (back (IsAtMost s) w.replies o.replies below))),
      tt,
    )

-- ---- a read at the last tail

-- a line that is no reply shows nothing
quiet_fresh : (earlier : List (List Line)) → IsQuiet (LineIsFresh earlier)
quiet_fresh earlier = record {
  nothing = tt;
  lost = tt;
  dropped = λ why. tt;
  started = λ x e n k. tt;
  adopted = λ x e. tt;
  forwarded = λ p from to e n. tt;
  acknowledged = λ p from to e k n. tt;
  stopped = λ x cause. tt;
  tended = λ did. tt;
}

-- the replies of an outcome to this event show what is fresh
abbrev HasFresh : List (List Line) → EventKind → Outcome Edits → Type 0
HasFresh earlier kind o = AllByRecursion (LineIsFresh earlier) (reply_lines kind o.replies)

-- a read without a number at node t has this line
shows_fresh : (earlier : List (List Line)) (kind : EventKind) (t i n : ℕ) (l : List BatchContent) →
    ReadsLatest kind t → AreAtMost n earlier →
    AllByRecursion (LineIsFresh earlier) (reply_lines kind (Shows i n l ∷ []))
shows_fresh earlier kind t i n l (inl get) below =
    subst (λ (k : EventKind). AllByRecursion (LineIsFresh earlier)
    (reply_lines k (Shows i n l ∷ []))) (sym get.1) (below, tt)
shows_fresh earlier kind t i n l (inr rows) below =
    subst (λ (k : EventKind). AllByRecursion (LineIsFresh earlier)
    (reply_lines k (Shows i n l ∷ []))) (sym rows.1) (below, tt)

-- it is a read without a number in the model
asks_latest : (i : ℕ) (kind : EventKind) (t : ℕ) (ch : Choice) → ReadsLatest kind t →
    arriving i kind ch ≡ Ask t i (Request.Read None) ch.went
asks_latest i kind t ch (inl get) = ap (λ (k : EventKind). arriving i k ch) get.1
asks_latest i kind t ch (inr rows) = ap (λ (k : EventKind). arriving i k ch) rows.1

-- the answer of a node to the read
abbrev read_by : ℕ → ℕ → Machine → Answer Edits
read_by t i n = ask t n i (Request.Read None)

module _ (cs : Configurations) (law : (es : List (ModelEvent Edits))
    → ReadsFresh cs es) where
  -- where the tail runs, what it shows is of the whole list
  ended : (es : List (ModelEvent Edits)) (kind : EventKind) (t i : ℕ)
      (earlier : List (List Line)) → IsBounded (reached cs es) earlier →
      IsTailRead cs (reached cs es) kind t → (went : StepResult) →
      ((reached cs es).nodes t).running ≡ true →
      HasFresh earlier kind (as_completed t ((reached cs es).nodes t)
      (read_by t i ((reached cs es).nodes t)) went)
  ended es kind t i earlier bounded read Answered up =
      let n = (reached cs es).nodes t in
      let sees = law es t read.tail read.epoch up in
      let is = sym (ap (λ (o : Outcome Edits). o.replies) (cond-true n.running
      (as_completed t n (read_by t i n) Answered) (answers t (refused n i NotRunning)) up))
      ∙ sees.shows i in
      let below = bounded (length n.list)
      (recursion_from_All (IsAtMost (length n.list)) (reached cs es).replies sees.before) in
      subst (λ (l : List (Response Edits)). AllByRecursion (LineIsFresh earlier)
      (reply_lines kind l)) (sym is)
      (shows_fresh earlier kind t i (length n.list) n.list read.reads
      (All-from_recursion (λ (lines : List Line). All (LineIsAtMost (length n.list)) lines) earlier
      below))
  ended es kind t i earlier bounded read StoppedBefore up = tt
  ended es kind t i earlier bounded read StoppedAfter up = tt

  -- the replies to the read that arrives, of a tail that is down too
  asked_replies : (es : List (ModelEvent Edits)) (kind : EventKind) (t i : ℕ) (ch : Choice)
      (earlier : List (List Line)) → IsBounded (reached cs es) earlier →
      IsTailRead cs (reached cs es) kind t →
      HasFresh earlier kind (outcome (reached cs es) cs (arriving i kind ch))
  asked_replies es kind t i ch earlier bounded read =
      let n = (reached cs es).nodes t in
      let asks = asks_latest i kind t ch read.reads in
      subst (λ (e : ModelEvent Edits).
      HasFresh earlier kind (outcome (reached cs es) cs e)) (sym asks)
      (cond_both n.running (as_completed t n (read_by t i n) ch.went)
      (answers t (refused n i NotRunning)) (HasFresh earlier kind)
      (ended es kind t i earlier bounded read ch.went) (λ down. (tt, tt)))

  -- one that is lost has none
  tail_replies : (es : List (ModelEvent Edits)) (kind : EventKind) (t i : ℕ) (ch : Choice)
      (earlier : List (List Line)) → IsBounded (reached cs es) earlier →
      IsTailRead cs (reached cs es) kind t →
      HasFresh earlier kind (outcome (reached cs es) cs (modelled i kind ch))
  tail_replies es kind t i ch earlier bounded read =
      cond_both ch.lost Lost (arriving i kind ch)
      (λ (e : ModelEvent Edits). HasFresh earlier kind (outcome (reached cs es) cs e))
      (λ _. tt) (λ _. asked_replies es kind t i ch earlier bounded read)

  -- the lines of the read
  tail_lines : (es : List (ModelEvent Edits)) (i : ℕ) (event : EventContent) (ch : Choice)
      (earlier : List (List Line)) → IsBounded (reached cs es) earlier → (t : ℕ) →
      IsTailRead cs (reached cs es) event.kind t →
      All (LineIsFresh earlier) (reported_lines (length (reached cs es).frames) event ch
      (outcome (reached cs es) cs (modelled i event.kind ch)))
  tail_lines es i event ch earlier bounded t read =
      let w = reached cs es in
      let o = outcome w cs (modelled i event.kind ch) in
      All-from_recursion (LineIsFresh earlier) (reported_lines (length w.frames) event ch o)
      (reported_have (LineIsFresh earlier) (quiet_fresh earlier)
      (length w.frames) event ch o
      (tail_replies es event.kind t i ch earlier bounded read))

  -- a run of one event more
  run_one : (es : List (ModelEvent Edits)) (e : ModelEvent Edits)
      (w : SystemState Edits) → run cs (es ++ e ∷ []) w ≡ state_after cs (run cs es w) e
  run_one [] e w = refl
  run_one (first ∷ es) e w = run_one es e (state_after cs w first)

  -- .. and those of all events
  all_fresh : (i : ℕ) (events : List EventContent) (chs : List Choice)
      (es : List (ModelEvent Edits)) (earlier : List (List Line)) →
      length chs ≡ length events → IsBounded (reached cs es) earlier →
      AreFresh cs i events chs (reached cs es) earlier (lines_from cs i events chs (reached cs es))
  all_fresh i [] chs es earlier same bounded = tt
  all_fresh i (event ∷ events) [] es earlier same bounded = absurd (omega arith)
  all_fresh i (event ∷ events) (ch ∷ chs) es earlier same bounded =
      let w = reached cs es in
      let e = modelled i event.kind ch in
      let lines = reported_lines (length w.frames) event ch (outcome w cs e) in
      let next = run_one es e (first_state cs) in (
        tail_lines es i event ch earlier bounded,
        subst (λ (v : SystemState Edits). AreFresh cs (suc i) events chs v
            (earlier ++ lines ∷ []) (lines_from cs (suc i) events chs v)) next
            (all_fresh (suc i) events chs (es ++ e ∷ []) (earlier ++ lines ∷ []) (omega arith)
            (subst (λ (v : SystemState Edits). IsBounded v (earlier ++ lines ∷ []))
            (sym next)
            (bounded_more cs w i event ch earlier bounded))),
      )

-- the reads of a run are fresh, by the model's law
pub reads_are_fresh : (cs : Configurations) (events : List EventContent) (choices : List Choice)
    (steps : List (List Line)) →
    ((cs : Configurations) (es : List (ModelEvent Edits)) → Lawful cs → ReadsFresh cs es) →
    Lawful cs → IsTrace cs events choices steps → ReadsAreFresh cs events choices steps
reads_are_fresh cs events choices steps law lawful trace =
    let fresh : (es : List (ModelEvent Edits)) → ReadsFresh cs es = λ es. law cs es lawful in
    record {
      machines = λ k. fresh (modelled_from 1 (take k events) choices);
      lines = subst (λ (l : List (List Line)). AreFresh cs 1 events choices (first_state cs) [] l)
          (sym trace.traced)
          (all_fresh cs fresh 1 events choices [] [] trace.one_each (λ s below. tt));
    }

-- its nodes keep what may be needed, by the model's law
pub keep_needed : (cs : Configurations) (events : List EventContent) (choices : List Choice) →
    ((cs : Configurations) (es : List (ModelEvent Edits)) → Lawful cs → KeepsEnough cs es) →
    Lawful cs → NodesKeepEnough cs events choices
keep_needed cs events choices law lawful =
    λ k. law cs (modelled_from 1 (take k events) choices) lawful
