-- From the model's one list of batches to what the lines of a report say.
use Rattle.std.proofs.Common.{◌≡◌, ℕ, suc, List, [], ◌∷◌, length}
use Rattle.std.proofs.Common.{inl, inr, refl, ap, subst, arith}
use Rattle.std.specs.Prelude.{◌⊎◌}
use Rattle.std.proofs.lemmas.Bool.{cond_both}
use Rattle.std.specs.List.{All, AllZip, AllByRecursion, flat_map}
use Rattle.std.proofs.lemmas.List.Elements.{All-from_recursion}
use Rattle.kv_types.specs.{BatchContent, Edits, Part, map_of}
use Rattle.kv_types.specs.Pages.{IsPage, PagesAgree, page_of}
use Rattle.configurations.specs.{Configurations}
use Rattle.chain_model.specs.{IsRepeat, ResponseAgrees, numbered}
use Rattle.chain_model.specs.{submitted, Response, Committed, Shows, Opened, Closed, Refused}
use Rattle.chain_model.specs.{SystemEvent as ModelEvent, SystemState, Outcome, outcome, outcomes}
use Rattle.chain_model.specs.{state_after}
use Rattle.chain_model.specs.System.{Lost}
use Rattle.events.specs.declared.EventContent.{EventContent}
use Rattle.events.specs.declared.EventKind.{EventKind}
use Rattle.events.specs.declared.EventKind.TheVariants.{Submit, Get, Rows}
use Rattle.lab.specs.declared.report.Line.{Line}
use Rattle.lab.specs.Events.{arriving, modelled, reported_lines, reply_line, reply_lines}
use Rattle.lab.specs.SimNodes.{Choice}
use Rattle.lab.specs.Traces.{modelled_from, lines_from}
use Rattle.lab.specs.History.{IsRepeatOf, LineAgrees, Placed}
use Rattle.lab.proofs.Submits.{part_behind, submitted_from, was_submitted, with_batch}
use Rattle.lab.proofs.TraceLines.{IsQuiet, back, both, front, reported_have}

-- ---- events

-- requests have the numbers of their events' places
pub numbered_same : (i : ℕ) (events : List EventContent) (chs : List Choice) →
    numbered i (modelled_from i events chs) ≡ modelled_from i events chs
numbered_same i [] chs = refl
numbered_same i (event ∷ events) [] = refl
numbered_same i (event ∷ events) (ch ∷ chs) =
    let later = numbered_same (suc i) events chs in
    cond_both ch.lost Lost (arriving i event.kind ch) Numbered
    (λ _. ap (λ (l : List (ModelEvent Edits)). Lost ∷ l) later) (λ _. one event.kind later)
  where
    Numbered : ModelEvent Edits → Type 0
    Numbered e = numbered i (e ∷ modelled_from (suc i) events chs) ≡ e ∷ modelled_from (suc i)
        events chs

    one : (kind : EventKind) →
        numbered (suc i) (modelled_from (suc i) events chs) ≡ modelled_from (suc i) events chs
        → Numbered (arriving i kind ch)
    one (Submit x batch) later
        = ap (λ (l : List (ModelEvent Edits)). arriving i (Submit x batch) ch ∷ l) later
    one kind later = ap (λ (l : List (ModelEvent Edits)). arriving i kind ch ∷ l) later

-- the model's events submit what the events submit, without what was lost
pub submitted_part : (i : ℕ) (events : List EventContent) (chs : List Choice) →
    length chs ≡ length events →
    Part (submitted i (modelled_from i events chs)) (submitted_from i events)
submitted_part i [] chs same = tt
submitted_part i (event ∷ events) [] same = absurd (omega arith)
submitted_part i (event ∷ events) (ch ∷ chs) same =
    let later = submitted_part (suc i) events chs (omega arith) in
    cond_both ch.lost Lost (arriving i event.kind ch) (Submits event.kind)
    (λ _. lost event.kind later) (λ _. one event.kind later)
  where
    Submits : EventKind → ModelEvent Edits → Type 0
    Submits kind e = Part (submitted i (e ∷ modelled_from (suc i) events chs))
        (with_batch i kind (submitted_from (suc i) events))

    Later : Type 0
    Later = Part (submitted (suc i) (modelled_from (suc i) events chs))
        (submitted_from (suc i) events)

    lost : (kind : EventKind) → Later → Submits kind Lost
    lost (Submit x batch) later = part_behind (i, batch)
        (submitted (suc i) (modelled_from (suc i) events chs)) (submitted_from (suc i) events) later
    lost kind later = later

    one : (kind : EventKind) → Later → Submits kind (arriving i kind ch)
    one (Submit x batch) later = inl (refl, later)
    one kind later = later

-- ---- lines

-- each of these lines agrees with B
abbrev Each : List EventContent → List Placed → EventKind → List Line → Type 0
Each all B kind lines = AllByRecursion (LineAgrees all B kind) lines

-- a line that is no reply says nothing of it
quiet : (all : List EventContent) (B : List Placed) (kind : EventKind) →
    IsQuiet (LineAgrees all B kind)
quiet all B kind = record {
  nothing = tt;
  lost = tt;
  dropped = λ why. tt;
  started = λ x e n k. tt;
  adopted = λ x e. tt;
  forwarded = λ p from to e n. tt;
  acknowledged = λ p from to e k n. tt;
  stopped = λ x cause. tt;
  tended = λ did. tt;
}

-- Pages are those of the function, by its law. The batches that the model was asked for are among
-- those that all events submit.
module _ (pages : PagesAgree) (all : List EventContent) (asked : List Placed)
    (part : Part asked (submitted_from 1 all)) where
  -- a batch that the model was asked for again was submitted again
  again : (i : ℕ) (placed : Placed) → (placed.0 ≡ i) ⊎ IsRepeat asked i placed →
      (placed.0 ≡ i) ⊎ IsRepeatOf all i placed
  again i placed (inl own) = inl own
  again i placed (inr it) = inr (record {
    earlier = it.earlier;
    mark = it.mark;
    bears = it.bears;
    batch = it.batch;
    submits = was_submitted asked all part (i, it.batch) it.submits;
    same = it.same;
  })

  -- a read's reply agrees with B where the model's does
  shown : (B : List Placed) (kind : EventKind) (i s : ℕ) (l : List BatchContent) →
      ResponseAgrees asked B (Shows i s l) → Each all B kind (reply_line kind (Shows i s l))
  shown B (Get x key at) i s l agrees =
      ((agrees.0, ap (λ (m : List BatchContent). map_of m key) agrees.1), tt)
  shown B (Rows x range at) i s l agrees = (
    (
      agrees.0,
      subst (λ (m : List BatchContent). IsPage (map_of m) range (page_of l range)) agrees.1
          (pages l range),
    ),
    tt,
  )
  shown B kind i s l agrees = tt

  -- a reply agrees with B where the model's does
  agrees_by : (B : List Placed) (kind : EventKind) (r : Response Edits) →
      ResponseAgrees asked B r → Each all B kind (reply_line kind r)
  agrees_by B kind (Committed i n) agrees =
      ((agrees.0, agrees.1.0, again i agrees.0 agrees.1.1), tt)
  agrees_by B kind (Shows i s l) agrees = shown B kind i s l agrees
  agrees_by B kind (Opened i s) agrees = (tt, tt)
  agrees_by B kind (Closed i s) agrees = (tt, tt)
  agrees_by B kind (Refused i why) agrees = (agrees, tt)

  replied : (B : List Placed) (kind : EventKind) (replies : List (Response Edits)) →
      AllByRecursion (ResponseAgrees asked B) replies → Each all B kind (reply_lines kind replies)
  replied B kind [] agree = tt
  replied B kind (r ∷ replies) agree =
      both (LineAgrees all B kind) (reply_line kind r) (reply_lines kind replies)
      (agrees_by B kind r agree.0) (replied B kind replies agree.1)

  -- the lines of all events agree with B where the replies of their outcomes do
  pub all_agree : (B : List Placed) (cs : Configurations) (i : ℕ) (events : List EventContent)
      (chs : List Choice) (w : SystemState Edits) → length chs ≡ length events
      → AllByRecursion (ResponseAgrees asked B) (flat_map (λ (o : Outcome Edits). o.replies)
      (outcomes cs (modelled_from i events chs) w))
      → AllZip (λ event lines. All (LineAgrees all B event.kind) lines) events
      (lines_from cs i events chs w)
  all_agree B cs i [] chs w same agree = tt
  all_agree B cs i (event ∷ events) [] w same agree = absurd (omega arith)
  all_agree B cs i (event ∷ events) (ch ∷ chs) w same agree =
      let e = modelled i event.kind ch in
      let o = outcome w cs e in
      let n = length w.frames in
      let later = flat_map (λ (p : Outcome Edits). p.replies)
      (outcomes cs (modelled_from (suc i) events chs) (state_after cs w e)) in (
        All-from_recursion (LineAgrees all B event.kind) (reported_lines n event ch o)
            (reported_have (LineAgrees all B event.kind) (quiet all B event.kind) n event ch o
            (replied B event.kind o.replies
            (front (ResponseAgrees asked B) o.replies later agree))),
        all_agree B cs (suc i) events chs (state_after cs w e) (omega arith)
            (back (ResponseAgrees asked B) o.replies later agree),
      )
