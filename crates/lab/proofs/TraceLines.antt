-- What holds of each line of a run, where it holds of its replies and of every other line.
use Rattle.std.proofs.Common.{ℕ, suc, Bool, List, [], ◌∷◌, ◌++◌, length, Option, Some, None}
use Rattle.std.specs.List.{AllByRecursion}
use Rattle.std.proofs.lemmas.Bool.{cond_both}
use Rattle.kv_types.specs.{Edits}
use Rattle.chain_model.specs.{Message, Forward, Ack, Outcome}
use Rattle.chain_model.specs.declared.DropReason.{DropReason}
use Rattle.chain_core.specs.{Machine}
use Rattle.engine.specs.Tended.{Tended}
use Rattle.node.specs.declared.Stop.{Stop as Cause}
use Rattle.events.specs.declared.EventContent.{EventContent}
use Rattle.events.specs.declared.EventKind.{EventKind}
use Rattle.events.specs.declared.EventKind.TheVariants.{Notice, Tend, Start}
use Rattle.lab.specs.declared.report.Line.{Line}
use Rattle.lab.specs.declared.report.Line.TheVariants as line
use Rattle.lab.specs.Events.{lines_at, lines_if, dropped_lines, if_adopted, if_started}
use Rattle.lab.specs.Events.{arrived, first_arrives, if_tended, later_arrivals, reported_lines}
use Rattle.lab.specs.Events.{turn_trace, frame_lines, reply_lines, reported_cause}
use Rattle.lab.specs.SimNodes.{Choice}

-- it holds of each line that is no reply
pub record IsQuiet (Of : Line → Type 0) : Type 0 where
  pub nothing : Of line.Nothing
  pub lost : Of line.Lost
  pub dropped : (why : DropReason) → Of (line.Dropped why)
  pub started : (x e n k : ℕ) → Of (line.Started x e n k)
  pub adopted : (x e : ℕ) → Of (line.Adopted x e)
  pub forwarded : (p from to e n : ℕ) → Of (line.Forwarded p from to e n)
  pub acknowledged : (p from to e k n : ℕ) → Of (line.Acknowledged p from to e k n)
  pub stopped : (x : ℕ) (cause : Option Cause) → Of (line.Stopped x cause)
  pub tended : (did : Tended) → Of (line.Tended did)

-- of a joined list, each of both
pub both : {A : Type 0} (P : A → Type 0) (xs ys : List A) → AllByRecursion P xs →
    AllByRecursion P ys → AllByRecursion P (xs ++ ys)
both P [] ys a b = b
both P (x ∷ xs) ys a b = (a.0, both P xs ys a.1 b)

pub front : {A : Type 0} (P : A → Type 0) (xs ys : List A) → AllByRecursion P (xs ++ ys) →
    AllByRecursion P xs
front P [] ys all = tt
front P (x ∷ xs) ys all = (all.0, front P xs ys all.1)

pub back : {A : Type 0} (P : A → Type 0) (xs ys : List A) → AllByRecursion P (xs ++ ys) →
    AllByRecursion P ys
back P [] ys all = all
back P (x ∷ xs) ys all = back P xs ys all.1

module _ (Of : Line → Type 0) (quiet : IsQuiet Of) where
  -- it holds of each of these lines
  abbrev Each : List Line → Type 0
  Each lines = AllByRecursion Of lines

  dropped : (why : Option DropReason) → Each (dropped_lines why)
  dropped None = tt
  dropped (Some why) = (quiet.dropped why, tt)

  if_start : (why : Option DropReason) (at : Option (ℕ × Machine)) → Each (if_started why at)
  if_start None None = tt
  if_start None (Some at) =
      (quiet.started at.0 at.1.epoch (length at.1.list) at.1.committed, tt)
  if_start (Some why) at = tt

  if_adopts : (why : Option DropReason) (at : Option (ℕ × Machine)) → Each (if_adopted why at)
  if_adopts None None = tt
  if_adopts None (Some at) = (quiet.adopted at.0 at.1.epoch, tt)
  if_adopts (Some why) at = tt

  if_tend : (why : Option DropReason) (did : Tended) → Each (if_tended why did)
  if_tend None did = (quiet.tended did, tt)
  if_tend (Some why) did = tt

  sent : (n : ℕ) (frames : List (Message Edits)) → Each (frame_lines n frames)
  sent n [] = tt
  sent n (Forward to epoch from number batch ∷ frames) =
      (quiet.forwarded (suc n) from to epoch number, sent (suc n) frames)
  sent n (Ack to epoch from committed have ∷ frames) =
      (quiet.acknowledged (suc n) from to epoch committed have, sent (suc n) frames)

  turns : (kind : EventKind) (choice : Choice) (o : Outcome Edits) →
      Each (turn_trace kind choice o)
  turns (Notice x epoch) choice o = if_adopts o.dropped o.acted_on
  turns (Tend x) choice o = if_tend o.dropped choice.tended
  turns (Start x) choice o = if_start o.dropped o.acted_on
  turns kind choice o = tt

  -- the lines of an event at a node
  lines_have_at : (x n : ℕ) (event : EventContent) (choice : Choice) (o : Outcome Edits) →
      Each (reply_lines event.kind o.replies) → Each (lines_at x n event choice o)
  lines_have_at x n event choice o have =
      let kind = event.kind in
      let replies = reply_lines kind o.replies in
      let cause = reported_cause kind event.fault choice in
      cond_both o.stopped (line.Stopped x cause ∷ [])
      (dropped_lines o.dropped ++ (turn_trace kind choice o ++ (frame_lines n o.frames ++ replies)))
      Each (λ stops. (quiet.stopped x cause, tt))
      (λ goes_on. both Of (dropped_lines o.dropped)
      (turn_trace kind choice o ++ (frame_lines n o.frames ++ replies)) (dropped o.dropped)
      (both Of (turn_trace kind choice o) (frame_lines n o.frames ++ replies)
      (turns kind choice o)
      (both Of (frame_lines n o.frames) replies (sent n o.frames) have)))

  -- so do those of an event that was for none
  lines_have : (at : Option (ℕ × Machine)) (n : ℕ) (event : EventContent) (choice : Choice)
      (o : Outcome Edits) → Each (reply_lines event.kind o.replies) →
      Each (lines_if at n event choice o)
  lines_have None n event choice o have = (quiet.nothing, tt)
  lines_have (Some at) n event choice o have = lines_have_at at.0 n event choice o have

  -- so do those of them that arrive
  arrived_have : (told : List Bool) (lines : List Line) → Each lines → Each (arrived told lines)
  arrived_have told [] all = tt
  arrived_have told (line.Replied reply ∷ lines) all =
      let later = arrived_have (later_arrivals told) lines all.1 in
      cond_both (first_arrives told) (line.Replied reply ∷ arrived (later_arrivals told) lines)
      (arrived (later_arrivals told) lines) Each (λ _. (all.0, later)) (λ _. later)
  arrived_have told (other ∷ lines) all = (all.0, arrived_have told lines all.1)

  -- and those of an event that may be lost
  pub reported_have : (n : ℕ) (event : EventContent) (choice : Choice) (o : Outcome Edits) →
      Each (reply_lines event.kind o.replies) → Each (reported_lines n event choice o)
  reported_have n event choice o have =
      let lines = lines_if o.acted_on n event choice o in
      cond_both choice.lost (line.Lost ∷ []) (arrived choice.told lines) Each
      (λ _. (quiet.lost, tt))
      (λ _. arrived_have choice.told lines (lines_have o.acted_on n event choice o have))
