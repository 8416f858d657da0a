-- A node stands as the lines of an event tell that it took.
use Rattle.std.proofs.Common.{◌≤◌, ℕ, suc, List, [], ◌∷◌, ◌++◌, length, Option, Some, None}
use Rattle.std.proofs.Common.{append-nil, arith, refl, subst, sym}
use Rattle.std.specs.Prelude.{◌↔◌}
use Rattle.disk.specs.declared.disk.Disk.{Ghosts}
use Rattle.chain_model.specs.declared.DropReason.{DropReason}
use Rattle.chain_core.specs.declared.Sent.{Sent}
use Rattle.link_messages.specs.declared.Frame.{Frame}
use Rattle.link_messages.specs.declared.Frame.TheVariants as frame
use Rattle.node.specs.declared.Reply.{Reply}
use Rattle.carriers.specs.{Transmission}
use Rattle.lab.specs.declared.input.StepOutcome.{StepOutcome}
use Rattle.lab.specs.declared.input.StepOutcome.TheVariants as done
use Rattle.lab.specs.declared.node_state.NodeState.{NodeState}
use Rattle.lab.specs.declared.report.Line.{Line}
use Rattle.lab.specs.declared.report.Line.TheVariants as line
use Rattle.lab.specs.Arrivals.{RepliesFollow, replies_heard}
use Rattle.lab.specs.Events.{dropped_lines}
use Rattle.lab.specs.LinesSoFar.{StandsAfter}
use Rattle.lab.specs.Dispatches.{StandsByOutcome}
use Rattle.lab.specs.OutcomeLines.{adopted_lines, own_lines, replies_by, sent_as, sent_lines}
use Rattle.lab.specs.SimNodes.{IsDown}
use Rattle.lab.proofs.Arrivals.{few_heard, replied}

module _ {D : Type 0} {g : Ghosts D} (x : ℕ) (old new : NodeState D g)
    (same : IsDown new ↔ IsDown old) where
  -- no line of an answer tells that its node started or stopped
  by_frame : (p to : ℕ) (it : Frame) (rest : List Line) →
      StandsAfter x (sent_as p to it ∷ rest) old new
  by_frame p to (frame.Forward epoch from number batch) rest = same
  by_frame p to (frame.Ack epoch from committed have) rest = same
  by_frame p to other rest = same

  by_replies : (heard : List Reply) → StandsAfter x (replied heard) old new
  by_replies [] = same
  by_replies (reply ∷ heard) = same

  by_sent : (n : ℕ) (sent : List Sent) (heard : List Reply) →
      StandsAfter x (sent_lines n sent ++ replied heard) old new
  by_sent n [] heard = by_replies heard
  by_sent n (s ∷ sent) heard =
      by_frame (suc n) s.to s.frame (sent_lines (suc n) sent ++ replied heard)

  by_adoption : (told : Option ℕ) (why : Option DropReason) (n : ℕ) (sent : List Sent)
      (heard : List Reply) →
      StandsAfter x ((adopted_lines x told why ++ sent_lines n sent) ++ replied heard) old new
  by_adoption None why n sent heard = by_sent n sent heard
  by_adoption (Some epoch) None n sent heard = same
  by_adoption (Some epoch) (Some why) n sent heard = by_sent n sent heard

  by_answer : (told : Option ℕ) (why : Option DropReason) (n : ℕ) (sent : List Sent)
      (heard : List Reply) → StandsAfter x ((dropped_lines why ++ (adopted_lines x told why
      ++ sent_lines n sent)) ++ replied heard) old new
  by_answer told None n sent heard = by_adoption told None n sent heard
  by_answer told (Some why) n sent heard = same

-- no reply was heard of an outcome that has none
none_heard : (P : List Line → Type 0) (own : List Line) (heard : List Reply) →
    length heard ≤ 0 → P own → P (own ++ replied heard)
none_heard P own [] few is = subst P (sym (append-nil own)) is
none_heard P own (reply ∷ heard) few is = absurd (omega (arith, few))

by_outcome : {D : Type 0} {g : Ghosts D} (x : ℕ) (told : Option ℕ) (n : ℕ) (did : StepOutcome)
    (heard : List Reply) (old new : NodeState D g) → length heard ≤ length (replies_by did) →
    StandsByOutcome old did new → StandsAfter x (own_lines x told n did ++ replied heard) old new
by_outcome x told n (done.Answered output) heard old new few stands =
    by_answer x old new stands told output.dropped n output.frames heard
by_outcome x told n (done.Started epoch count committed) heard old new few stands =
    none_heard (λ (l : List Line). StandsAfter x l old new)
    (line.Started x epoch count committed ∷ []) heard few (refl, stands)
by_outcome x told n (done.Stopped cause) heard old new few stands =
    none_heard (λ (l : List Line). StandsAfter x l old new) (line.Stopped x cause ∷ []) heard few
    (refl, stands)
by_outcome x told n (done.Tended answer) heard old new few stands =
    none_heard (λ (l : List Line). StandsAfter x l old new) (line.Tended answer ∷ []) heard few
    stands

-- so does the node that took an event of which these lines arrived
pub stands_so : {D : Type 0} {g : Ghosts D} (x : ℕ) (told : Option ℕ) (n : ℕ) (did : StepOutcome)
    (asks : List Transmission → Type 0) (lines : List Line) →
    RepliesFollow asks x (replies_by did) (own_lines x told n did) lines →
    (old new : NodeState D g) → StandsByOutcome old did new → StandsAfter x lines old new
stands_so x told n did asks lines follow old new stands =
    subst (λ (l : List Line). StandsAfter x l old new) (sym follow.lines)
    (by_outcome x told n did (replies_heard follow.each) old new (few_heard asks x (replies_by did)
    (own_lines x told n did) lines follow) stands)
