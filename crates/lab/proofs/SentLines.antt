-- What the lines of an event show of the frames that were sent in it, and of its loss.
use Rattle.std.proofs.Common.{◌≡◌, ◌≤◌, ◌+◌, ℕ, suc, Bool, List, [], ◌∷◌, ◌++◌, length, Option}
use Rattle.std.proofs.Common.{Some, None, arith, false, refl, subst, sym, true}
use Rattle.kv_types.specs.{Edits}
use Rattle.chain_model.specs as model_frame
use Rattle.chain_model.specs.declared.DropReason.{DropReason}
use Rattle.chain_core.specs.declared.Sent.{Sent}
use Rattle.link_messages.specs.declared.Frame.{Frame}
use Rattle.link_messages.specs.declared.Frame.TheVariants as frame
use Rattle.node.specs.declared.Reply.{Reply}
use Rattle.carriers.specs.{Transmission}
use Rattle.events.specs.declared.EventKind.{EventKind}
use Rattle.events.specs.declared.EventKind.TheVariants.{Submit, Get, Rows, Open, Close, Deliver}
use Rattle.events.specs.declared.EventKind.TheVariants.{Notice, Tick, Tend, Start, Stop}
use Rattle.lab.specs.declared.delivery.Posted.{Posted}
use Rattle.lab.specs.declared.input.StepOutcome.{StepOutcome}
use Rattle.lab.specs.declared.input.StepOutcome.TheVariants as done
use Rattle.lab.specs.declared.report.Line.{Line}
use Rattle.lab.specs.declared.report.Line.TheVariants as line
use Rattle.lab.specs.Arrivals.{RepliesFollow, replies_heard}
use Rattle.lab.specs.Deliveries.{IsCarriedEvent}
use Rattle.lab.specs.Events.{MayBeLost, dropped_lines}
use Rattle.lab.specs.LinesSoFar.{drops_in, drops_of_step, is_lost}
use Rattle.lab.specs.OutcomeLines.{adopted_lines, own_lines, replies_by, sent_as, sent_by}
use Rattle.lab.specs.OutcomeLines.{sent_line, sent_lines}
use Rattle.lab.specs.Posting.{HasPosted}
use Rattle.lab.specs.Worlds.{frames_in, frames_of_step}
use Rattle.lab.proofs.AnswerLines.{counts_adoption, counts_both, counts_drop, counts_replies}
use Rattle.lab.proofs.Arrivals.{replied}
use Rattle.lab.proofs.Posting.{posted-length}

-- So many frames had been sent before an event, and so many have been now. Its lines show these,
-- and whether it was lost.
pub record ShowsSent (before now : ℕ) (b : Bool) (lines : List Line) : Type 0 where
  pub shown : before + frames_of_step lines ≤ now
  pub few : now ≤ before + frames_of_step lines + drops_of_step lines
  pub loss : b ≡ is_lost lines

pub nothing_shown : (n : ℕ) (lines : List Line) → lines ≡ line.Nothing ∷ [] →
    ShowsSent n n false lines
nothing_shown n lines is = subst (ShowsSent n n false) (sym is)
    (record { shown = omega arith; few = omega arith; loss = refl })

pub loss_shown : (n : ℕ) (lines : List Line) → lines ≡ line.Lost ∷ [] → ShowsSent n n true lines
loss_shown n lines is = subst (ShowsSent n n true) (sym is)
    (record { shown = omega arith; few = omega arith; loss = refl })

-- ---- frames and drops among lines

drops_both : (a b : List Line) → drops_of_step (a ++ b) ≡ drops_of_step a + drops_of_step b
drops_both [] b = omega arith
drops_both (x ∷ a) b = omega (arith, drops_both a b)

one_kind : (p to : ℕ) (it : Frame) →
    frames_in (sent_as p to it) + drops_in (sent_as p to it) ≡ 1
one_kind p to (frame.Forward epoch from number batch) = refl
one_kind p to (frame.Ack epoch from committed have) = refl
one_kind p to other = refl

one_frame : (p : ℕ) (s : Sent) → frames_in (sent_line p s) + drops_in (sent_line p s) ≡ 1
one_frame p s = one_kind p s.to s.frame

sent_both : (n : ℕ) (sent : List Sent) →
    frames_of_step (sent_lines n sent) + drops_of_step (sent_lines n sent) ≡ length sent
sent_both n [] = refl
sent_both n (s ∷ sent) = omega (arith, one_frame (suc n) s, sent_both (suc n) sent)

-- as many frames were sent as an outcome's lines show, or as they show with drops
own_shown : (x : ℕ) (told : Option ℕ) (n : ℕ) (did : StepOutcome) (more : List Line) →
    frames_of_step more ≡ 0 →
    (frames_of_step (own_lines x told n did ++ more) ≤ length (sent_by did))
    × (length (sent_by did) ≤ frames_of_step (own_lines x told n did ++ more)
    + drops_of_step (own_lines x told n did ++ more))
own_shown x told n (done.Answered output) more none =
    let dropped = dropped_lines output.dropped in
    let adopted = adopted_lines x told output.dropped in
    let sent = sent_lines n output.frames in
    let frames = counts_both (dropped ++ (adopted ++ sent)) more in
    let frames2 = counts_both dropped (adopted ++ sent) in
    let frames3 = counts_both adopted sent in
    let all = sent_both n output.frames in (
      omega (
        arith,
        none,
        frames,
        frames2,
        frames3,
        all,
        counts_drop output.dropped,
        counts_adoption x told output.dropped,
      ),
      omega (
        arith,
        none,
        frames,
        frames2,
        frames3,
        all,
        drops_both (dropped ++ (adopted ++ sent)) more,
        drops_both dropped (adopted ++ sent),
        drops_both adopted sent,
      ),
    )
own_shown x told n (done.Started epoch count committed) more none =
    (omega (arith, none), omega arith)
own_shown x told n (done.Stopped cause) more none = (omega (arith, none), omega arith)
own_shown x told n (done.Tended answer) more none = (omega (arith, none), omega arith)

-- ---- no line of an outcome is of a loss

kind_first : (p to : ℕ) (it : Frame) (rest : List Line) → is_lost (sent_as p to it ∷ rest) ≡ false
kind_first p to (frame.Forward epoch from number batch) rest = refl
kind_first p to (frame.Ack epoch from committed have) rest = refl
kind_first p to other rest = refl

replied_first : (heard : List Reply) → is_lost (replied heard) ≡ false
replied_first [] = refl
replied_first (reply ∷ heard) = refl

sent_first : (n : ℕ) (sent : List Sent) (heard : List Reply) →
    is_lost (sent_lines n sent ++ replied heard) ≡ false
sent_first n [] heard = replied_first heard
sent_first n (s ∷ sent) heard =
    kind_first (suc n) s.to s.frame (sent_lines (suc n) sent ++ replied heard)

adopted_first : (x : ℕ) (told : Option ℕ) (why : Option DropReason) (n : ℕ) (sent : List Sent)
    (heard : List Reply) →
    is_lost ((adopted_lines x told why ++ sent_lines n sent) ++ replied heard) ≡ false
adopted_first x None why n sent heard = sent_first n sent heard
adopted_first x (Some epoch) None n sent heard = refl
adopted_first x (Some epoch) (Some why) n sent heard = sent_first n sent heard

dropped_first : (x : ℕ) (told : Option ℕ) (why : Option DropReason) (n : ℕ) (sent : List Sent)
    (heard : List Reply) → is_lost ((dropped_lines why ++ (adopted_lines x told why
    ++ sent_lines n sent)) ++ replied heard) ≡ false
dropped_first x told None n sent heard = adopted_first x told None n sent heard
dropped_first x told (Some why) n sent heard = refl

own_first : (x : ℕ) (told : Option ℕ) (n : ℕ) (did : StepOutcome) (heard : List Reply) →
    is_lost (own_lines x told n did ++ replied heard) ≡ false
own_first x told n (done.Answered output) heard =
    dropped_first x told output.dropped n output.frames heard
own_first x told n (done.Started epoch count committed) heard = refl
own_first x told n (done.Stopped cause) heard = refl
own_first x told n (done.Tended answer) heard = refl

-- a node took it
pub outcome_shown : (asks : List Transmission → Type 0) (x : ℕ)
    (told : Option ℕ) (did : StepOutcome) (lines : List Line) (old new : List Posted) →
    HasPosted old x (sent_by did) new →
    RepliesFollow asks x (replies_by did) (own_lines x told (length old) did) lines →
    ShowsSent (length old) (length new) false lines
outcome_shown asks x told did lines old new posted follow =
    let n = length old in
    let own = own_lines x told n did in
    let s = own_shown x told n did (replied (replies_heard follow.each)) (counts_replies
    (replies_heard follow.each)) in
    let long = posted-length x old new (sent_by did) posted in
    subst (ShowsSent n (length new) false) (sym follow.lines) (record {
      shown = omega (arith, long, s.0);
      few = omega (arith, long, s.1);
      loss = sym (own_first x told n did (replies_heard follow.each));
    })

-- what was lost is carried
pub lost_carried : (frames : List (model_frame.Message Edits)) (kind : EventKind) →
    ((IsCarriedEvent kind → ⊥) → MayBeLost frames kind) → IsCarriedEvent kind
lost_carried frames (Submit node batch) may = tt
lost_carried frames (Get node key at) may = tt
lost_carried frames (Rows node range at) may = tt
lost_carried frames (Open node at) may = tt
lost_carried frames (Close node number) may = tt
lost_carried frames (Deliver p) may = tt
lost_carried frames (Notice node epoch) may = absurd (may (λ is. is))
lost_carried frames (Tick node) may = absurd (may (λ is. is))
lost_carried frames (Tend node) may = absurd (may (λ is. is))
lost_carried frames (Start node) may = absurd (may (λ is. is))
lost_carried frames (Stop node junk) may = absurd (may (λ is. is))
