-- The lines of an answer: those of the model's, their frames, and the line of an adoption.
use Rattle.std.proofs.Common.{◌≡◌, ℕ, suc, ◌+◌, Bool, List, [], ◌∷◌, ◌++◌, length, map, Option}
use Rattle.std.proofs.Common.{Some}
use Rattle.std.proofs.Common.{None, cond, refl, ap, ap₂, subst, arith}
use Rattle.std.specs.Prelude.{not, nat_lt}
use Rattle.std.proofs.lemmas.Bool.{cond_both}
use Rattle.kv_types.specs.{Edits}
use Rattle.chain_model.specs.{Message as ModelFrame, Answer, dropped_for, answers, Message}
use Rattle.configurations.specs.{is_tail}
use Rattle.configurations.specs.NodeLists.{leaves_out}
use Rattle.chain_model.specs.Rules.{adopt, moved, notice}
use Rattle.chain_model.specs.declared.DropReason.{DropReason}
use Rattle.chain_model.specs.declared.DropReason.TheVariants as reason
use Rattle.link_messages.specs.declared.Frame.{Frame}
use Rattle.link_messages.specs.declared.Frame.TheVariants as frame
use Rattle.chain_core.specs.declared.Sent.{Sent}
use Rattle.chain_core.specs.{AreFrames, frame_as, Machine}
use Rattle.node.specs.declared.Reply.{Reply}
use Rattle.events.specs.declared.EventKind.{EventKind}
use Rattle.events.specs.declared.EventKind.TheVariants.{Notice}
use Rattle.lab.specs.declared.report.Line.{Line}
use Rattle.lab.specs.declared.report.Line.TheVariants as line
use Rattle.lab.specs.Events.{arrived, dropped_lines, epoch_in, first_arrives, frame_line}
use Rattle.lab.specs.Events.{frame_lines}
use Rattle.lab.specs.Events.{later_arrivals, turn_trace}
use Rattle.lab.specs.SimNodes.{Choice}
use Rattle.lab.specs.OutcomeLines.{adopted_lines, sent_as, sent_lines}
use Rattle.lab.specs.Worlds.{frames_in, frames_of_step}

-- a frame that is sent has the line of the model's
line_same : (p to : ℕ) (it : Frame) (f : ModelFrame Edits) → frame_as to it ≡ Some f →
    sent_as p to it ≡ frame_line p f
line_same p to (frame.Forward epoch from number batch) f is =
    subst (λ (o : Option (ModelFrame Edits)). HasLine o) is refl
  where
    HasLine : Option (ModelFrame Edits) → Type 0
    HasLine None = Unit {0}
    HasLine (Some g) = line.Forwarded p from to epoch number ≡ frame_line p g
line_same p to (frame.Ack epoch from committed have) f is =
    subst (λ (o : Option (ModelFrame Edits)). HasLine o) is refl
  where
    HasLine : Option (ModelFrame Edits) → Type 0
    HasLine None = Unit {0}
    HasLine (Some g) = line.Acknowledged p from to epoch committed have ≡ frame_line p g
line_same p to (frame.Notice epoch config) f is = absurd (cc)
line_same p to (frame.Submit request batch) f is = absurd (cc)
line_same p to (frame.Get request at key) f is = absurd (cc)
line_same p to (frame.Rows request at range) f is = absurd (cc)
line_same p to (frame.Open request at) f is = absurd (cc)
line_same p to (frame.Close request number) f is = absurd (cc)
line_same p to (frame.Committed request number) f is = absurd (cc)
line_same p to (frame.Value request number value) f is = absurd (cc)
line_same p to (frame.RowsAre request number page) f is = absurd (cc)
line_same p to (frame.Opened request number) f is = absurd (cc)
line_same p to (frame.Refused request why) f is = absurd (cc)
line_same p to (frame.Closed request number) f is = absurd (cc)

-- .. and so are all of them
pub lines_same : (n : ℕ) (sent : List Sent) (frames : List (ModelFrame Edits)) →
    AreFrames sent frames → sent_lines n sent ≡ frame_lines n frames
lines_same n [] [] are = refl
lines_same n [] (f ∷ frames) are = absurd (cc)
lines_same n (s ∷ sent) [] are = absurd (cc)
lines_same n (s ∷ sent) (f ∷ frames) are =
    let first : frame_as s.to s.frame ≡ Some f = cc in
    let more : map (λ (it : Sent). frame_as it.to it.frame) sent ≡ map Some frames = cc in
    ap₂ (λ (l : Line) (ls : List Line). l ∷ ls) (line_same (suc n) s.to s.frame f first)
    (lines_same (suc n) sent frames more)

-- how many frames lines show
pub counts_both : (a b : List Line) → frames_of_step (a ++ b) ≡ frames_of_step a + frames_of_step b
counts_both [] b = omega arith
counts_both (x ∷ a) b = omega (arith, counts_both a b)

pub counts_drop : (why : Option DropReason) → frames_of_step (dropped_lines why) ≡ 0
counts_drop None = refl
counts_drop (Some why) = refl

pub counts_adoption : (x : ℕ) (epoch : Option ℕ) (why : Option DropReason) →
    frames_of_step (adopted_lines x epoch why) ≡ 0
counts_adoption x None why = refl
counts_adoption x (Some epoch) None = refl
counts_adoption x (Some epoch) (Some why) = refl

counts_frames : (n : ℕ) (frames : List (ModelFrame Edits)) →
    frames_of_step (frame_lines n frames) ≡ length frames
counts_frames n [] = refl
counts_frames n (Message.Forward to epoch from number batch ∷ frames) =
    omega (arith, counts_frames (suc n) frames)
counts_frames n (Message.Ack to epoch from committed have ∷ frames) =
    omega (arith, counts_frames (suc n) frames)

pub counts_replies : (replies : List Reply) →
    frames_of_step (map (λ reply. line.Replied reply) replies) ≡ 0
counts_replies [] = refl
counts_replies (reply ∷ replies) = omega (arith, counts_replies replies)

-- the lines of an answer, part by part
abbrev pub answered_lines : ℕ → Option ℕ → ℕ → Answer Edits → List Reply → List Line
answered_lines x epoch n a replies =
    dropped_lines a.dropped ++ (adopted_lines x epoch a.dropped
    ++ (frame_lines n a.frames ++ map (λ reply. line.Replied reply) replies))

pub counts_answer : (x : ℕ) (epoch : Option ℕ) (n : ℕ) (a : Answer Edits)
    (replies : List Reply) → frames_of_step (answered_lines x epoch n a replies) ≡ length a.frames
counts_answer x epoch n a replies =
    let traced = map (λ reply. line.Replied reply) replies in
    let adopted = adopted_lines x epoch a.dropped in
    omega (
      arith,
      counts_both (dropped_lines a.dropped) (adopted ++ (frame_lines n a.frames ++ traced)),
      counts_both adopted (frame_lines n a.frames ++ traced),
      counts_both (frame_lines n a.frames) traced,
      counts_drop a.dropped,
      counts_adoption x epoch a.dropped,
      counts_frames n a.frames,
      counts_replies replies,
    )

-- .. and those of them that arrive
pub counts_arrived : (told : List Bool) (lines : List Line) →
    frames_of_step (arrived told lines) ≡ frames_of_step lines
counts_arrived told [] = refl
counts_arrived told (line.Replied reply ∷ lines) =
    let later = counts_arrived (later_arrivals told) lines in
    cond_both (first_arrives told) (line.Replied reply ∷ arrived (later_arrivals told) lines)
    (arrived (later_arrivals told) lines)
    (λ (l : List Line). frames_of_step l ≡ frames_of_step (line.Replied reply ∷ lines))
    (λ _. ap (λ n. 0 + n) later) (λ _. omega (arith, later))
counts_arrived told (other ∷ lines) =
    ap (λ n. frames_in other + n) (counts_arrived told lines)

-- ---- adoptions

-- the model's line of an event that is no frame or reply is that of an adoption, if there is one
abbrev pub TurnsSo : ℕ → EventKind → Choice → Answer Edits → Type 0
TurnsSo x kind choice a =
    turn_trace kind choice (answers x a) ≡ adopted_lines x (epoch_in kind) a.dropped

-- what is dropped has no line of an adoption
pub no_adoption : (x : ℕ) (epoch : Option ℕ) (why : DropReason) →
    adopted_lines x epoch (Some why) ≡ []
no_adoption x None why = refl
no_adoption x (Some epoch) why = refl

-- a notice that is not dropped leaves the node at its epoch
pub notice_turns : (x : ℕ) (n : Machine) (epoch : ℕ) (ids : List ℕ) (choice : Choice) →
    TurnsSo x (Notice x epoch) choice (notice x n epoch ids)
notice_turns x n epoch ids choice =
    cond_both (not (nat_lt n.epoch epoch)) (dropped_for n reason.OldNotice)
    (cond (leaves_out ids n.ids) (adopt x n epoch ids) (dropped_for n reason.BadNotice)) Turns
    (λ old. refl)
    (λ new. cond_both (leaves_out ids n.ids) (adopt x n epoch ids)
    (dropped_for n reason.BadNotice) Turns (λ takes. at_epoch_now) (λ bad. refl))
  where
    Turns : Answer Edits → Type 0
    Turns a = TurnsSo x (Notice x epoch) choice a

    at_epoch_now : Turns (adopt x n epoch ids)
    at_epoch_now =
        let m = moved x n epoch ids in
        ap (λ (e : ℕ). line.Adopted x e ∷ [])
        (cond_both (is_tail ids x) (record m { committed = length m.list }) m
        (λ (k : Machine). k.epoch ≡ epoch) (λ tail. refl) (λ other. refl))
