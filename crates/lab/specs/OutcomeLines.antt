-- The lines of an outcome of a simulated node: those of the node itself, and those of its replies.
use Rattle.std.specs.Prelude.{ℕ, suc, List, [], ◌∷◌, ◌++◌, map, Option, Some, None}
use Rattle.link_messages.specs.declared.Frame.{Frame}
use Rattle.link_messages.specs.declared.Frame.TheVariants as frame
use Rattle.chain_model.specs.declared.DropReason.{DropReason}
use Rattle.chain_model.specs.declared.DropReason.TheVariants as reason
use Rattle.chain_core.specs.declared.Sent.{Sent}
use Rattle.node.specs.declared.Output.{Output}
use Rattle.node.specs.declared.Reply.{Reply}
use Rattle.lab.specs.declared.input.StepOutcome.{StepOutcome}
use Rattle.lab.specs.declared.input.StepOutcome.TheVariants as done
use Rattle.lab.specs.declared.report.Line.{Line}
use Rattle.lab.specs.declared.report.Line.TheVariants as line
use Rattle.lab.specs.Events.{dropped_lines}

-- the frames that a node sent
abbrev pub sent_by : StepOutcome → List Sent
sent_by (done.Answered output) = output.frames
sent_by (done.Started epoch count committed) = []
sent_by (done.Stopped cause) = []
sent_by (done.Tended answer) = []

-- the line of a frame that was sent, with its place among all, from 1. (Nodes send these two.)
abbrev pub sent_as : ℕ → ℕ → Frame → Line
sent_as p to (frame.Forward epoch from number batch) = line.Forwarded p from to epoch number
sent_as p to (frame.Ack epoch from committed have) =
    line.Acknowledged p from to epoch committed have
sent_as p to _ = line.Dropped reason.NotForNodes

-- the line of a frame that was sent, at this place
abbrev pub sent_line : ℕ → Sent → Line
sent_line p sent = sent_as p sent.to sent.frame

-- the frames that are sent after so many others
abbrev pub sent_lines : ℕ → List Sent → List Line
sent_lines before [] = []
sent_lines before (sent ∷ more) = sent_line (suc before) sent ∷ sent_lines (suc before) more

-- a node that was told of an epoch, and did not drop that, has a line of it
abbrev pub adopted_lines : ℕ → Option ℕ → Option DropReason → List Line
adopted_lines x None why = []
adopted_lines x (Some epoch) None = line.Adopted x epoch ∷ []
adopted_lines x (Some epoch) (Some why) = []

-- the lines of an output besides its replies: why it was dropped, an adoption, and the frames that
-- were sent after so many others
abbrev pub lines_before_replies : ℕ → Option ℕ → ℕ → Output → List Line
lines_before_replies x told before output =
    dropped_lines output.dropped ++ (adopted_lines x told output.dropped
    ++ sent_lines before output.frames)

-- the lines of an outcome of node x besides its replies, where it was told of an epoch or not
abbrev pub own_lines : ℕ → Option ℕ → ℕ → StepOutcome → List Line
own_lines x told before (done.Answered output) = lines_before_replies x told before output
own_lines x told before (done.Started epoch count committed) =
    line.Started x epoch count committed ∷ []
own_lines x told before (done.Stopped cause) = line.Stopped x cause ∷ []
own_lines x told before (done.Tended answer) = line.Tended answer ∷ []

-- the replies of an outcome
abbrev pub replies_by : StepOutcome → List Reply
replies_by (done.Answered output) = output.replies
replies_by (done.Started epoch count committed) = []
replies_by (done.Stopped cause) = []
replies_by (done.Tended answer) = []

-- the lines of an outcome of node x, which was told of an epoch or not, after so many frames
abbrev pub outcome_lines : ℕ → Option ℕ → ℕ → StepOutcome → List Line
outcome_lines x told before (done.Answered output) =
    dropped_lines output.dropped ++ (adopted_lines x told output.dropped
    ++ (sent_lines before output.frames
    ++ map (λ reply. line.Replied reply) output.replies))
outcome_lines x told before (done.Started epoch count committed) =
    line.Started x epoch count committed ∷ []
outcome_lines x told before (done.Stopped cause) = line.Stopped x cause ∷ []
outcome_lines x told before (done.Tended answer) = line.Tended answer ∷ []
