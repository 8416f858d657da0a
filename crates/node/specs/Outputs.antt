-- The end of a step and the state that it keeps, and the contracts of private functions on its
-- answer.
use Rattle.std.specs.Prelude.{IfErr, IsErrOf}
use Rattle.std.specs.Prelude.{◌≡◌, ◌⊎◌, ℕ, Bool, false, List, Option, Result, MatchResult, OnOk}
use Rattle.kv_types.specs.{Edits}
use Rattle.disk.specs.declared.Disk.{Ghosts}
use Rattle.disk.specs.{AlwaysLeaves, IsEnvironmental, IsSame, IsStill, KeepsDisk}
use Rattle.engine.specs.declared.Engine.{Engine}
use Rattle.engine.specs.{HasEnded, IsNearlyFull, IsOwned, engine_disk, look_ups}
use Rattle.chain_model.specs.{Message, Answer}
use Rattle.chain_model.specs.declared.DropReason.{DropReason}
use Rattle.chain_core.specs.declared.Decision.{Decision}
use Rattle.chain_core.specs.declared.Done.{Done}
use Rattle.chain_core.specs.declared.Done.TheVariants as done
use Rattle.chain_core.specs.declared.Input.{Input}
use Rattle.chain_core.specs.declared.PendingSubmit.{PendingSubmit}
use Rattle.chain_core.specs.{Machine, AreFrames, IsReadOf, rule_of}
use Rattle.node.specs.declared.stop.Stop.TheVariants as stop
use Rattle.node.specs.declared.node.Node.{Node}
use Rattle.node.specs.declared.output.Output.{Output}
use Rattle.node.specs.declared.output.Reply.{Reply}
use Rattle.node.specs.declared.output.Reply.TheVariants as reply
use Rattle.node.specs.declared.stop.Stop.{Stop}
use Rattle.node.specs.Steps.{DiskRefines, StepRefines, IsReady, NodeRefines, disk_of, engine_of}
use Rattle.node.specs.Steps.{node_limits, replies_of}
use Rattle.node.specs.Stops.{EndsCreated}

-- the acknowledgement of a request whose batch is committed
abbrev pub committed_reply : PendingSubmit → Reply
committed_reply it = reply.Committed it.request it.number

-- the output has this drop, these frames and these replies
pub record OutputHas (dropped_for : Option DropReason) (sent : List (Message Edits))
    (told : List Reply) (output : Output) : Type 0 where
  pub dropped : output.dropped ≡ dropped_for
  pub frames : AreFrames output.frames sent
  pub replied : output.replies ≡ told

-- the output has the drop, frames and replies of the machine's answer to an input
abbrev pub OutputRefines : Input → Answer Edits → Output → Type 0
OutputRefines input a = OutputHas a.dropped a.frames (replies_of input a.replies)

-- the store's part appended a batch
abbrev pub HasAppended : Done → Type 0
HasAppended (done.Accepted request) = Unit {0}
HasAppended done.Appended = Unit {0}
HasAppended _ = ⊥

-- whether a node acknowledges to its predecessor after the store's part, where it is the tail
abbrev pub acks_after : Done → Bool → Bool
acks_after done.Appended tail = tail
acks_after _ tail = false

-- a crash at any moment since the call began leaves the disk of machine n or of machine m
abbrev pub AlwaysRefines : {D : Type 0} → Ghosts D → (old new : D) → ℕ → Machine → Machine → Type 0
AlwaysRefines g old new x n m =
    AlwaysLeaves g old new (λ left. DiskRefines left x n ⊎ DiskRefines left x m)

-- A call that leads machine n to this answer is done, or it ends in a stop. A crash at any moment
-- since it began leaves the disk of the machine before the answer or of the one after it.
pub record CallRefines {D T : Type 0} (g : Ghosts D) (old new : Node D g) (x : ℕ) (n : Machine)
    (a : Answer Edits) (IsDone : T → Type 0) (result : Result T Stop) : Type 0 where
  pub done : MatchResult result IsDone (IsEnvironmental stop.Disk stop.Memory)
  pub honest : g.is_honest (disk_of new)
  pub any_moment : AlwaysRefines g (disk_of old) (disk_of new) x n a.node

-- node x, which refined machine n, ends a step as the machine does in this answer to an input
abbrev pub StepEnds : {D : Type 0} → (g : Ghosts D) → (old new : Node D g) → Result Output Stop
    → ℕ →
    Machine → Input → Answer Edits → Type 0
StepEnds g old new result x n input a = NodeRefines g.is_honest g.state old x n →
    CallRefines g old new x n a (StepRefines g.is_honest g.state new x input a) result

-- The step keeps the node's disk and its limits. If it ends with an answer, the node is ready for
-- another step, and if in a stop, no step says that none was created.
pub record KeepsNode {D T : Type 0} (g : Ghosts D) (old new : Node D g) (result : Result T Stop) :
    Type 0 where
  pub disk : KeepsDisk g (disk_of old) (disk_of new) (IsErrOf result stop.Disk)
      (IsNearlyFull (engine_of old)) IsOwned
  pub works : OnOk result (IsReady new)
  pub limits : node_limits new ≡ node_limits old
  pub causes : IfErr result EndsCreated

-- A rule was followed: the node is kept, and it ends the step of each input that the rule is for as
-- the machine does in the rule's answer.
pub record FollowsRule {D : Type 0} (g : Ghosts D) (old new : Node D g)
    (is_for : Machine → Input → Type 0) (rule : ℕ → Machine → Answer Edits)
    (result : Result Output Stop) : Type 0 where
  pub kept : KeepsNode g old new result
  pub ends : (x : ℕ) (n : Machine) (input : Input) → is_for n input →
      StepEnds g old new result x n input (rule x n)

-- the rule that a decision names was followed
abbrev pub ExecutesDecision : {D : Type 0} → (g : Ghosts D) → (old new : Node D g) → Decision →
    Result Output Stop → Type 0
ExecutesDecision g old new decision = FollowsRule g old new (λ n input. IsReadOf n input decision)
    (λ x n. rule_of x n decision)

-- An engine was only read: it has the same numbers and the same files, a crash leaves nothing new,
-- and after an answer it works.
pub record IsOnlyRead {D T : Type 0} (g : Ghosts D) (old new : Engine D g) (result : Result T Stop)
    : Type 0 where
  pub keeps : KeepsDisk g (engine_disk old) (engine_disk new) (IsErrOf result stop.Disk) ⊥ IsSame
  pub told : look_ups new ≡ look_ups old
  pub works : OnOk result (HasEnded new → ⊥)
  pub still : IsStill g (engine_disk old) (engine_disk new)
