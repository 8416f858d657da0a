-- Decisions on inputs, and their execution: the rules of the chain's model by name.
use Rattle.std.specs.Prelude.{◌≡◌, ◌≤◌, ◌<◌, ℕ, suc, List, ◌∷◌, length, map, Option}
use Rattle.std.specs.Prelude.{Some, None, Result, IfOk, IfSome, OnErr, IsTrue, All}
use Rattle.kv_types.specs.declared.bounds.TheConstants.{MAX_NUMBER}
use Rattle.kv_types.specs.{BatchContent, Edits}
use Rattle.chain_model.specs as model_frame
use Rattle.chain_model.specs.{Answer, dropped_for, refused, ask, receive, tick, accept, append}
use Rattle.chain_model.specs.{ack_duplicate, on_ack, resend, reply_read, Message, Request}
use Rattle.chain_model.specs.{Response, Opened, Closed}
use Rattle.kv_types.specs.Snapshots.{is_open}
use Rattle.configurations.specs.NodeLists.{leaves_out}
use Rattle.chain_model.specs.Rules.{add_snapshot, remove_snapshot, if_readable, number_read}
use Rattle.chain_model.specs.Rules.{notice, adopt}
use Rattle.chain_model.specs.declared.Refusal.{Refusal}
use Rattle.link_messages.specs.declared.Frame.{Frame}
use Rattle.link_messages.specs.declared.Frame.TheVariants as frame
use Rattle.chain_core.specs.declared.input.Input.{Input}
use Rattle.chain_core.specs.declared.input.Input.TheVariants as input
use Rattle.chain_core.specs.declared.decision.Decision.{Decision}
use Rattle.chain_core.specs.declared.decision.Decision.TheVariants as decision
use Rattle.chain_core.specs.declared.done.Done.{Done}
use Rattle.chain_core.specs.declared.done.Done.TheVariants as done
use Rattle.chain_core.specs.declared.error.CoreError.{CoreError}
use Rattle.chain_core.specs.declared.sending.Sent.{Sent}
use Rattle.chain_core.specs.declared.pending_submit.PendingSubmit.{PendingSubmit}
use Rattle.chain_core.specs.States.{Machine, Core, CoreRefines, committed_responses}
use Rattle.chain_model.specs.Rules.{repeat}
use Rattle.kv_types.specs.declared.mark.HeldMark.{HeldMark}
use Rattle.chain_core.specs.Marks.{IsHeldFor}

-- the answer of the machine of node x to an input
abbrev pub answer_to : ℕ → Machine → Input → Answer Edits
answer_to x n (input.Submit request batch) = ask x n request (Request.Submit batch)
answer_to x n (input.Get request key at) = ask x n request (Request.Read at)
answer_to x n (input.Rows request range at) = ask x n request (Request.Read at)
answer_to x n (input.Open request at) = ask x n request (Request.Open at)
answer_to x n (input.Close request number) = ask x n request (Request.Close number)
answer_to x n (input.Forward epoch from number batch) =
    receive x n (Message.Forward x epoch from number batch)
answer_to x n (input.Ack epoch from committed have) =
    receive x n (Message.Ack x epoch from committed have)
answer_to x n (input.Notice epoch ids) = notice x n epoch ids
answer_to x n input.Tick = tick x n

-- the rule that a decision names
abbrev pub rule_of : ℕ → Machine → Decision → Answer Edits
rule_of x n (decision.Accept request batch) = accept x n request batch
rule_of x n (decision.Repeat request number) = repeat n request number
rule_of x n (decision.Append batch) = append x n (suc (length n.list)) batch
rule_of x n decision.AckDuplicate = ack_duplicate x n
rule_of x n (decision.OnAck committed have) = on_ack x n committed have
rule_of x n (decision.Adopt epoch ids) = adopt x n epoch ids
rule_of x n (decision.Read request key at) = reply_read n request at
rule_of x n (decision.ReadRows request range at) = reply_read n request at
rule_of x n (decision.Open request number) = add_snapshot n request number
rule_of x n (decision.Close request number) = remove_snapshot n request number
rule_of x n decision.Resend = resend x n
rule_of x n (decision.Refuse request why) = refused n request why
rule_of x n (decision.Drop why) = dropped_for n why

-- the read is of the requested key or range, at a number from the floor to the committed number
abbrev pub IsReadOf : Machine → Input → Decision → Type 0
IsReadOf n (input.Get request key at) (decision.Read same other s) =
    (other ≡ key) × (n.floor ≤ s) × (s ≤ n.committed)
IsReadOf n (input.Rows request range at) (decision.ReadRows same other s) =
    (other ≡ range) × (n.floor ≤ s) × (s ≤ n.committed)
IsReadOf n input (decision.Read same other s) = ⊥
IsReadOf n input (decision.ReadRows same other s) = ⊥
IsReadOf n input _ = Unit {0}

-- the machine's answer is the rule that the decision names
pub record Decides (x : ℕ) (n : Machine) (input : Input) (decision : Decision) : Type 0 where
  pub rule : answer_to x n input ≡ rule_of x n decision
  pub read : IsReadOf n input decision

-- the rule that was done, with this batch if one was appended
abbrev pub done_of : ℕ → Machine → BatchContent → Done → Answer Edits
done_of x n batch (done.Accepted request) = accept x n request batch
done_of x n batch (done.Repeated request number) = repeat n request number
done_of x n batch done.Appended = append x n (suc (length n.list)) batch
done_of x n batch (done.Acked committed have) = on_ack x n committed have
done_of x n batch (done.Adopted epoch ids) = adopt x n epoch ids
done_of x n batch (done.Opened request number) = add_snapshot n request number
done_of x n batch (done.Closed request number) = remove_snapshot n request number

-- the successor has at most as many batches committed as it has, and at most as many as the node
pub record IsReport (core : Core) (committed have : ℕ) : Type 0 where
  pub has : committed ≤ have
  pub there : have ≤ core.count

-- the node may adopt the configuration: its epoch is greater than the node's, and its ids are the
-- node's with at least one left out, order kept
pub record IsAdoptable (core : Core) (epoch : ℕ) (ids : List ℕ) : Type 0 where
  pub later : core.epoch < epoch
  pub fewer : IsTrue (leaves_out ids core.ids)

-- the number can be read, and one more snapshot may be open
pub record HasRoomAt (core : Core) (number : ℕ) : Type 0 where
  pub floor : core.floor ≤ number
  pub committed : number ≤ core.committed
  pub room : length core.snapshots < 64

-- the floor may rise to this number, and so many batches may be trimmed: what may still be asked
-- for stays readable, and no batch above the floor is trimmed
pub record IsRiseOf (core : Core) (floor kept : ℕ) : Type 0 where
  pub rises : core.floor ≤ floor
  pub committed : floor ≤ core.committed
  pub snapshots : All (λ s. floor ≤ s) core.snapshots
  pub readable : kept ≤ floor

-- The store's part of a step can be done by these numbers: a number is left for a batch, a report
-- can be true, a configuration may be adopted, a snapshot can be opened, or one is open at the
-- number that is closed.
abbrev pub DoneFits : Core → Done → Type 0
DoneFits core (done.Accepted request) = core.count < MAX_NUMBER
DoneFits core (done.Repeated request number) = number ≤ core.count
DoneFits core done.Appended = core.count < MAX_NUMBER
DoneFits core (done.Acked committed have) = IsReport core committed have
DoneFits core (done.Adopted epoch ids) = IsAdoptable core epoch ids
DoneFits core (done.Opened request number) = HasRoomAt core number
DoneFits core (done.Closed request number) = IsTrue (is_open number core.snapshots)

-- the decision can be executed by these numbers
abbrev pub DecisionFits : Core → Decision → Type 0
DecisionFits core (decision.Accept request batch) = core.count < MAX_NUMBER
DecisionFits core (decision.Repeat request number) = number ≤ core.count
DecisionFits core (decision.Append batch) = core.count < MAX_NUMBER
DecisionFits core (decision.OnAck committed have) = IsReport core committed have
DecisionFits core (decision.Adopt epoch ids) = IsAdoptable core epoch ids
DecisionFits core (decision.Open request number) = HasRoomAt core number
DecisionFits core (decision.Close request number) = IsTrue (is_open number core.snapshots)
DecisionFits core _ = Unit {0}

-- the number that a client asks for can be read at each machine with these numbers
pub record IsReadAt (core : Core) (at : Option ℕ) (s : ℕ) : Type 0 where
  pub floor : core.floor ≤ s
  pub committed : s ≤ core.committed
  pub answered : (n : Machine) (i : ℕ) (answer : Answer Edits) → CoreRefines core n →
      (number_read n at ≡ s) × (if_readable core.id n i (number_read n at) answer ≡ answer)

-- the number that a client asks for is refused at each machine with these numbers
abbrev pub IsRefused : Core → Option ℕ → Refusal → Type 0
IsRefused core at why = (n : Machine) (i : ℕ) (answer : Answer Edits) →
    CoreRefines core n → if_readable core.id n i (number_read n at) answer ≡ refused n i why

-- A decision on an input, by a node's numbers: it names the rule of each machine that they refine,
-- whatever marks its list holds, and it can be executed by them.
pub record IsDecisionOn (core : Core) (input : Input) (decision : Decision) : Type 0 where
  pub decides : (n : Machine) → CoreRefines core n → Decides core.id n input decision
  pub room : DecisionFits core decision

-- The decision names the rule of each machine that the numbers refine, and whose list holds this
-- mark for the input's client.
abbrev pub DecidesFor : Core → Option HeldMark → Input → Decision → Type 0
DecidesFor core held input decision = (n : Machine) → CoreRefines core n
    → IsHeldFor input n.list held → Decides core.id n input decision

-- The decision can be executed by the numbers, where the held mark is of one of their batches.
abbrev pub FitsFor : Core → Option HeldMark → Decision → Type 0
FitsFor core held decision =
    IfSome held (λ it. it.number ≤ core.count) → DecisionFits core decision

-- the replies after the store's part of a step: of a snapshot to its own request, and to the
-- requests whose batches are now committed
abbrev pub responses_after : Done → List PendingSubmit → List (Response Edits)
responses_after (done.Opened request number) due =
    Opened request number ∷ committed_responses due
responses_after (done.Closed request number) due =
    Closed request number ∷ committed_responses due
responses_after _ due = committed_responses due

-- the state refines the machine of the answer, which has these replies
pub record CoreFollows (new : Core) (answer : Answer Edits)
    (replies : List (Response Edits)) : Type 0 where
  pub is : CoreRefines new answer.node
  pub replied : answer.replies ≡ replies

-- The store's part of a step was applied to the state, which then follows the rule that was done.
-- The committed number never falls, and for want of memory nothing changes.
pub record CoreApplies (old new : Core) (done : Done)
    (result : Result (List PendingSubmit) CoreError) : Type 0 where
  pub after : (n : Machine) (batch : BatchContent) → CoreRefines old n →
      IfOk result (λ due.
      CoreFollows new (done_of old.id n batch done) (responses_after done due))
  pub rises : old.committed ≤ new.committed
  pub same : new.id ≡ old.id
  pub memory : OnErr result (new ≡ old)

-- the model's frame of a frame between nodes
abbrev pub frame_as : ℕ → Frame → Option (model_frame.Message Edits)
frame_as to (frame.Forward epoch from number batch) =
    Some (Message.Forward to epoch from number batch)
frame_as to (frame.Ack epoch from committed have) =
    Some (Message.Ack to epoch from committed have)
frame_as to _ = None

-- the sent frames are these frames of the model, one by one
abbrev pub AreFrames : List Sent → List (model_frame.Message Edits) → Type 0
AreFrames sent frames = map (λ it. frame_as it.to it.frame) sent ≡ map Some frames
