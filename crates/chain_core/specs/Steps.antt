-- The persistent state and the frames of a step whose store part is done, for the laws of `laws`.
use Rattle.std.specs.Prelude.{◌≡◌, ℕ, suc, ◌+◌, List, [], ◌∷◌, ◌++◌, length, Some, None}
use Rattle.std.specs.Prelude.{if◌then◌else◌, nat_lt}
use Rattle.kv_types.specs.{BatchContent, Edits, place}
use Rattle.configurations.specs.{is_tail}
use Rattle.chain_model.specs.{Message, Answer, ack, forward, forwards}
use Rattle.kv_types.specs.Snapshots.{without}
use Rattle.chain_core.specs.declared.done.Done.{Done}
use Rattle.chain_core.specs.declared.done.Done.TheVariants as done
use Rattle.chain_core.specs.States.{Machine}
use Rattle.chain_core.specs.Decisions.{done_of}

-- the batches after the step
abbrev pub list_after : Machine → BatchContent → Done → List BatchContent
list_after n batch (done.Accepted request) = n.list ++ batch ∷ []
list_after n batch (done.Repeated request number) = n.list
list_after n batch done.Appended = n.list ++ batch ∷ []
list_after n batch (done.Acked committed have) = n.list
list_after n batch (done.Adopted epoch ids) = n.list
list_after n batch (done.Opened request number) = n.list
list_after n batch (done.Closed request number) = n.list

-- the epoch after the step
abbrev pub epoch_after : Machine → Done → ℕ
epoch_after n (done.Accepted request) = n.epoch
epoch_after n (done.Repeated request number) = n.epoch
epoch_after n done.Appended = n.epoch
epoch_after n (done.Acked committed have) = n.epoch
epoch_after n (done.Adopted epoch ids) = epoch
epoch_after n (done.Opened request number) = n.epoch
epoch_after n (done.Closed request number) = n.epoch

-- the configuration after the step
abbrev pub ids_after : Machine → Done → List ℕ
ids_after n (done.Accepted request) = n.ids
ids_after n (done.Repeated request number) = n.ids
ids_after n done.Appended = n.ids
ids_after n (done.Acked committed have) = n.ids
ids_after n (done.Adopted epoch ids) = ids
ids_after n (done.Opened request number) = n.ids
ids_after n (done.Closed request number) = n.ids

-- the floor after the step
abbrev pub floor_after : Machine → Done → ℕ
floor_after n (done.Accepted request) = n.floor
floor_after n (done.Repeated request number) = n.floor
floor_after n done.Appended = n.floor
floor_after n (done.Acked committed have) = n.floor
floor_after n (done.Adopted epoch ids) = n.floor
floor_after n (done.Opened request number) = n.floor
floor_after n (done.Closed request number) = n.floor

-- the kept number after the step
abbrev pub kept_after : Machine → Done → ℕ
kept_after n (done.Accepted request) = n.kept
kept_after n (done.Repeated request number) = n.kept
kept_after n done.Appended = n.kept
kept_after n (done.Acked committed have) = n.kept
kept_after n (done.Adopted epoch ids) = n.kept
kept_after n (done.Opened request number) = n.kept
kept_after n (done.Closed request number) = n.kept

-- the open snapshots after the step
abbrev pub snapshots_after : Machine → Done → List ℕ
snapshots_after n (done.Accepted request) = n.snapshots
snapshots_after n (done.Repeated request number) = n.snapshots
snapshots_after n done.Appended = n.snapshots
snapshots_after n (done.Acked committed have) = n.snapshots
snapshots_after n (done.Adopted epoch ids) = n.snapshots
snapshots_after n (done.Opened request number) = number ∷ n.snapshots
snapshots_after n (done.Closed request number) = without number n.snapshots

-- the frames of the step, by the state of the new machine
abbrev pub frames_after : ℕ → Machine → Done → Machine → List (Message Edits)
frames_after x old (done.Accepted request) new = forward x new (suc (length old.list))
frames_after x old (done.Repeated request number) new = []
frames_after x old done.Appended new =
    forward x new (suc (length old.list)) ++ (if is_tail new.ids x then ack x new else [])
frames_after x old (done.Acked committed have) new =
    if nat_lt old.committed committed then ack x new else []
frames_after x old (done.Adopted epoch ids) new = ack x new
frames_after x old (done.Opened request number) new = []
frames_after x old (done.Closed request number) new = []

-- the persistent state and the snapshots are those that each kind of step leaves, and these frames
-- are sent
pub record StepLeaves (x : ℕ) (n : Machine) (batch : BatchContent) (d : Done)
    (a : Answer Edits)
    : Type 0 where
  pub list : a.node.list ≡ list_after n batch d
  pub epoch : a.node.epoch ≡ epoch_after n d
  pub ids : a.node.ids ≡ ids_after n d
  pub floor : a.node.floor ≡ floor_after n d
  pub kept : a.node.kept ≡ kept_after n d
  pub snapshots : a.node.snapshots ≡ snapshots_after n d
  pub frames : a.frames ≡ frames_after x n d a.node
  pub dropped : a.dropped ≡ None

-- each step leaves what its decision says
abbrev pub StepsLeave : Type 0
StepsLeave = (x : ℕ) (n : Machine) (batch : BatchContent) (d : Done) →
    StepLeaves x n batch d (done_of x n batch d)

-- an appended batch is at the next place
abbrev pub StandsLast : Type 0
StandsLast = (list : List BatchContent) (batch : BatchContent) →
    place (list ++ batch ∷ []) (suc (length list)) ≡ Some batch

-- the last of the batches that are sent again is sent last
abbrev pub OneByOne : Type 0
OneByOne = (x : ℕ) (n : Machine) (k m : ℕ) →
    forwards x n k (suc m) ≡ forwards x n k m ++ forward x n (suc (k + m))
