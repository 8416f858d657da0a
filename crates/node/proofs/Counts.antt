-- Numbers, batches and facts of a node after the store's part of a step.
use Rattle.std.proofs.Common.{◌≡◌, ◌≤◌, ℕ, ◌+◌, List, [], ◌∷◌, ◌++◌, length, true, Option}
use Rattle.std.proofs.Common.{suc, arith, Some, refl, sym, ap, subst, ◌∙◌, Bool}
use Rattle.std.specs.Prelude.{false, if◌then◌else◌, nat_le, IfSome}
use Rattle.std.proofs.lemmas.List.{append-nil}
use Rattle.std.proofs.Common.{replicate, length-append}
use Rattle.std.proofs.lemmas.List.{length-replicate}
use Rattle.kv_types.specs.declared.mark.HeldMark.{HeldMark}
use Rattle.kv_types.specs.{BatchContent, Edits, place, unmarked}
use Rattle.engine.specs.{Facts}
use Rattle.configurations.specs.{is_tail}
use Rattle.chain_model.specs.{Answer, Committed, Response, ack, forward, silent}
use Rattle.chain_model.specs.Machine.{replied}
use Rattle.chain_model.specs.Rules.{queued, repeat}
use Rattle.chain_core.specs.declared.Done.{Done}
use Rattle.chain_core.specs.declared.Done.TheVariants as done
use Rattle.chain_core.specs.declared.PendingSubmit.{PendingSubmit}
use Rattle.chain_core.specs.{Machine, Core, CoreRefines, waiting, done_of, StepLeaves}
use Rattle.chain_core.specs.{StepsLeave, StandsLast, list_after, snapshots_after}
use Rattle.chain_core.specs.{epoch_after, floor_after, frames_after, ids_after, kept_after}
use Rattle.chain_core.specs.{committed_responses, responses_after}
use Rattle.chain_core.specs as core
use Rattle.node.specs.Steps.{facts_for}
use Rattle.node.specs.Outputs.{HasAppended, acks_after}

-- a batch without edits, for rules that append none
abbrev pub empty_batch : BatchContent
empty_batch = unmarked []

-- a machine with these numbers, and as many batches as they count
abbrev pub machine_with : Core → Machine
machine_with core = record {
  list = replicate core.count empty_batch;
  epoch = core.epoch;
  ids = core.ids;
  committed = core.committed;
  floor = core.floor;
  kept = core.kept;
  successor_has = core.successor_has;
  snapshots = core.snapshots;
  pending = waiting core.pending;
  running = true;
}

has_numbers : (core : Core) → CoreRefines core (machine_with core)
has_numbers core = record {
  epoch = refl;
  ids = refl;
  count = length-replicate core.count empty_batch;
  committed = refl;
  floor = refl;
  kept = refl;
  successor_has = refl;
  snapshots = refl;
  pending = refl;
  running = refl;
}

-- a mark whose number the engine counts is one that the node's state counts
pub within_count : {known count : ℕ} (held : Option HeldMark) → known ≡ count →
    IfSome held (λ it. it.number ≤ count) → IfSome held (λ it. it.number ≤ known)
within_count held same within =
    subst (λ (k : ℕ). IfSome held (λ it. it.number ≤ k)) (sym same) within

pub appended_list : (n : Machine) (batch : BatchContent) (d : Done) → HasAppended d →
    list_after n batch d ≡ n.list ++ batch ∷ []
appended_list n batch (done.Accepted request) has = refl
appended_list n batch done.Appended has = refl
appended_list n batch _ has = absurd has

-- the replies after an append are those to the requests that are due
pub responses_due : (d : Done) (due : List PendingSubmit) → HasAppended d →
    responses_after d due ≡ committed_responses due
responses_due (done.Accepted request) due has = refl
responses_due done.Appended due has = refl
responses_due _ due has = absurd has

-- the new numbers are those of each machine after the store's part, which has these replies
abbrev pub FollowsDone : Core → Core → Done → List (Response Edits) → Type 0
FollowsDone old new d replies = (n : Machine) (batch : BatchContent) → CoreRefines old n →
    core.CoreFollows new (done_of old.id n batch d) replies

-- the count after the store's part
pub counted : StepsLeave → (old new : Core) (batch : BatchContent) (d : Done)
    (replies : List (Response Edits)) → FollowsDone old new d replies →
    new.count ≡ length (list_after (machine_with old) batch d)
counted law old new batch d replies after =
    let n = machine_with old in
    sym (after n batch (has_numbers old)).is.count ∙ ap length (law old.id n batch d).list

-- one batch more is counted where one was appended
pub counts_appended : StepsLeave → (old new : Core) (d : Done)
    (replies : List (Response Edits)) → HasAppended d → FollowsDone old new d replies →
    new.count ≡ old.count + 1
counts_appended law old new d replies has after =
    let n = machine_with old in
    counted law old new empty_batch d replies after ∙ ap length (appended_list n empty_batch d has)
    ∙ length-append n.list (empty_batch ∷ [])
    ∙ ap (λ k. k + 1) (length-replicate old.count empty_batch)

-- as many batches as before are counted where the list stays
pub counts_same : StepsLeave → (old new : Core) (d : Done) (replies : List (Response Edits))
    → ((n : Machine) → list_after n empty_batch d ≡ n.list) → FollowsDone old new d replies →
    new.count ≡ old.count
counts_same law old new d replies stays after =
    counted law old new empty_batch d replies after ∙ ap length (stays (machine_with old))
    ∙ length-replicate old.count empty_batch

same_kept : (n : Machine) (d : Done) → kept_after n d ≡ n.kept
same_kept n (done.Accepted request) = refl
same_kept n (done.Repeated request number) = refl
same_kept n done.Appended = refl
same_kept n (done.Acked committed have) = refl
same_kept n (done.Adopted epoch ids) = refl
same_kept n (done.Opened request number) = refl
same_kept n (done.Closed request number) = refl

same_floor : (n : Machine) (d : Done) → floor_after n d ≡ n.floor
same_floor n (done.Accepted request) = refl
same_floor n (done.Repeated request number) = refl
same_floor n done.Appended = refl
same_floor n (done.Acked committed have) = refl
same_floor n (done.Adopted epoch ids) = refl
same_floor n (done.Opened request number) = refl
same_floor n (done.Closed request number) = refl

-- a batch that is submitted again commits none
pub repeat_commits : (n : Machine) (i k : ℕ) → (repeat n i k).node.committed ≡ n.committed
repeat_commits n i k = go (nat_le k n.committed)
  where
    go : (b : Bool) → (if b then replied n (Committed i k)
        else silent (record n { pending = queued (k, i) n.pending })).node.committed
        ≡ n.committed
    go true = refl
    go false = refl

-- an append leaves the snapshots
pub appended_snapshots : (n : Machine) (d : Done) → HasAppended d →
    snapshots_after n d ≡ n.snapshots
appended_snapshots n (done.Accepted request) has = refl
appended_snapshots n done.Appended has = refl
appended_snapshots n _ has = absurd has

-- the store's part leaves epoch and ids
pub record KeepsConfig (d : Done) : Type 0 where
  pub epoch : (n : Machine) → epoch_after n d ≡ n.epoch
  pub ids : (n : Machine) → ids_after n d ≡ n.ids

-- an append leaves them
pub appended_config : (d : Done) → HasAppended d → KeepsConfig d
appended_config (done.Accepted request) has = record { epoch = λ n. refl; ids = λ n. refl }
appended_config done.Appended has = record { epoch = λ n. refl; ids = λ n. refl }
appended_config _ has = absurd has

-- no batch was given up
pub keeps_kept : StepsLeave → (old new : Core) (d : Done) (replies : List (Response Edits)) →
    FollowsDone old new d replies → new.kept ≡ old.kept
keeps_kept law old new d replies after =
    let n = machine_with old in
    sym (after n empty_batch (has_numbers old)).is.kept ∙ (law old.id n empty_batch d).kept
    ∙ same_kept n d

-- so does the committed number, where the rule leaves it
pub keeps_committed : (old new : Core) (d : Done) (replies : List (Response Edits)) →
    ((n : Machine) → (done_of old.id n empty_batch d).node.committed ≡ n.committed) →
    FollowsDone old new d replies → new.committed ≡ old.committed
keeps_committed old new d replies stays after =
    let n = machine_with old in
    sym (after n empty_batch (has_numbers old)).is.committed ∙ stays n

-- the floor stays
pub keeps_floor : StepsLeave → (old new : Core) (d : Done) (replies : List (Response Edits))
    → FollowsDone old new d replies → new.floor ≡ old.floor
keeps_floor law old new d replies after =
    let n = machine_with old in
    sym (after n empty_batch (has_numbers old)).is.floor ∙ (law old.id n empty_batch d).floor
    ∙ same_floor n d

-- the epoch after the store's part
pub epoch_left : StepsLeave → (old new : Core) (d : Done) (replies : List (Response Edits)) →
    FollowsDone old new d replies → new.epoch ≡ epoch_after (machine_with old) d
epoch_left law old new d replies after =
    let n = machine_with old in
    sym (after n empty_batch (has_numbers old)).is.epoch ∙ (law old.id n empty_batch d).epoch

-- the ids after the store's part
pub ids_left : StepsLeave → (old new : Core) (d : Done) (replies : List (Response Edits)) →
    FollowsDone old new d replies → new.ids ≡ ids_after (machine_with old) d
ids_left law old new d replies after =
    let n = machine_with old in
    sym (after n empty_batch (has_numbers old)).is.ids ∙ (law old.id n empty_batch d).ids

-- the snapshots after the store's part
pub snapshots_left : StepsLeave → (old new : Core) (d : Done)
    (replies : List (Response Edits)) → FollowsDone old new d replies →
    new.snapshots ≡ snapshots_after (machine_with old) d
snapshots_left law old new d replies after =
    let n = machine_with old in
    sym (after n empty_batch (has_numbers old)).is.snapshots
    ∙ (law old.id n empty_batch d).snapshots

abbrev facts_with : (x e : ℕ) → List ℕ → (f k : ℕ) → Facts
facts_with x e ids f k = record { id = x; epoch = e; ids = ids; floor = f; kept = k }

-- equal numbers are equal facts
facts_as : (x d e f h k l : ℕ) (ids js : List ℕ) → d ≡ e → ids ≡ js → f ≡ h → k ≡ l →
    facts_with x d ids f k ≡ facts_with x e js h l
facts_as x d e f h k l ids js of_epoch of_ids of_floor of_kept =
    rw (of_epoch, of_ids, of_floor, of_kept) refl

-- the facts of a machine after the store's part
abbrev pub facts_after : ℕ → Machine → Done → Facts
facts_after x n d = facts_with x (epoch_after n d) (ids_after n d) n.floor n.kept

-- they are those of the answer
pub facts_left : (x : ℕ) (n : Machine) (batch : BatchContent) (d : Done)
    (a : Answer Edits) → StepLeaves x n batch d a → facts_for x a.node ≡ facts_after x n d
facts_left x n batch d a leaves =
    facts_as x a.node.epoch (epoch_after n d) a.node.floor n.floor a.node.kept n.kept a.node.ids
    (ids_after n d) leaves.epoch leaves.ids (leaves.floor ∙ same_floor n d)
    (leaves.kept ∙ same_kept n d)

-- a step that leaves the configuration leaves the facts
pub same_facts : (x : ℕ) (n : Machine) (batch : BatchContent) (d : Done)
    (a : Answer Edits) → KeepsConfig d → StepLeaves x n batch d a →
    facts_for x a.node ≡ facts_for x n
same_facts x n batch d a keeps leaves =
    facts_left x n batch d a leaves
    ∙ facts_as x (epoch_after n d) n.epoch n.floor n.floor n.kept n.kept (ids_after n d) n.ids
    (keeps.epoch n) (keeps.ids n) refl refl

-- and one batch more, where one was appended
pub list_is : (x : ℕ) (n : Machine) (batch : BatchContent) (d : Done) (a : Answer Edits) →
    StepLeaves x n batch d a → HasAppended d → a.node.list ≡ n.list ++ batch ∷ []
list_is x n batch d a leaves has = leaves.list ∙ appended_list n batch d has

-- the number of an appended batch
pub number_taken : (x : ℕ) (n : Machine) (batch : BatchContent) (d : Done)
    (a : Answer Edits) →
    StepLeaves x n batch d a → HasAppended d → length a.node.list ≡ suc (length n.list)
number_taken x n batch d a leaves has =
    omega (
      arith,
      ap length leaves.list,
      ap length (appended_list n batch d has),
      length-append n.list (batch ∷ []),
    )

-- the appended batch is at its number
pub taken_stands : StandsLast → (x : ℕ) (n : Machine) (batch : BatchContent) (d : Done)
    (a : Answer Edits) (count : ℕ) → StepLeaves x n batch d a → HasAppended d →
    count ≡ suc (length n.list) → place a.node.list count ≡ Some batch
taken_stands law x n batch d a count leaves has number =
    ap (λ l. place l count) (leaves.list ∙ appended_list n batch d has)
    ∙ ap (place (n.list ++ batch ∷ [])) number ∙ law n.list batch

-- the appended batch is forwarded, and a tail acknowledges one of its predecessor
pub frames_of : (x : ℕ) (old new : Machine) (d : Done) (acks : Bool) → HasAppended d →
    acks ≡ acks_after d (is_tail new.ids x) →
    forward x new (suc (length old.list)) ++ (if acks then ack x new else [])
    ≡ frames_after x old d new
frames_of x old new (done.Accepted request) acks has is =
    rw is (append-nil (forward x new (suc (length old.list))))
frames_of x old new done.Appended acks has is = rw is refl
frames_of x old new _ acks has is = absurd has
