-- Worked runs with batches that are submitted again. Batches are numbers here. Definitions without
-- a source are this store's profile.
use Rattle.std.specs.Prelude.{◌≡◌, ℕ, [], ◌∷◌, None}
use Rattle.kv_types.specs.{marked}
use Rattle.chain_model.specs.declared.refusal.Refusal.TheVariants as refusal
use Rattle.chain_model.specs.declared.drop_reason.DropReason.TheVariants as reason
use Rattle.chain_model.specs.Requests.{Submit, Read}
use Rattle.chain_model.specs.System.{Ask, Deliver, Notice, Start, Stop, Answered}
use Rattle.chain_model.specs.Trace.{Forwards, Acks, Commits, Reads, Refuses, Drops, Adopts, Starts}
use Rattle.chain_model.specs.Trace.{Stops}
use Rattle.chain_model.specs.Machine.{MachineState, created, refused}
use Rattle.chain_model.specs.Rules.{submit}
use Rattle.chain_model.specs.WorkedRuns.{Run, ShowsThat}

-- One node. A batch that is submitted again is acknowledged with its number. Once the client's
-- next batch is there, it is refused. A batch of another client with the same request is another.
abbrev pub a_repeated_batch_is_accepted_once : Run
a_repeated_batch_is_accepted_once =
    (Ask 1 1 (Submit (marked 7 1 101)) Answered, Commits 1 1 ∷ []) ∷
    (Ask 1 2 (Submit (marked 7 1 101)) Answered, Commits 2 1 ∷ []) ∷
    (Ask 1 3 (Submit (marked 7 2 103)) Answered, Commits 3 2 ∷ []) ∷
    (Ask 1 4 (Submit (marked 7 1 101)) Answered, Refuses 4 refusal.OldRequest ∷ []) ∷
    (Ask 1 5 (Read None) Answered, Reads 5 2 (101 ∷ 103 ∷ []) ∷ []) ∷
    (Ask 1 6 (Submit (marked 8 1 106)) Answered, Commits 6 3 ∷ []) ∷
    (Ask 1 7 (Submit (marked 7 2 103)) Answered, Commits 7 2 ∷ []) ∷
    []

-- Two nodes. Batches are submitted again before they are committed, and request 3 after request 4.
-- The requests are acknowledged in order of number, and those of one number in order of request.
abbrev pub repeated_requests_wait : Run
repeated_requests_wait =
    (Ask 1 1 (Submit (marked 7 1 101)) Answered, Forwards 1 2 0 1 ∷ []) ∷
    (Ask 1 2 (Submit (marked 8 1 102)) Answered, Forwards 1 2 0 2 ∷ []) ∷
    (Ask 1 5 (Submit (marked 8 1 102)) Answered, []) ∷
    (Ask 1 4 (Submit (marked 7 1 101)) Answered, []) ∷
    (Ask 1 3 (Submit (marked 7 1 101)) Answered, []) ∷
    (Deliver 1 Answered, Acks 2 1 0 1 1 ∷ []) ∷
    (Deliver 2 Answered, Acks 2 1 0 2 2 ∷ []) ∷
    (Deliver 4 Answered, Commits 1 1 ∷ Commits 3 1 ∷ Commits 4 1 ∷ Commits 2 2 ∷ Commits 5 2 ∷ []) ∷
    []

-- The head is removed. The client submits its batch to the new head, which has it.
abbrev pub the_new_head_has_it : Run
the_new_head_has_it =
    (Ask 1 1 (Submit (marked 7 1 101)) Answered, Forwards 1 2 0 1 ∷ []) ∷
    (Deliver 1 Answered, Acks 2 1 0 1 1 ∷ []) ∷
    (Notice 2 1 Answered, Adopts 2 1 ∷ []) ∷
    (Ask 2 4 (Submit (marked 7 1 101)) Answered, Commits 4 1 ∷ []) ∷
    []

-- The head is removed and does not know it. It appends the batch that the new head has too, and
-- never acknowledges it.
abbrev pub the_old_head_keeps_it : Run
the_old_head_keeps_it =
    (Notice 2 1 Answered, Adopts 2 1 ∷ []) ∷
    (Ask 1 2 (Submit (marked 7 1 101)) Answered, Forwards 1 2 0 1 ∷ []) ∷
    (Ask 2 3 (Submit (marked 7 1 101)) Answered, Commits 3 1 ∷ []) ∷
    (Deliver 1 Answered, Drops reason.OtherEpoch ∷ []) ∷
    (Notice 1 1 Answered, Adopts 1 1 ∷ []) ∷
    (Ask 1 6 (Submit (marked 7 1 101)) Answered, Refuses 6 refusal.Removed ∷ []) ∷
    []

-- A stop forgets who waits, but not the batch and its mark.
abbrev pub marks_outlive_a_stop : Run
marks_outlive_a_stop =
    (Ask 1 1 (Submit (marked 7 1 101)) Answered, Forwards 1 2 0 1 ∷ []) ∷
    (Stop 1, Stops 1 ∷ []) ∷
    (Start 1 Answered, Starts 1 0 1 0 ∷ []) ∷
    (Deliver 1 Answered, Acks 2 1 0 1 1 ∷ []) ∷
    (Deliver 2 Answered, []) ∷
    (Ask 1 6 (Submit (marked 7 1 101)) Answered, Commits 6 1 ∷ []) ∷
    []

-- the head of two nodes, with one batch, of request 2 of client 7
abbrev pub holds : MachineState ℕ
holds = record (created (1 ∷ 2 ∷ [])) { list = marked 7 2 101 ∷ [] }

-- all of them, and which refusal of several is answered
pub record WorkedMarks : Type 0 where
  pub old : submit 1 holds 5 (marked 7 1 102) ≡ refused holds 5 refusal.OldRequest
  pub old_and_no_head : submit 2 holds 5 (marked 7 1 102) ≡ refused holds 5 refusal.NotHead
  pub old_and_removed : submit 9 holds 5 (marked 7 1 102) ≡ refused holds 5 refusal.Removed
  pub once : ShowsThat ((1 ∷ []) ∷ []) a_repeated_batch_is_accepted_once
  pub waits : ShowsThat ((1 ∷ 2 ∷ []) ∷ []) repeated_requests_wait
  pub found : ShowsThat ((1 ∷ 2 ∷ []) ∷ (2 ∷ []) ∷ []) the_new_head_has_it
  pub unaware : ShowsThat ((1 ∷ 2 ∷ []) ∷ (2 ∷ []) ∷ []) the_old_head_keeps_it
  pub stopped : ShowsThat ((1 ∷ 2 ∷ []) ∷ []) marks_outlive_a_stop
