-- Worked runs, with each event's frames, replies and drops. Batches are numbers here. Definitions
-- without a source are this store's profile.
use Rattle.std.specs.Prelude.{◌≡◌, ℕ, zero, suc, List, [], ◌∷◌, ◌++◌, take, Some, None, true}
use Rattle.kv_types.specs.{unmarked}
use Rattle.configurations.specs.{Configurations}
use Rattle.chain_model.specs.declared.refusal.Refusal.TheVariants as refusal
use Rattle.chain_model.specs.declared.drop_reason.DropReason.TheVariants as reason
use Rattle.chain_model.specs.Requests.{Submit, Read, Open, Close}
use Rattle.chain_model.specs.System.{SystemEvent, Ask, Tick, Tend, Notice, Deliver, Start, Stop}
use Rattle.chain_model.specs.System.{Answered, StoppedBefore, StoppedAfter, node_of}
use Rattle.chain_model.specs.Trace.{TraceLine, Forwards, Acks, Commits, Reads, Refuses, Drops}
use Rattle.chain_model.specs.Trace.{Adopts}
use Rattle.chain_model.specs.Trace.{Opens, Starts, Stops, trace}

-- the events of a run, each with its expected lines
abbrev pub Run : Type 0
Run = List (SystemEvent ℕ × List (TraceLine ℕ))

-- the events of a run
abbrev pub events_of : Run → List (SystemEvent ℕ)
events_of [] = []
events_of (step ∷ run) = step.0 ∷ events_of run

-- the expected lines of a run
abbrev pub lines_expected : Run → List (List (TraceLine ℕ))
lines_expected [] = []
lines_expected (step ∷ run) = step.1 ∷ lines_expected run

-- the run of these configurations and events has these lines
abbrev pub ShowsThat : Configurations → Run → Type 0
ShowsThat cs run = trace cs (events_of run) ≡ lines_expected run

-- the pending requests of node x after these events, with their numbers
abbrev pub pending_after : Configurations → Run → ℕ → List (ℕ × ℕ)
pending_after cs run x = (node_of cs (events_of run) x).pending

-- Three nodes. The frame of the first batch is delivered to node 2 twice, and the second time node
-- 2 acknowledges again.
abbrev pub a_repeated_forward_is_dropped : Run
a_repeated_forward_is_dropped =
    (Ask 1 1 (Submit (unmarked 101)) Answered, Forwards 1 2 0 1 ∷ []) ∷
    (Deliver 1 Answered, Forwards 2 3 0 1 ∷ []) ∷
    (Deliver 1 Answered, Drops reason.OtherNumber ∷ Acks 2 1 0 0 1 ∷ []) ∷
    (Deliver 2 Answered, Acks 3 2 0 1 1 ∷ []) ∷
    (Deliver 4 Answered, Acks 2 1 0 1 1 ∷ []) ∷
    (Deliver 5 Answered, Commits 1 1 ∷ []) ∷
    []

-- Two nodes. The first frame is lost, the second is delivered and dropped, and a tick sends both
-- again. The acknowledgements arrive in the wrong order, and the older one changes nothing.
abbrev pub a_lost_forward_is_sent_again : Run
a_lost_forward_is_sent_again =
    (Ask 1 1 (Submit (unmarked 101)) Answered, Forwards 1 2 0 1 ∷ []) ∷
    (Ask 1 2 (Submit (unmarked 102)) Answered, Forwards 1 2 0 2 ∷ []) ∷
    (Deliver 2 Answered, Drops reason.OtherNumber ∷ Acks 2 1 0 0 0 ∷ []) ∷
    (Tick 1 Answered, Forwards 1 2 0 1 ∷ Forwards 1 2 0 2 ∷ []) ∷
    (Deliver 4 Answered, Acks 2 1 0 1 1 ∷ []) ∷
    (Deliver 5 Answered, Acks 2 1 0 2 2 ∷ []) ∷
    (Deliver 7 Answered, Commits 1 1 ∷ Commits 2 2 ∷ []) ∷
    (Deliver 6 Answered, []) ∷
    (Ask 1 9 (Read None) Answered, Reads 9 2 (101 ∷ 102 ∷ []) ∷ []) ∷
    []

-- Three nodes. Node 2 has a second batch that is not committed, so it cannot be read. Node 2 is not
-- the head, so it accepts no batch of a client.
abbrev pub only_what_is_committed_is_read : Run
only_what_is_committed_is_read =
    (Ask 1 1 (Submit (unmarked 101)) Answered, Forwards 1 2 0 1 ∷ []) ∷
    (Deliver 1 Answered, Forwards 2 3 0 1 ∷ []) ∷
    (Deliver 2 Answered, Acks 3 2 0 1 1 ∷ []) ∷
    (Deliver 3 Answered, Acks 2 1 0 1 1 ∷ []) ∷
    (Deliver 4 Answered, Commits 1 1 ∷ []) ∷
    (Ask 1 6 (Submit (unmarked 106)) Answered, Forwards 1 2 0 2 ∷ []) ∷
    (Deliver 5 Answered, Forwards 2 3 0 2 ∷ []) ∷
    (Ask 2 8 (Read (Some 2)) Answered, Refuses 8 refusal.NotCommitted ∷ []) ∷
    (Ask 2 9 (Read None) Answered, Reads 9 1 (101 ∷ []) ∷ []) ∷
    (Ask 2 10 (Submit (unmarked 110)) Answered, Refuses 10 refusal.NotHead ∷ []) ∷
    []

-- The head is removed and does not know it. Its successor accepts none of its batches, and the new
-- head proceeds. The old head can still read the committed batches.
abbrev pub an_unaware_head_commits_nothing : Run
an_unaware_head_commits_nothing =
    (Ask 1 1 (Submit (unmarked 101)) Answered, Forwards 1 2 0 1 ∷ []) ∷
    (Deliver 1 Answered, Forwards 2 3 0 1 ∷ []) ∷
    (Deliver 2 Answered, Acks 3 2 0 1 1 ∷ []) ∷
    (Deliver 3 Answered, Acks 2 1 0 1 1 ∷ []) ∷
    (Deliver 4 Answered, Commits 1 1 ∷ []) ∷
    (Notice 2 1 Answered, Adopts 2 1 ∷ []) ∷
    (Notice 3 1 Answered, Adopts 3 1 ∷ Acks 3 2 1 1 1 ∷ []) ∷
    (Ask 1 8 (Submit (unmarked 108)) Answered, Forwards 1 2 0 2 ∷ []) ∷
    (Ask 2 9 (Submit (unmarked 109)) Answered, Forwards 2 3 1 2 ∷ []) ∷
    (Deliver 5 Answered, []) ∷
    (Deliver 6 Answered, Drops reason.OtherEpoch ∷ []) ∷
    (Deliver 7 Answered, Acks 3 2 1 2 2 ∷ []) ∷
    (Deliver 8 Answered, Commits 9 2 ∷ []) ∷
    (Ask 3 14 (Read None) Answered, Reads 14 2 (101 ∷ 109 ∷ []) ∷ []) ∷
    (Ask 1 15 (Read None) Answered, Reads 15 1 (101 ∷ []) ∷ []) ∷
    []

-- The middle node stops and is removed before it forwards a batch. The head sends the batch to the
-- tail.
abbrev pub a_middle_node_is_left_out : Run
a_middle_node_is_left_out =
    (Ask 1 1 (Submit (unmarked 101)) Answered, Forwards 1 2 0 1 ∷ []) ∷
    (Deliver 1 Answered, Forwards 2 3 0 1 ∷ []) ∷
    (Deliver 2 Answered, Acks 3 2 0 1 1 ∷ []) ∷
    (Deliver 3 Answered, Acks 2 1 0 1 1 ∷ []) ∷
    (Deliver 4 Answered, Commits 1 1 ∷ []) ∷
    (Ask 1 6 (Submit (unmarked 106)) Answered, Forwards 1 2 0 2 ∷ []) ∷
    (Deliver 5 Answered, Forwards 2 3 0 2 ∷ []) ∷
    (Stop 2, Stops 2 ∷ []) ∷
    (Notice 1 1 Answered, Adopts 1 1 ∷ []) ∷
    (Notice 3 1 Answered, Adopts 3 1 ∷ Acks 3 1 1 1 1 ∷ []) ∷
    (Tick 1 Answered, Forwards 1 3 1 2 ∷ []) ∷
    (Deliver 6 Answered, Drops reason.OtherEpoch ∷ []) ∷
    (Deliver 7 Answered, []) ∷
    (Deliver 8 Answered, Acks 3 1 1 2 2 ∷ []) ∷
    (Deliver 9 Answered, Commits 6 2 ∷ []) ∷
    []

-- The tail is removed. The node before it becomes the tail, and commits its list.
abbrev pub a_new_tail_commits : Run
a_new_tail_commits =
    (Ask 1 1 (Submit (unmarked 101)) Answered, Forwards 1 2 0 1 ∷ []) ∷
    (Deliver 1 Answered, Forwards 2 3 0 1 ∷ []) ∷
    (Notice 1 1 Answered, Adopts 1 1 ∷ []) ∷
    (Notice 2 1 Answered, Adopts 2 1 ∷ Acks 2 1 1 1 1 ∷ []) ∷
    (Deliver 3 Answered, Commits 1 1 ∷ []) ∷
    []

-- Node 2 skips an epoch and drops the late notice of it. Node 1 learns that it is removed.
abbrev pub epochs_are_skipped : Run
epochs_are_skipped =
    (Notice 2 2 Answered, Adopts 2 2 ∷ []) ∷
    (Notice 2 1 Answered, Drops reason.OldNotice ∷ []) ∷
    (Notice 1 2 Answered, Adopts 1 2 ∷ []) ∷
    (Ask 1 4 (Read None) Answered, Refuses 4 refusal.Removed ∷ []) ∷
    []

-- A node that does not run refuses requests and drops other inputs, and starts with its synced
-- state. A frame that was never sent is no event of any node.
abbrev pub a_stopped_node_says_so : Run
a_stopped_node_says_so =
    (Ask 1 1 (Submit (unmarked 101)) Answered, Commits 1 1 ∷ []) ∷
    (Start 1 Answered, Drops reason.Running ∷ []) ∷
    (Stop 1, Stops 1 ∷ []) ∷
    (Stop 1, Drops reason.NotRunning ∷ []) ∷
    (Tick 1 Answered, Drops reason.NotRunning ∷ []) ∷
    (Notice 1 0 Answered, Drops reason.NotRunning ∷ []) ∷
    (Tend 1 true 1 Answered, Drops reason.NotRunning ∷ []) ∷
    (Ask 1 8 (Read None) Answered, Refuses 8 refusal.NotRunning ∷ []) ∷
    (Deliver 1 Answered, []) ∷
    (Start 1 Answered, Starts 1 0 1 1 ∷ []) ∷
    (Ask 1 11 (Read None) Answered, Reads 11 1 (101 ∷ []) ∷ []) ∷
    (Ask 1 12 (Submit (unmarked 112)) StoppedAfter, Stops 1 ∷ []) ∷
    (Start 1 StoppedBefore, Stops 1 ∷ []) ∷
    (Start 1 Answered, Starts 1 0 2 2 ∷ []) ∷
    (Ask 1 15 (Submit (unmarked 115)) StoppedBefore, Stops 1 ∷ []) ∷
    (Start 1 Answered, Starts 1 0 2 2 ∷ []) ∷
    []

-- Two nodes. The floor rises to the open snapshot and no further. A started node knows only the
-- floor to be committed and has no snapshots, and a tick sends again from there.
abbrev pub the_floor_waits_for_snapshots : Run
the_floor_waits_for_snapshots =
    (Ask 1 1 (Submit (unmarked 101)) Answered, Forwards 1 2 0 1 ∷ []) ∷
    (Deliver 1 Answered, Acks 2 1 0 1 1 ∷ []) ∷
    (Deliver 2 Answered, Commits 1 1 ∷ []) ∷
    (Ask 1 4 (Open None) Answered, Opens 4 1 ∷ []) ∷
    (Ask 1 5 (Submit (unmarked 105)) Answered, Forwards 1 2 0 2 ∷ []) ∷
    (Deliver 3 Answered, Acks 2 1 0 2 2 ∷ []) ∷
    (Deliver 4 Answered, Commits 5 2 ∷ []) ∷
    (Tend 1 true 9 Answered, []) ∷
    (Ask 1 9 (Read (Some 0)) Answered, Refuses 9 refusal.TooOld ∷ []) ∷
    (Stop 1, Stops 1 ∷ []) ∷
    (Start 1 Answered, Starts 1 0 2 1 ∷ []) ∷
    (Ask 1 12 (Close 1) Answered, Refuses 12 refusal.NoSuchSnapshot ∷ []) ∷
    (Ask 1 13 (Read None) Answered, Reads 13 1 (101 ∷ []) ∷ []) ∷
    (Tick 1 Answered, Forwards 1 2 0 2 ∷ []) ∷
    []

-- The middle node reports that it has a batch, and is removed. The head does not know what its new
-- successor has, so a tick sends from the committed number on.
abbrev pub a_new_successor_is_sent_all : Run
a_new_successor_is_sent_all =
    (Ask 1 1 (Submit (unmarked 101)) Answered, Forwards 1 2 0 1 ∷ []) ∷
    (Deliver 1 Answered, Forwards 2 3 0 1 ∷ []) ∷
    (Deliver 1 Answered, Drops reason.OtherNumber ∷ Acks 2 1 0 0 1 ∷ []) ∷
    (Deliver 3 Answered, []) ∷
    (Tick 1 Answered, []) ∷
    (Notice 1 1 Answered, Adopts 1 1 ∷ []) ∷
    (Tick 1 Answered, Forwards 1 3 1 1 ∷ []) ∷
    (Notice 3 1 Answered, Adopts 3 1 ∷ Acks 3 1 1 0 0 ∷ []) ∷
    (Deliver 4 Answered, Acks 3 1 1 1 1 ∷ []) ∷
    (Deliver 6 Answered, Commits 1 1 ∷ []) ∷
    []

-- The head learns that it is removed, and forgets the pending request. The batch is committed, and
-- no client is answered.
abbrev pub a_removed_head_answers_nobody : Run
a_removed_head_answers_nobody =
    (Ask 1 1 (Submit (unmarked 101)) Answered, Forwards 1 2 0 1 ∷ []) ∷
    (Notice 1 1 Answered, Adopts 1 1 ∷ []) ∷
    (Tick 1 Answered, Drops reason.Removed ∷ []) ∷
    (Deliver 1 Answered, Forwards 2 3 0 1 ∷ []) ∷
    (Deliver 2 Answered, Acks 3 2 0 1 1 ∷ []) ∷
    (Deliver 3 Answered, Acks 2 1 0 1 1 ∷ []) ∷
    (Deliver 4 Answered, Drops reason.Removed ∷ []) ∷
    []

-- Node 1 is removed, and adopts a later epoch all the same. It sends nothing.
abbrev pub a_removed_node_adopts_on : Run
a_removed_node_adopts_on =
    (Notice 1 1 Answered, Adopts 1 1 ∷ []) ∷
    (Notice 1 2 Answered, Adopts 1 2 ∷ []) ∷
    (Notice 1 2 Answered, Drops reason.OldNotice ∷ []) ∷
    (Tick 1 Answered, Drops reason.Removed ∷ []) ∷
    []

-- requests i and on submit so many batches to the head of nodes 1 and 2, whose frames are sent
abbrev pub submits_from : ℕ → ℕ → Run
submits_from i zero = []
submits_from i (suc more) =
    (Ask 1 i (Submit (unmarked i)) Answered, Forwards 1 2 0 i ∷ []) ∷ submits_from (suc i) more

-- the lines of so many frames from node 1 to node 2, with batches k and on
abbrev pub forwards_from : ℕ → ℕ → List (TraceLine ℕ)
forwards_from k zero = []
forwards_from k (suc more) = Forwards 1 2 0 k ∷ forwards_from (suc k) more

-- Two nodes and 17 batches, whose frames are lost but for the first. A tick sends 16 of them, and
-- the next tick 16 after the first, which the successor then has.
abbrev pub a_tick_sends_16 : Run
a_tick_sends_16 =
    submits_from 1 17 ++
    (Tick 1 Answered, forwards_from 1 16) ∷
    (Deliver 1 Answered, Acks 2 1 0 1 1 ∷ []) ∷
    (Deliver 34 Answered, Commits 1 1 ∷ []) ∷
    (Tick 1 Answered, forwards_from 2 16) ∷
    []

-- Four nodes. A tick of node 3 sends its batch again and acknowledges again. Node 2 passes a report
-- on where more is committed, and no other. A tick of the tail acknowledges again.
abbrev pub only_news_is_passed_on : Run
only_news_is_passed_on =
    (Ask 1 1 (Submit (unmarked 101)) Answered, Forwards 1 2 0 1 ∷ []) ∷
    (Deliver 1 Answered, Forwards 2 3 0 1 ∷ []) ∷
    (Deliver 2 Answered, Forwards 3 4 0 1 ∷ []) ∷
    (Tick 3 Answered, Forwards 3 4 0 1 ∷ Acks 3 2 0 0 1 ∷ []) ∷
    (Deliver 5 Answered, []) ∷
    (Deliver 3 Answered, Acks 4 3 0 1 1 ∷ []) ∷
    (Deliver 6 Answered, Acks 3 2 0 1 1 ∷ []) ∷
    (Deliver 7 Answered, Acks 2 1 0 1 1 ∷ []) ∷
    (Deliver 7 Answered, []) ∷
    (Tick 4 Answered, Acks 4 3 0 1 1 ∷ []) ∷
    (Deliver 8 Answered, Commits 1 1 ∷ []) ∷
    []

-- Two nodes. The head stops before its batch is committed, and answers nobody after its start.
abbrev pub a_started_node_answers_nobody : Run
a_started_node_answers_nobody =
    (Ask 1 1 (Submit (unmarked 101)) Answered, Forwards 1 2 0 1 ∷ []) ∷
    (Stop 1, Stops 1 ∷ []) ∷
    (Start 1 Answered, Starts 1 0 1 0 ∷ []) ∷
    (Deliver 1 Answered, Acks 2 1 0 1 1 ∷ []) ∷
    (Deliver 2 Answered, []) ∷
    []

-- The head becomes the tail too. It commits its list and answers the pending request, once. A
-- notice of an epoch beyond the list does nothing.
abbrev pub an_adoption_answers : Run
an_adoption_answers =
    (Ask 1 1 (Submit (unmarked 101)) Answered, Forwards 1 2 0 1 ∷ []) ∷
    (Notice 1 1 Answered, Adopts 1 1 ∷ Commits 1 1 ∷ []) ∷
    (Notice 1 2 Answered, []) ∷
    (Ask 1 4 (Submit (unmarked 104)) Answered, Commits 4 2 ∷ []) ∷
    []

-- Node 1 is removed with one committed batch. Its floor rises all the same.
abbrev pub a_removed_node_tends : Run
a_removed_node_tends =
    (Ask 1 1 (Submit (unmarked 101)) Answered, Forwards 1 2 0 1 ∷ []) ∷
    (Deliver 1 Answered, Acks 2 1 0 1 1 ∷ []) ∷
    (Deliver 2 Answered, Commits 1 1 ∷ []) ∷
    (Notice 1 1 Answered, Adopts 1 1 ∷ []) ∷
    (Tend 1 true 9 Answered, []) ∷
    []

-- One node with two batches. A tend trims the first one only.
abbrev pub a_tend_trims_the_first : Run
a_tend_trims_the_first =
    (Ask 1 1 (Submit (unmarked 101)) Answered, Commits 1 1 ∷ []) ∷
    (Ask 1 2 (Submit (unmarked 102)) Answered, Commits 2 2 ∷ []) ∷
    (Tend 1 true 1 Answered, []) ∷
    []

-- the worked runs have the expected lines
pub record WorkedRuns : Type 0 where
  pub repeated : ShowsThat ((1 ∷ 2 ∷ 3 ∷ []) ∷ []) a_repeated_forward_is_dropped
  pub resent : ShowsThat ((1 ∷ 2 ∷ []) ∷ []) a_lost_forward_is_sent_again
  pub read : ShowsThat ((1 ∷ 2 ∷ 3 ∷ []) ∷ []) only_what_is_committed_is_read
  pub unaware : ShowsThat ((1 ∷ 2 ∷ 3 ∷ []) ∷ (2 ∷ 3 ∷ []) ∷ []) an_unaware_head_commits_nothing
  pub left_out : ShowsThat ((1 ∷ 2 ∷ 3 ∷ []) ∷ (1 ∷ 3 ∷ []) ∷ []) a_middle_node_is_left_out
  pub new_tail : ShowsThat ((1 ∷ 2 ∷ 3 ∷ []) ∷ (1 ∷ 2 ∷ []) ∷ []) a_new_tail_commits
  pub skipped : ShowsThat ((1 ∷ 2 ∷ 3 ∷ []) ∷ (1 ∷ 2 ∷ []) ∷ (2 ∷ []) ∷ []) epochs_are_skipped
  pub stopped : ShowsThat ((1 ∷ []) ∷ []) a_stopped_node_says_so
  pub floor : ShowsThat ((1 ∷ 2 ∷ []) ∷ []) the_floor_waits_for_snapshots
  pub new_successor : ShowsThat ((1 ∷ 2 ∷ 3 ∷ []) ∷ (1 ∷ 3 ∷ []) ∷ []) a_new_successor_is_sent_all
  pub removed : ShowsThat ((1 ∷ 2 ∷ 3 ∷ []) ∷ (2 ∷ 3 ∷ []) ∷ []) a_removed_head_answers_nobody
  pub adopts_on : ShowsThat ((1 ∷ 2 ∷ 3 ∷ []) ∷ (2 ∷ 3 ∷ []) ∷ (3 ∷ []) ∷ [])
      a_removed_node_adopts_on
  pub sends_16 : ShowsThat ((1 ∷ 2 ∷ []) ∷ []) a_tick_sends_16
  -- one request is pending after the first event, and none after the notice
  pub waits : pending_after ((1 ∷ 2 ∷ 3 ∷ []) ∷ (2 ∷ 3 ∷ []) ∷ [])
      (take 1 a_removed_head_answers_nobody) 1 ≡ (1, 1) ∷ []
  pub forgets : pending_after ((1 ∷ 2 ∷ 3 ∷ []) ∷ (2 ∷ 3 ∷ []) ∷ [])
      (take 2 a_removed_head_answers_nobody) 1 ≡ []
  pub news : ShowsThat ((1 ∷ 2 ∷ 3 ∷ 4 ∷ []) ∷ []) only_news_is_passed_on
  pub started : ShowsThat ((1 ∷ 2 ∷ []) ∷ []) a_started_node_answers_nobody
  pub answered : ShowsThat ((1 ∷ 2 ∷ []) ∷ (1 ∷ []) ∷ []) an_adoption_answers
  pub tended : ShowsThat ((1 ∷ 2 ∷ []) ∷ (2 ∷ []) ∷ []) a_removed_node_tends
  pub trimmed : ShowsThat ((1 ∷ []) ∷ []) a_tend_trims_the_first
  -- the floor of a removed node has risen
  pub rose : (node_of ((1 ∷ 2 ∷ []) ∷ (2 ∷ []) ∷ []) (events_of a_removed_node_tends) 1).floor ≡ 1
  -- the floor has risen to both batches, and one of them is trimmed
  pub floor_of_two : (node_of ((1 ∷ []) ∷ []) (events_of a_tend_trims_the_first) 1).floor ≡ 2
  pub kept_of_two : (node_of ((1 ∷ []) ∷ []) (events_of a_tend_trims_the_first) 1).kept ≡ 1
