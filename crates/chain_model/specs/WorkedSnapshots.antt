-- Worked runs of snapshots, with the replies to each event. Batches are numbers here. Definitions
-- without a source are this store's profile.
use Rattle.std.specs.Prelude.{◌≡◌, ℕ, zero, suc, [], ◌∷◌, ◌++◌, Some, None, true}
use Rattle.kv_types.specs.{unmarked}
use Rattle.chain_model.specs.declared.refusal.Refusal.TheVariants as refusal
use Rattle.chain_model.specs.Requests.{Submit, Read, Open, Close}
use Rattle.chain_model.specs.System.{Ask, Tend, Notice, Deliver, Answered, node_of}
use Rattle.chain_model.specs.Trace.{Forwards, Acks, Commits, Reads, Opens, Closes, Refuses, Adopts}
use Rattle.chain_model.specs.WorkedRuns.{Run, ShowsThat, events_of}

-- requests i and on open so many snapshots of an empty node, each at number 0
abbrev pub opens_from : ℕ → ℕ → Run
opens_from i zero = []
opens_from i (suc more) =
    (Ask 1 i (Open None) Answered, Opens i 0 ∷ []) ∷ opens_from (suc i) more

-- One node. It opens 64 snapshots and refuses another. A close leaves room for one.
abbrev pub the_65th_is_refused : Run
the_65th_is_refused =
    opens_from 1 64 ++
    (Ask 1 65 (Open None) Answered, Refuses 65 refusal.TooManySnapshots ∷ []) ∷
    (Ask 1 66 (Close 0) Answered, Closes 66 0 ∷ []) ∷
    (Ask 1 67 (Open None) Answered, Opens 67 0 ∷ []) ∷
    (Ask 1 68 (Open None) Answered, Refuses 68 refusal.TooManySnapshots ∷ []) ∷
    []

-- One node. Two snapshots are opened at number 1, and one is closed. The floor waits for the other
-- one, and rises when it is closed too.
abbrev pub a_close_leaves_the_other : Run
a_close_leaves_the_other =
    (Ask 1 1 (Submit (unmarked 101)) Answered, Commits 1 1 ∷ []) ∷
    (Ask 1 2 (Open None) Answered, Opens 2 1 ∷ []) ∷
    (Ask 1 3 (Open (Some 1)) Answered, Opens 3 1 ∷ []) ∷
    (Ask 1 4 (Submit (unmarked 104)) Answered, Commits 4 2 ∷ []) ∷
    (Ask 1 5 (Close 2) Answered, Refuses 5 refusal.NoSuchSnapshot ∷ []) ∷
    (Ask 1 6 (Close 1) Answered, Closes 6 1 ∷ []) ∷
    (Tend 1 true 9 Answered, []) ∷
    (Ask 1 8 (Read (Some 1)) Answered, Reads 8 1 (101 ∷ []) ∷ []) ∷
    (Ask 1 9 (Close 1) Answered, Closes 9 1 ∷ []) ∷
    (Ask 1 10 (Close 1) Answered, Refuses 10 refusal.NoSuchSnapshot ∷ []) ∷
    (Tend 1 true 9 Answered, []) ∷
    (Ask 1 12 (Read (Some 1)) Answered, Refuses 12 refusal.TooOld ∷ []) ∷
    []

-- One node with three batches. A snapshot is opened at the number that the request names, from the
-- floor to the committed number, and the floor rises to it.
abbrev pub an_open_names_its_number : Run
an_open_names_its_number =
    (Ask 1 1 (Submit (unmarked 101)) Answered, Commits 1 1 ∷ []) ∷
    (Ask 1 2 (Submit (unmarked 102)) Answered, Commits 2 2 ∷ []) ∷
    (Ask 1 3 (Submit (unmarked 103)) Answered, Commits 3 3 ∷ []) ∷
    (Ask 1 4 (Open (Some 2)) Answered, Opens 4 2 ∷ []) ∷
    (Ask 1 5 (Open (Some 4)) Answered, Refuses 5 refusal.NotCommitted ∷ []) ∷
    (Tend 1 true 9 Answered, []) ∷
    (Ask 1 7 (Read (Some 2)) Answered, Reads 7 2 (101 ∷ 102 ∷ []) ∷ []) ∷
    (Ask 1 8 (Open (Some 1)) Answered, Refuses 8 refusal.TooOld ∷ []) ∷
    (Ask 1 9 (Open (Some 2)) Answered, Opens 9 2 ∷ []) ∷
    []

-- Node 1 has a snapshot at number 1 and adopts an epoch. The snapshot stays open, also after a tend
-- that raises the floor: another tend raises it no further.
abbrev pub a_snapshot_stays_open : Run
a_snapshot_stays_open =
    (Ask 1 1 (Submit (unmarked 101)) Answered, Forwards 1 2 0 1 ∷ []) ∷
    (Deliver 1 Answered, Acks 2 1 0 1 1 ∷ []) ∷
    (Deliver 2 Answered, Commits 1 1 ∷ []) ∷
    (Ask 1 4 (Open None) Answered, Opens 4 1 ∷ []) ∷
    (Notice 1 1 Answered, Adopts 1 1 ∷ []) ∷
    (Ask 1 6 (Submit (unmarked 106)) Answered, Commits 6 2 ∷ []) ∷
    (Tend 1 true 9 Answered, []) ∷
    (Ask 1 8 (Read (Some 0)) Answered, Refuses 8 refusal.TooOld ∷ []) ∷
    (Ask 1 9 (Read (Some 1)) Answered, Reads 9 1 (101 ∷ []) ∷ []) ∷
    (Tend 1 true 9 Answered, []) ∷
    (Ask 1 11 (Read (Some 1)) Answered, Reads 11 1 (101 ∷ []) ∷ []) ∷
    (Ask 1 12 (Close 1) Answered, Closes 12 1 ∷ []) ∷
    []

-- Node 1 has a snapshot and is removed. It closes none and opens none.
abbrev pub a_removed_node_closes_none : Run
a_removed_node_closes_none =
    (Ask 1 1 (Open None) Answered, Opens 1 0 ∷ []) ∷
    (Notice 1 1 Answered, Adopts 1 1 ∷ []) ∷
    (Ask 1 3 (Close 0) Answered, Refuses 3 refusal.Removed ∷ []) ∷
    (Ask 1 4 (Open None) Answered, Refuses 4 refusal.Removed ∷ []) ∷
    []

-- the worked runs of snapshots have the expected lines
pub record WorkedSnapshots : Type 0 where
  pub full : ShowsThat ((1 ∷ []) ∷ []) the_65th_is_refused
  pub twice : ShowsThat ((1 ∷ []) ∷ []) a_close_leaves_the_other
  pub named : ShowsThat ((1 ∷ []) ∷ []) an_open_names_its_number
  pub stays : ShowsThat ((1 ∷ 2 ∷ []) ∷ (1 ∷ []) ∷ []) a_snapshot_stays_open
  pub removed : ShowsThat ((1 ∷ 2 ∷ []) ∷ (2 ∷ []) ∷ []) a_removed_node_closes_none
  -- the floor has stayed at the snapshot, and the batch up to it is trimmed
  pub floor : (node_of ((1 ∷ 2 ∷ []) ∷ (1 ∷ []) ∷ []) (events_of a_snapshot_stays_open) 1).floor ≡ 1
  pub kept : (node_of ((1 ∷ 2 ∷ []) ∷ (1 ∷ []) ∷ []) (events_of a_snapshot_stays_open) 1).kept ≡ 1
