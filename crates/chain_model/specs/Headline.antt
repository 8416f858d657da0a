-- The headline: one list of batches with which every read, acknowledgement and refusal agrees.
-- Definitions without a source are this store's profile.
use Rattle.std.specs.Prelude.{◌≡◌, ◌≢◌, ◌⊎◌, ℕ, suc, ◌<◌, ◌≤◌, List, [], ◌∷◌, length, map, take}
use Rattle.std.specs.Prelude.{All, Contains, Some, true}
use Rattle.kv_types.specs.{IsPrefix, Marked, Part, has, place}
use Rattle.kv_types.specs.declared.mark.Mark.{Mark}
use Rattle.configurations.specs.{Configurations, last_of}
use Rattle.chain_model.specs.Requests.{Submit, Response, Committed, Shows, Refused}
use Rattle.chain_model.specs.System.{SystemEvent, Ask, reached, node_of}

-- events whose requests are numbered by their event's place, the first being i
abbrev pub numbered : {A : Type 0} → ℕ → List (SystemEvent A) → List (SystemEvent A)
numbered i [] = []
numbered i (Ask x number request went ∷ es) = Ask x i request went ∷ numbered (suc i) es
numbered i (e ∷ es) = e ∷ numbered (suc i) es

-- the submitted batches, each with its event's place, in order
abbrev pub submitted : {A : Type 0} → ℕ → List (SystemEvent A) → List (ℕ × Marked A)
submitted i [] = []
submitted i (Ask x number (Submit batch) went ∷ es) = (i, batch) ∷ submitted (suc i) es
submitted i (e ∷ es) = submitted (suc i) es

-- batches without the places of their events
abbrev pub batches : {A : Type 0} → List (ℕ × Marked A) → List (Marked A)
batches placed = map (λ (p : ℕ × Marked _). p.1) placed

-- Event i submits again the batch of this earlier place: its own batch bears the same mark.
pub record IsRepeat {A : Type 0} (asked : List (ℕ × Marked A)) (i : ℕ) (placed : ℕ × Marked A)
    : Type 0 where
  pub earlier : placed.0 < i
  pub mark : Mark
  pub bears : placed.1.mark ≡ Some mark
  pub batch : Marked A
  pub submits : Contains asked (i, batch)
  pub same : batch.mark ≡ Some mark

-- An acknowledgement of n to request i says that place n of B is the batch of event i, or the
-- earlier batch that event i submits again. A read at s is of B's first s batches. A refusal of
-- request i says that B has no batch of event i. The first list is that of all submitted batches.
abbrev pub ResponseAgrees : {A : Type 0} → (asked B : List (ℕ × Marked A)) → Response A → Type 0
ResponseAgrees asked B (Committed i n) =
    (placed : ℕ × Marked _)
    × ((place B n ≡ Some placed) × ((placed.0 ≡ i) ⊎ IsRepeat asked i placed))
ResponseAgrees asked B (Shows i s l) = (s ≤ length B) × (l ≡ take s (batches B))
ResponseAgrees asked B (Refused i why) = All (λ (p : ℕ × Marked _). p.0 ≢ i) B
ResponseAgrees asked B _ = Unit {0}

-- There is one list of batches (this store's profile; of the history that nodes share: van Renesse
-- and Schneider 2004, section 3).
pub record OneList {A : Type 0} (cs : Configurations) (events : List (SystemEvent A)) : Type 0 where
  pub B : List (ℕ × Marked A)
  -- it is a sublist of the submitted batches, in order and each at most once
  pub taken : Part B (submitted 1 events)
  -- every read, acknowledgement and refusal agrees with it
  pub agrees : All (ResponseAgrees (submitted 1 events) B) (reached cs (numbered 1 events)).replies
  -- the list of every node of the last configuration begins with it
  pub stands : (x : ℕ) → has (last_of cs) x ≡ true
      → IsPrefix (batches B) (node_of cs (numbered 1 events) x).list
