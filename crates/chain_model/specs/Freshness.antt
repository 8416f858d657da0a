-- Freshness of reads at the last tail. Definitions without a source are this store's profile.
use Rattle.std.specs.Prelude.{◌≡◌, ℕ, suc, ◌≤◌, List, [], ◌∷◌, length, None, true, All}
use Rattle.configurations.specs.{Configurations, is_tail, last_of}
use Rattle.chain_model.specs.Requests.{Read, Response, Committed, Shows, Opened}
use Rattle.chain_model.specs.System.{SystemEvent, Ask, Answered, reached, node_of, outcome}

-- the number of the reply's acknowledgement, read or snapshot is at most s
abbrev pub IsAtMost : {A : Type 0} → ℕ → Response A → Type 0
IsAtMost s (Committed i n) = n ≤ s
IsAtMost s (Shows i n l) = n ≤ s
IsAtMost s (Opened i n) = n ≤ s
IsAtMost s _ = Unit {0}

-- A read without a number at node t is of its full list. No earlier acknowledgement, read or
-- snapshot has a number greater than the list's length.
pub record SeesAll {A : Type 0} (cs : Configurations) (events : List (SystemEvent A)) (t : ℕ) : Type
    0
  where
    pub shows : (i : ℕ) → (outcome (reached cs events) cs (Ask t i (Read None) Answered)).replies
        ≡ Shows i (length (node_of cs events t).list) (node_of cs events t).list ∷ []
    pub before : All (IsAtMost (length (node_of cs events t).list)) (reached cs events).replies

-- The last configuration's tail sees all of this, while it runs at that epoch (van Renesse and
-- Schneider 2004, section 3, where the tail answers queries; the rest is this store's profile).
abbrev pub ReadsFresh : {A : Type 0} → Configurations → List (SystemEvent A) → Type 0
ReadsFresh cs events =
    (t : ℕ) → is_tail (last_of cs) t ≡ true → suc (node_of cs events t).epoch ≡ length cs
    → (node_of cs events t).running ≡ true → SeesAll cs events t
