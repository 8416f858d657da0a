-- Exactly once: a batch that a client submits again, by its mark, is in the list once, and each
-- acknowledgement names its one place. Definitions without a source are this store's profile.
use Rattle.std.specs.Prelude.{◌≡◌, ℕ, ◌≤◌, List, All, Contains, Some, None}
use Rattle.kv_types.specs.{Marked, place}
use Rattle.kv_types.specs.declared.mark.Mark.{Mark}
use Rattle.configurations.specs.{Configurations}
use Rattle.chain_model.specs.Requests.{Response, Committed}
use Rattle.chain_model.specs.System.{SystemEvent, reached}
use Rattle.chain_model.specs.Headline.{numbered, submitted}

-- no two batches of the list bear one mark
abbrev pub HasMarksOnce : {A : Type 0} → List (ℕ × Marked A) → Type 0
HasMarksOnce {A = A} B =
    (j k : ℕ) (a b : ℕ × Marked A) (mark : Mark) → place B j ≡ Some a → place B k ≡ Some b
    → a.1.mark ≡ Some mark → b.1.mark ≡ Some mark → j ≡ k

-- the mark is used for one batch only: submitted batches that bear it are equal
abbrev pub HasOneBatch : {A : Type 0} → List (ℕ × Marked A) → Mark → Type 0
HasOneBatch {A = A} asked mark =
    (i j : ℕ) (a b : Marked A) → Contains asked (i, a) → Contains asked (j, b)
    → a.mark ≡ Some mark → b.mark ≡ Some mark → a ≡ b

-- The acknowledgement of n to request i, where `asked` are the submitted batches.
pub record IsPlaceOfBatch {A : Type 0} (asked B : List (ℕ × Marked A)) (i n : ℕ) : Type 0 where
  -- of a batch without a mark: it is at place n
  pub plain : (batch : Marked A) → Contains asked (i, batch) → batch.mark ≡ None
      → place B n ≡ Some (i, batch)
  -- of a batch with a mark: a batch with this mark is at place n, of event i or an earlier one
  pub marked : (batch : Marked A) (mark : Mark) → Contains asked (i, batch)
      → batch.mark ≡ Some mark
      → (placed : ℕ × Marked A)
      × ((place B n ≡ Some placed) × ((placed.1.mark ≡ Some mark) × (placed.0 ≤ i)))
  -- where this mark is used for one batch only: that batch is there
  pub own : (batch : Marked A) (mark : Mark) → Contains asked (i, batch) → batch.mark ≡ Some mark
      → HasOneBatch asked mark → (j : ℕ) × (place B n ≡ Some (j, batch))

-- a reply that is an acknowledgement is of the place of such a batch
abbrev pub ResponseNamesPlace : {A : Type 0} → (asked B : List (ℕ × Marked A)) → Response A → Type 0
ResponseNamesPlace asked B (Committed i n) = IsPlaceOfBatch asked B i n
ResponseNamesPlace asked B _ = Unit {0}

-- No two batches of B bear one mark, and every acknowledgement, first or repeated, names the place
-- in B of the one batch that bears the mark of the acknowledged one.
pub record ExactlyOnce {A : Type 0} (cs : Configurations) (events : List (SystemEvent A))
    (B : List (ℕ × Marked A)) : Type 0 where
  pub once : HasMarksOnce B
  pub named : All (ResponseNamesPlace (submitted 1 events) B)
      (reached cs (numbered 1 events)).replies
