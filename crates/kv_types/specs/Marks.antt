-- Marks, by which a client may submit a batch again.
use Rattle.std.specs.Prelude.{◌≡◌, ◌≤◌, ◌↔◌, ◌&&◌, ◌==◌, ℕ, suc, nat_le, Bool, true, List, [], ◌∷◌}
use Rattle.std.specs.Prelude.{Option, Some, None, if◌then◌else◌}
use Rattle.std.specs.Option.{option_or}
use Rattle.kv_types.specs.declared.bounds.TheConstants.{MAX_NUMBER}
use Rattle.kv_types.specs.declared.mark.HeldMark.{HeldMark}
use Rattle.kv_types.specs.declared.mark.Mark.{Mark}
use Rattle.kv_types.specs.Lists.{place}

-- client and request are numbers from 1 to 2^63 - 1
abbrev pub is_mark : Mark → Bool
is_mark mark =
    (nat_le 1 mark.client && nat_le mark.client MAX_NUMBER)
    && (nat_le 1 mark.request && nat_le mark.request MAX_NUMBER)

-- the mark is one that a batch may bear
abbrev pub IsMark : Mark → Type 0
IsMark mark = is_mark mark ≡ true

-- a content, and the mark that it bears, if it bears one
pub record Marked (A : Type 0) : Type 0 where
  pub mark : Option Mark
  pub content : A

-- a content that bears no mark
abbrev pub unmarked : {A : Type 0} → A → Marked A
unmarked content = record { mark = None; content = content }

-- a content that bears this mark
abbrev pub marked : {A : Type 0} → (client request : ℕ) → A → Marked A
marked client request content = record {
  mark = Some (record { client = client; request = request });
  content = content;
}

-- ---- the last mark of a client in a list

-- the request of the client's mark, and this number
abbrev pub own_mark : Option Mark → (client number : ℕ) → Option (ℕ × ℕ)
own_mark None client number = None
own_mark (Some mark) client number =
    if mark.client == client then Some (mark.request, number) else None

-- of the last batch that bears a mark of the client, its request and the batch's number, where the
-- first batch has number k
abbrev pub last_mark : {A : Type 0} → ℕ → List (Marked A) → ℕ → Option (ℕ × ℕ)
last_mark k [] client = None
last_mark k (batch ∷ list) client =
    option_or (last_mark (suc k) list client) (own_mark batch.mark client k)

-- The mark that a list holds for a client: the request of the last batch that bears a mark of it,
-- and this batch's number.
abbrev pub mark_held : {A : Type 0} → List (Marked A) → ℕ → Option (ℕ × ℕ)
mark_held list client = last_mark 1 list client

-- a held mark as request and number
abbrev pub held_as : Option HeldMark → Option (ℕ × ℕ)
held_as None = None
held_as (Some held) = Some (held.request, held.number)

-- Of the batches that bear a mark of the client, the last is at this number and bears this request.
pub record IsLastMark {A : Type 0} (list : List (Marked A)) (client request number : ℕ) : Type 0
  where
    pub batch : Marked A
    pub there : place list number ≡ Some batch
    pub bears : batch.mark ≡ Some (record { client = client; request = request })
    pub last : (k : ℕ) (other : Marked A) (mark : Mark) → place list k ≡ Some other
        → other.mark ≡ Some mark → mark.client ≡ client → k ≤ number

-- no batch bears a mark of the client
abbrev pub HasNoMark : {A : Type 0} → List (Marked A) → ℕ → Type 0
HasNoMark list client = (k : ℕ) (other : Marked _) (mark : Mark) → place list k ≡ Some other
    → other.mark ≡ Some mark → mark.client ≡ client → ⊥

-- the mark that a list holds is that of the last batch that bears one of the client
pub record HeldIsLast {A : Type 0} (list : List (Marked A)) (client : ℕ) : Type 0 where
  pub held : (request number : ℕ) → (mark_held list client ≡ Some (request, number))
      ↔ IsLastMark list client request number
  pub none : (mark_held list client ≡ None) ↔ HasNoMark list client
