-- Bytes written behind a closed gate, which is then opened.
use Rattle.std.specs.Prelude.{◌≡◌, ◌⊎◌, ℕ, ◌+◌, ◌<◌, List, [], ◌∷◌, ◌++◌, length, take, drop}
use Rattle.std.specs.Prelude.{Option, Some, IsSomeAnd}
use Rattle.std.specs.Int.{w32, to_be_bytes}
use Rattle.disk.specs.Calls.{CanBegin}
use Rattle.disk.specs.{IsFileOutcome, Kept, Slot, State, overwritten, seen, written}

-- the file has these bytes, and they are durable
abbrev pub IsDurableAs : State → ℕ → List ℕ → Type 0
IsDurableAs disk file bytes = disk file ≡ Kept bytes bytes []

-- ---- any file

-- these bytes, with the gate at this place open
abbrev pub with_open_gate : List ℕ → ℕ → List ℕ
with_open_gate all gate = overwritten all gate (1 ∷ [])

-- A write of these bytes may begin at this place of the file, which then has all of those; some of
-- them stand behind the gate.
pub record IsGatedWrite (slot : Slot) (gate at : ℕ) (bytes all : List ℕ) : Type 0 where
  pub begins : CanBegin (seen slot) at
  pub has : seen (written at bytes slot) ≡ Some all
  pub some : gate + 1 < length all

-- these bytes, whatever the gate is; more may follow
abbrev pub HasAllButGate : List ℕ → ℕ → List ℕ → Type 0
HasAllButGate all gate left =
    (value : ℕ) × (rest : List ℕ)
    × (left ≡ take gate all ++ (value ∷ (drop (gate + 1) all ++ rest)))

-- A crash outcome during the four calls. It was possible before the write, or it is one of the
-- write, or it has all the bytes but for the gate.
abbrev pub IsPartlyOpened : Slot → (gate at : ℕ) → (bytes all : List ℕ) → Option (List ℕ) → Type 0
IsPartlyOpened slot gate at bytes all left =
    IsFileOutcome slot left
    ⊎ (IsFileOutcome (written at bytes slot) left ⊎ IsSomeAnd left (HasAllButGate all gate))

-- ---- a log

-- the file's bytes after an append
abbrev pub pushed : List ℕ → ℕ → List ℕ → List ℕ
pushed bytes gate behind = with_open_gate (overwritten bytes (gate + 1) behind) gate

-- the bytes behind the gate of a record: the length, the record, and a closed gate
abbrev pub behind_of : List ℕ → List ℕ
behind_of one = to_be_bytes w32 (length one) ++ one ++ 0 ∷ []
