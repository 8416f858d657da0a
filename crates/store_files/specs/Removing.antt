-- Removals of given files.
use Rattle.std.specs.Prelude.{ℕ, List, All, Contains, IsNone}
use Rattle.disk.specs.{Contents, IsFileOutcome, State, seen}

-- none of these files exists
abbrev pub AreAbsent : List ℕ → State → Type 0
AreAbsent gone disk = All (λ file. IsNone (seen (disk file))) gone

-- a crash left of each file but these what it might have left when the disk had this state
abbrev pub AreLeftBeside : List ℕ → State → Contents → Type 0
AreLeftBeside gone disk left =
    (file : ℕ) → (Contains gone file → ⊥) → IsFileOutcome (disk file) (left file)
