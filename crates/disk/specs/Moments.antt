-- What a crash at any moment since an earlier one may have left. A moment is the list of the states
-- that the disk had had until then, the latest first: at first, and after each call and crash.
use Rattle.std.specs.Prelude.{◌≡◌, ◌≢◌, ◌⊎◌, ℕ, List, [], ◌∷◌, Option, Contains}
use Rattle.disk.specs.States.{State, Contents, IsCrashOutcome, IsFileOutcome, IsSame}

-- every crash outcome of the state has P
abbrev pub OnlyLeaves : (Contents → Type 0) → State → Type 0
OnlyLeaves P disk = (left : Contents) → IsCrashOutcome disk left → P left

-- the states so far are one more, which is this one
abbrev pub AddsMoment : List State → List State → State → Type 0
AddsMoment past since new = (now : State) × IsSame new now × (since ≡ now ∷ past)

-- The effect of a call on the states so far: the state after it is one more. If it changed nothing,
-- they may stay as they are.
abbrev pub Passes : List State → State → List State → State → Type 0
Passes past old since new = ((since ≡ past) × IsSame old new) ⊎ AddsMoment past since new

-- this is the latest of these states
abbrev pub IsLastLeft : List State → State → Type 0
IsLastLeft [] now = ⊥
IsLastLeft (left ∷ before) now = IsSame left now

-- each state that came since leaves only contents with P
pub data AllLeave (P : Contents → Type 0) (past : List State) : List State → Type 0 where
  None : AllLeave P past past
  Then : (now : State) (since : List State) → OnlyLeaves P now → AllLeave P past since
      → AllLeave P past (now ∷ since)

-- A crash at any moment leaves contents with P: when the disk had the first state and these states
-- so far, at each moment since, and now.
pub record LeavesSince (old : State) (past : List State) (new : State) (since : List State)
    (P : Contents → Type 0) : Type 0 where
  pub first : OnlyLeaves P old
  pub later : AllLeave P past since
  pub now : OnlyLeaves P new

-- a crash left of these files what it might have left when the disk had this state
abbrev pub AreLeftOf : List ℕ → State → Contents → Type 0
AreLeftOf kept disk left = (file : ℕ) → Contains kept file → IsFileOutcome (disk file) (left file)

-- A crash left of one file contents with Q, and of every other file what it might have left when
-- the disk had this state.
pub record IsLeftAt (disk : State) (file : ℕ) (Q : Option (List ℕ) → Type 0) (left : Contents)
    : Type 0 where
  pub here : Q (left file)
  pub others : (other : ℕ) → other ≢ file → IsFileOutcome (disk other) (left other)

-- ---- calls beside the files that are named

-- P depends on no file that the contents do not name
abbrev pub LooksAt : (Contents → ℕ → Type 0) → (Contents → Type 0) → Type 0
LooksAt Names P = (left other : Contents) → ((file : ℕ) → Names left file → other file ≡ left file)
    → P left → P other

-- no crash outcome of the state names the file
abbrev pub IsUnnamed : (Contents → ℕ → Type 0) → State → ℕ → Type 0
IsUnnamed Names disk file = OnlyLeaves (λ left. Names left file → ⊥) disk
