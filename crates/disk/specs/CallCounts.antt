-- How many calls of a disk a function makes. An honest disk's past grows by one state a call.
use Rattle.std.specs.Prelude.{◌≡◌, ◌+◌, ◌≤◌, ℕ, length, Result, Ok, Err}
use Rattle.disk.specs.declared.disk.Disk.{Ghosts}

-- a count rises by this number, or by no more where the answer is a refusal
abbrev pub RisesBy : {T E : Type 0} → ℕ → (before now : ℕ) → Result T E → Type 0
RisesBy calls before now (Ok _) = now ≡ before + calls
RisesBy calls before now (Err _) = now ≤ before + calls

-- an honest disk was called exactly so often, or no more often where the answer is a refusal
abbrev pub MakesCalls : {D T E : Type 0} → Ghosts D → ℕ → (old new : D) → Result T E → Type 0
MakesCalls g calls old new result =
    g.is_honest old → RisesBy calls (length (g.past old)) (length (g.past new)) result

-- An honest disk was called so often at most. A call that wants memory never reaches the device,
-- and is not counted.
abbrev pub CallsAtMost : {D : Type 0} → Ghosts D → ℕ → (old new : D) → Type 0
CallsAtMost g calls old new = g.is_honest old → length (g.past new) ≤ length (g.past old) + calls
