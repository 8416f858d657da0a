-- A file of which nothing was synced.
use Rattle.std.specs.Prelude.{◌≡◌, ℕ, List, []}
use Rattle.disk.specs.{Absent, Fresh, Kept, Slot}

-- nothing of the file was synced: it has these bytes, and is absent if there are none
abbrev pub IsFresh : Slot → List ℕ → Type 0
IsFresh (Absent back) bytes = bytes ≡ []
IsFresh (Fresh seen back) bytes = seen ≡ bytes
IsFresh (Kept seen kept touches) bytes = ⊥

-- the file has these bytes, and a crash leaves them
abbrev pub IsSynced : Slot → List ℕ → Type 0
IsSynced slot bytes = slot ≡ Kept bytes bytes []
