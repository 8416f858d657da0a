-- The versions of one key.
use Rattle.std.specs.Prelude.{◌≡◌, ℕ, ◌<◌, ◌≤◌, ◌==◌, List, [], ◌∷◌, ◌++◌, length, slice_get}
use Rattle.std.specs.Prelude.{Option, Some, None, Bool, true, not, if◌then◌else◌}
use Rattle.memtable.specs.declared.version.Version.{Version}
use Rattle.memtable.specs.declared.version.Versions.{Versions}

-- in order of their numbers
abbrev pub all_of : Versions → List Version
all_of versions = versions.older.items ++ versions.newest ∷ []

-- the newest version, if there is one, has another number
abbrev pub lacks : List Version → ℕ → Bool
lacks [] number = true
lacks (newest ∷ []) number = not (newest.number == number)
lacks (first ∷ second ∷ others) number = lacks (second ∷ others) number

-- with one more, unless the newest has its number
abbrev pub with_version : List Version → Version → List Version
with_version versions version =
    if lacks versions version.number then versions ++ version ∷ [] else versions

-- each has a greater number than those before it
abbrev pub IsRisingList : List Version → Type 0
IsRisingList versions =
    (i j : ℕ) (a b : Version) → i < j → slice_get versions i ≡ Some a →
    slice_get versions j ≡ Some b → a.number < b.number

-- the place of the last one whose number is at most this, if there is one
abbrev pub IsLastUpTo : List Version → ℕ → Option ℕ → Type 0
IsLastUpTo versions number None =
    (i : ℕ) (v : Version) → slice_get versions i ≡ Some v → number < v.number
IsLastUpTo versions number (Some at) =
    (at < length versions)
    × ((i : ℕ) (v : Version) → i ≤ at → slice_get versions i ≡ Some v → v.number ≤ number)
    × ((i : ℕ) (v : Version) → at < i → slice_get versions i ≡ Some v → number < v.number)
