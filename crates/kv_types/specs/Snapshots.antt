-- The numbers of open snapshots, as a list: one that was opened twice stands there twice.
use Rattle.std.specs.Prelude.{ℕ, List, [], ◌∷◌, Bool, true, false, if◌then◌else◌, ◌==◌, min}

-- whether a snapshot of number s is open
abbrev pub is_open : ℕ → List ℕ → Bool
is_open s [] = false
is_open s (t ∷ ts) = if s == t then true else is_open s ts

-- the list without the first s
abbrev pub without : ℕ → List ℕ → List ℕ
without s [] = []
without s (t ∷ ts) = if s == t then ts else t ∷ without s ts

-- the least of a number and the open snapshots
abbrev pub least : ℕ → List ℕ → ℕ
least m [] = m
least m (t ∷ ts) = least (min m t) ts
