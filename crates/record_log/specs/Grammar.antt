-- The list of records that bytes represent.
use Rattle.std.specs.Prelude.{◌≡◌, ◌≢◌, ℕ, ◌+◌, ◌<◌, ◌^◌, List, [], ◌∷◌, ◌++◌, length}
use Rattle.std.specs.Int.{w32, to_be_bytes}

-- the bytes of a record: an open gate, the length, and the record
abbrev pub entry : List ℕ → List ℕ
entry one = 1 ∷ to_be_bytes w32 (length one) ++ one

-- the bytes begin with a closed gate
abbrev pub IsClosed : List ℕ → Type 0
IsClosed bytes = (gate : ℕ) × (rest : List ℕ) × (gate ≢ 1) × (bytes ≡ gate ∷ rest)

-- The bytes represent these records. A closed gate ends the list, whatever follows it. Behind an
-- open gate follow a record and the bytes of the others.
abbrev pub Represents : List ℕ → List (List ℕ) → Type 0
Represents bytes [] = IsClosed bytes
Represents bytes (first ∷ others) =
    (rest : List ℕ) × (length first < 2 ^ 32) × (bytes ≡ entry first ++ rest)
    × Represents rest others

-- the places where the records end, if the first begins at this place
abbrev pub ends_from : ℕ → List (List ℕ) → List ℕ
ends_from at [] = []
ends_from at (first ∷ others) =
    (at + 5 + length first) ∷ ends_from (at + 5 + length first) others

-- the place where the last record ends
abbrev pub end_of : ℕ → List (List ℕ) → ℕ
end_of at [] = at
end_of at (first ∷ others) = end_of (at + 5 + length first) others

-- bytes represent at most one list of records
abbrev pub RecordsAreUnique : Type 0
RecordsAreUnique = (bytes : List ℕ) (records others : List (List ℕ)) →
    Represents bytes records → Represents bytes others → records ≡ others
