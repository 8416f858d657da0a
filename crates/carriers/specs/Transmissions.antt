-- What a carrier was asked to carry, from its first call on.
use Rattle.std.specs.Prelude.{◌≡◌, ◌⊎◌, ℕ, Bool, List, [], ◌∷◌, ◌++◌, Option, Some, None}
use Rattle.std.specs.Prelude.{if◌then◌else◌}
use Rattle.carriers.specs.declared.carrier.Carried.{Carried}
use Rattle.carriers.specs.declared.carrier.Carried.TheVariants.{Bytes, Lost, Same}
use Rattle.carriers.specs.declared.carrier.Peer.{Peer}

-- one call of a carrier: the two ends, the bytes that were to be carried, and what arrived, unless
-- they were lost
pub record Transmission : Type 0 where
  pub from : Peer
  pub to : Peer
  pub bytes : List ℕ
  pub got : Option (List ℕ)

-- the list of one such call
abbrev pub one_transmission : Peer → Peer → List ℕ → Option (List ℕ) → List Transmission
one_transmission from to bytes got =
    record { from = from; to = to; bytes = bytes; got = got } ∷ []

-- what arrived of bytes that were to be carried, by a carrier's answer
abbrev pub carried_bytes : List ℕ → Carried → Option (List ℕ)
carried_bytes bytes Same = Some bytes
carried_bytes bytes (Bytes got) = Some got.items
carried_bytes bytes Lost = None

-- what arrives of bytes that are not altered
abbrev pub unless_lost : Bool → List ℕ → Option (List ℕ)
unless_lost lost bytes = if lost then None else Some bytes

-- the bytes arrived as they were sent, or were lost
abbrev pub IsUnaltered : Transmission → Type 0
IsUnaltered it = (it.got ≡ None) ⊎ (it.got ≡ Some it.bytes)

-- behind all that a carrier had carried, it has carried these
abbrev pub HasCarriedMore : {C : Type 0} → (C → List Transmission → Type 0) → C → C
    → List Transmission → Type 0
HasCarriedMore has_carried old new more =
    (earlier : List Transmission) → has_carried old earlier → has_carried new (earlier ++ more)
