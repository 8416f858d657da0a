-- What a carrier was asked between two moments, and what became of that.
use Rattle.std.specs.Prelude.{◌≡◌, ◌↔◌, ℕ, All, List, Option, None}
use Rattle.carriers.specs.declared.carrier.Carrier.{Ghosts as Carriers}
use Rattle.carriers.specs.declared.carrier.Peer.{Peer}
use Rattle.carriers.specs.Transmissions.{HasCarriedMore, IsUnaltered, Transmission}
use Rattle.carriers.specs.Transmissions.{one_transmission}

-- Behind all that a carrier had carried, it has carried these, and is as faithful as it was. A
-- faithful one altered none of them, and only one that may lose something lost any.
pub record HasCarried {C : Type 0} (h : Carriers C) (old new : C) (more : List Transmission) :
    Type 0
  where
    pub faithful : h.is_faithful new ↔ h.is_faithful old
    pub asked : HasCarriedMore h.has_carried old new more
    pub unaltered : h.is_faithful old → All IsUnaltered more
    pub lost : All (λ it. it.got ≡ None → h.loses) more

-- .. and has carried these bytes once; of what arrived this is so
abbrev pub HasCarriedOne : {C : Type 0} → Carriers C → C → C → Peer → Peer → List ℕ
    → (Option (List ℕ) → Type 0) → Type 0
HasCarriedOne h old new from to bytes is_so = (got : Option (List ℕ))
    × HasCarried h old new (one_transmission from to bytes got) × is_so got
