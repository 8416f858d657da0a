-- One call of a carrier.
use Rattle.std.proofs.Common.{◌≡◌, ℕ, List, Some, None, inl, inr, refl}
use Rattle.std.proofs.Common.{ap, subst}
use Rattle.std.proofs.lemmas.List.Elements.{All-from_recursion}
use Rattle.std.specs.Prelude.{◌↔◌, ◌≢◌}
use Rattle.link_messages.specs.declared.Frame.{Frame}
use Rattle.link_messages.specs.{frame_bytes}
use Rattle.carriers.specs.declared.carrier.Carrier.{Ghosts as Carriers}
use Rattle.carriers.specs.declared.carrier.Carried.{Carried}
use Rattle.carriers.specs.declared.carrier.Carried.TheVariants.{Bytes, Lost, Same}
use Rattle.carriers.specs.declared.carrier.Peer.{Peer}
use Rattle.carriers.specs.declared.sending.Received.{Received}
use Rattle.carriers.specs.declared.sending.Received.TheVariants as received
use Rattle.carriers.specs.Carriers.{HasLost, IsCarried, IsReceived, IsReceivedOf}
use Rattle.carriers.specs.Carrying.{HasCarried}
use Rattle.carriers.specs.Transmissions.{HasCarriedMore, IsUnaltered, Transmission, carried_bytes}
use Rattle.carriers.specs.Transmissions.{one_transmission}

-- what was carried is not altered
unaltered : (from to : Peer) (bytes : List ℕ) (it : Carried) → IsCarried bytes it →
    IsUnaltered (record { from = from; to = to; bytes = bytes; got = carried_bytes bytes it })
unaltered from to bytes Same is = inr refl
unaltered from to bytes (Bytes got) is = inr (ap (λ (l : List ℕ). Some l) is)
unaltered from to bytes Lost is = inl refl

-- where nothing arrived the answer is that
lost_so : (bytes : List ℕ) (it : Carried) → carried_bytes bytes it ≡ None → HasLost it
lost_so bytes Same is = absurd cc
lost_so bytes (Bytes got) is = absurd cc
lost_so bytes Lost is = tt

-- a carrier was asked once, for bytes that are these, and answered this
pub one_carried : {C : Type 0} (h : Carriers C) (old new : C) (from to : Peer)
    (bytes sent : List ℕ) (was it : Carried) → bytes ≡ sent → was ≡ it →
    (h.is_faithful old → IsCarried bytes was) → (HasLost was → h.loses) →
    HasCarriedMore h.has_carried old new
    (one_transmission from to bytes (carried_bytes bytes was)) →
    (h.is_faithful new ↔ h.is_faithful old) →
    HasCarried h old new (one_transmission from to sent (carried_bytes sent it))
one_carried {C = C} h old new from to bytes sent was it same is carried lost asked stays =
    subst (λ (b : List ℕ). HasCarried h old new (one_transmission from to b (carried_bytes b it)))
    same (subst (λ (a : Carried).
    HasCarried h old new (one_transmission from to bytes (carried_bytes bytes a))) is (record {
      faithful = stays;
      asked = asked;
      unaltered = λ faithful. All-from_recursion IsUnaltered
          (one_transmission from to bytes (carried_bytes bytes was))
          (unaltered from to bytes was (carried faithful), tt);
      lost = All-from_recursion (λ (t : Transmission). t.got ≡ None → h.loses)
          (one_transmission from to bytes (carried_bytes bytes was))
          (λ none. lost (lost_so bytes was none), tt);
    }))

-- a direct carrier has carried these bytes, as they were sent
pub carried_directly : {C : Type 0} (h : Carriers C) (it : C) (from to : Peer) (bytes : List ℕ) →
    ((more : List Transmission) → HasCarriedMore h.has_carried it it more) →
    HasCarried h it it (one_transmission from to bytes (Some bytes))
carried_directly h it from to bytes direct = record {
  faithful = (λ is. is, λ is. is);
  asked = direct (one_transmission from to bytes (Some bytes));
  unaltered = λ faithful. All-from_recursion IsUnaltered
      (one_transmission from to bytes (Some bytes)) (inr refl, tt);
  lost = All-from_recursion (λ (t : Transmission). t.got ≡ None → h.loses)
      (one_transmission from to bytes (Some bytes)) (λ none. absurd cc, tt);
}

-- ---- what is received of a frame

-- its own bytes arrived
pub received_same : (frame : Frame) (got : List ℕ) → got ≡ frame_bytes frame →
    IsReceivedOf frame (Some got) (received.Frame frame)
received_same frame got is =
    (λ _. refl, λ differs. absurd (differs (ap (λ (l : List ℕ). Some l) is)))

-- others did, which were read
pub received_read : (frame : Frame) (got : List ℕ) (it : Received) → got ≢ frame_bytes frame →
    IsReceived (Some got) it → IsReceivedOf frame (Some got) it
received_read frame got it differs read = (λ is. absurd (differs (cc)), λ _. read)

-- none did
pub received_none : (frame : Frame) → IsReceivedOf frame None received.Lost
received_none frame = (λ is. absurd cc, λ _. refl)
