-- What a carrier makes of bytes, and what is received of a frame.
use Rattle.std.specs.Prelude.{◌≡◌, ◌≢◌, ℕ, List, Option, Some, None}
use Rattle.link_messages.specs.declared.Frame.{Frame}
use Rattle.link_messages.specs.{IsFrame, frame_bytes}
use Rattle.carriers.specs.declared.carrier.Carried.{Carried}
use Rattle.carriers.specs.declared.carrier.Carried.TheVariants.{Bytes, Lost, Same}
use Rattle.carriers.specs.declared.sending.Received.{Received}
use Rattle.carriers.specs.declared.sending.Received.TheVariants as received

-- these bytes were carried: what arrived, if anything did, is the same
abbrev pub IsCarried : List ℕ → Carried → Type 0
IsCarried bytes Same = Unit {0}
IsCarried bytes (Bytes got) = got.items ≡ bytes
IsCarried bytes Lost = Unit {0}

-- nothing arrived
abbrev pub HasLost : Carried → Type 0
HasLost Same = ⊥
HasLost (Bytes got) = ⊥
HasLost Lost = Unit {0}

-- the bytes spell this frame, and nothing else
abbrev pub IsSpelling : List ℕ → Frame → Type 0
IsSpelling bytes frame = IsFrame frame × (bytes ≡ frame_bytes frame)

-- what was read from these bytes: the frame that they spell, or else that they spell none
abbrev pub IsReadFrom : List ℕ → Received → Type 0
IsReadFrom bytes (received.Frame got) = IsSpelling bytes got
IsReadFrom bytes received.Unreadable = (frame : Frame) → IsSpelling bytes frame → ⊥
IsReadFrom bytes received.Lost = ⊥

-- what is received where this arrived: what was read from it, or that nothing arrived
abbrev pub IsReceived : Option (List ℕ) → Received → Type 0
IsReceived None it = it ≡ received.Lost
IsReceived (Some bytes) it = IsReadFrom bytes it

-- what is received of a frame that was sent: this frame where its own bytes arrived, which are not
-- read again, and else as of any bytes
abbrev pub IsReceivedOf : Frame → Option (List ℕ) → Received → Type 0
IsReceivedOf frame got it = (got ≡ Some (frame_bytes frame) → it ≡ received.Frame frame)
    × (got ≢ Some (frame_bytes frame) → IsReceived got it)

-- what arrived determines what is received, of any bytes and of a frame that was sent
pub record OneReceived : Type 0 where
  pub any : (got : Option (List ℕ)) (one other : Received) → IsReceived got one →
      IsReceived got other → one ≡ other
  pub sent : (frame : Frame) (got : Option (List ℕ)) (one other : Received) →
      IsReceivedOf frame got one → IsReceivedOf frame got other → one ≡ other
