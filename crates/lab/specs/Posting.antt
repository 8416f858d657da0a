-- Frames that nodes send: each is posted behind those before it.
use Rattle.std.specs.Prelude.{◌≡◌, ℕ, List, ◌++◌, Option, Some, None, All, take}
use Rattle.std.specs.List.{AllZip}
use Rattle.link_messages.specs.{IsFrame, HasBounds, frame_bytes}
use Rattle.chain_core.specs.declared.Sent.{Sent}
use Rattle.chain_core.specs.{Machine}
use Rattle.lab.specs.declared.delivery.Posted.{Posted}

-- a frame that node x sent is posted: it is in range where its fields have their bounds
pub record IsPosted (x : ℕ) (posted : Posted) (sent : Sent) : Type 0 where
  pub from : posted.from ≡ x
  pub to : posted.to ≡ sent.to
  pub bytes : posted.bytes.items ≡ frame_bytes sent.frame
  pub lawful : HasBounds sent.frame → IsFrame sent.frame

-- these frames of node x are posted behind those that were
pub record HasPosted (old : List Posted) (x : ℕ) (sent : List Sent) (new : List Posted) : Type 0
  where
    pub more : List Posted
    pub whole : new ≡ old ++ more
    pub each : AllZip (IsPosted x) more sent

-- of these frames of node x so many first ones are posted
abbrev pub HasPostedPart : List Posted → ℕ → List Sent → List Posted → Type 0
HasPostedPart old x sent new = (count : ℕ) × HasPosted old x (take count sent) new

-- the frames that an event posts have as their sender the node that it acted on, if it acted on one
abbrev pub FramesFollow : Option (ℕ × Machine) → List Posted → List Posted → Type 0
FramesFollow None old new = new ≡ old
FramesFollow (Some at) old new =
    (more : List Posted) × (new ≡ old ++ more) × All (λ it. it.from ≡ at.0) more
