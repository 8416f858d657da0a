-- What an event delivers to a simulated node: the node's id and its input.
use Rattle.std.specs.Prelude.{◌≡◌, ℕ, ◌<◌, ◌≤◌, List, [], length, Option, Some, None}
use Rattle.kv_types.specs.{Edits, place}
use Rattle.configurations.specs.{Configurations, at_epoch}
use Rattle.chain_model.specs as model_frame
use Rattle.link_messages.specs.declared.Frame.{Frame}
use Rattle.link_messages.specs.declared.Frame.TheVariants as frame
use Rattle.chain_core.specs.declared.Input.TheVariants as input
use Rattle.chain_core.specs.{frame_as}
use Rattle.carriers.specs.declared.Delivery.{Delivery}
use Rattle.carriers.specs.declared.Delivery.TheVariants as delivery
use Rattle.carriers.specs.declared.NodeInput.{NodeInput}
use Rattle.carriers.specs.declared.NodeInput.TheVariants as to_node
use Rattle.carriers.specs.declared.Carrier.{Ghosts as Carriers}
use Rattle.carriers.specs.{ArrivesAt, HasCarried, IsReceived, IsReceivedOf, input_of}
use Rattle.carriers.specs.{request_input}
use Rattle.events.specs.declared.EventKind.{EventKind}
use Rattle.events.specs.declared.EventKind.TheVariants.{Submit, Get, Rows, Open, Close}
use Rattle.events.specs.declared.EventKind.TheVariants.{Deliver, Notice, Tick, Tend, Start}
use Rattle.events.specs.declared.EventKind.TheVariants.{Stop}
use Rattle.lab.specs.declared.delivery.Posted.{Posted}
use Rattle.lab.specs.Events.{MayBeLost}
use Rattle.lab.specs.Transmissions.{frame_sent}

-- no list of frames has anything in this place, the first being 1
abbrev pub HasNoFrame : {A : Type 0} → List A → ℕ → Type 0
HasNoFrame frames p = place frames p ≡ None

-- these frames have this one in place p
abbrev pub IsPostedAt : List Posted → ℕ → Posted → Type 0
IsPostedAt frames p posted = place frames p ≡ Some posted

-- the frame in place p is for node x, and is this input to it
pub record IsDelivered (frames : List (model_frame.Message Edits)) (p x : ℕ)
    (node_input : NodeInput) : Type 0 where
  pub frame : model_frame.Message Edits
  pub there : place frames p ≡ Some frame
  pub it : Frame
  pub same : frame_as x it ≡ Some frame
  pub is : node_input ≡ input_of it

-- the input tells node x of the configuration of an epoch, which the list has
pub record IsNotice (cs : Configurations) (node epoch x : ℕ) (node_input : NodeInput) : Type 0 where
  pub same : x ≡ node
  pub within : epoch < length cs
  pub is : node_input ≡ to_node.Step (input.Notice epoch (at_epoch cs epoch))

-- the event has a request or a frame, which a carrier carries
abbrev pub IsCarriedEvent : EventKind → Type 0
IsCarriedEvent (Submit node batch) = Unit {0}
IsCarriedEvent (Get node key at) = Unit {0}
IsCarriedEvent (Rows node range at) = Unit {0}
IsCarriedEvent (Open node at) = Unit {0}
IsCarriedEvent (Close node number) = Unit {0}
IsCarriedEvent (Deliver p) = Unit {0}
IsCarriedEvent kind = ⊥

-- what events deliver after these frames, where this is the list of configurations
module _ (cs : Configurations) (frames : List (model_frame.Message Edits)) where
  -- the event in place i delivers this input to node x
  abbrev pub IsDeliveryOf : ℕ → EventKind → ℕ → NodeInput → Type 0
  IsDeliveryOf i (Submit node batch) x node_input =
      (x ≡ node) × (node_input ≡ to_node.Step (input.Submit i batch))
  IsDeliveryOf i (Get node key at) x node_input =
      (x ≡ node) × (node_input ≡ to_node.Step (input.Get i key at))
  IsDeliveryOf i (Rows node range at) x node_input =
      (x ≡ node) × (node_input ≡ to_node.Step (input.Rows i range at))
  IsDeliveryOf i (Open node at) x node_input =
      (x ≡ node) × (node_input ≡ to_node.Step (input.Open i at))
  IsDeliveryOf i (Close node number) x node_input =
      (x ≡ node) × (node_input ≡ to_node.Step (input.Close i number))
  IsDeliveryOf i (Deliver p) x node_input = IsDelivered frames p x node_input
  IsDeliveryOf i (Notice node epoch) x node_input = IsNotice cs node epoch x node_input
  IsDeliveryOf i (Tick node) x node_input = (x ≡ node) × (node_input ≡ to_node.Step input.Tick)
  IsDeliveryOf i (Tend node) x node_input = (x ≡ node) × (node_input ≡ to_node.Tend)
  IsDeliveryOf i (Start node) x node_input = (x ≡ node) × (node_input ≡ to_node.Start)
  IsDeliveryOf i (Stop node junk) x node_input = (x ≡ node) × (node_input ≡ to_node.Stop junk)

  -- the event delivers a frame, and no frame has its place, or it tells of an epoch that the list
  -- does not have
  abbrev pub HasNoDelivery : EventKind → Type 0
  HasNoDelivery (Deliver p) = HasNoFrame frames p
  HasNoDelivery (Notice node epoch) = length cs ≤ epoch
  HasNoDelivery kind = ⊥

  -- what became of the event in place i: it was lost, or delivers this, or has nothing to deliver
  abbrev pub IsDeliverable : ℕ → EventKind → Delivery → Type 0
  IsDeliverable i kind delivery.Nothing = HasNoDelivery kind
  IsDeliverable i kind delivery.Lost = MayBeLost frames kind
  IsDeliverable i kind (delivery.To x node_input) = IsDeliveryOf i kind x node_input

-- ---- what is brought in any world, by any carrier

-- what is delivered to a node of a request that was sent to it, where this arrived of its bytes
abbrev pub IsRequestTo : ℕ → Frame → Option (List ℕ) → Delivery → Type 0
IsRequestTo node sent got it = ArrivesAt request_input node (IsReceivedOf sent got) it

-- .. of a posted frame, if there is one
abbrev pub IsPostedTo : Option Posted → Option (List ℕ) → Delivery → Type 0
IsPostedTo None got it = it ≡ delivery.Nothing
IsPostedTo (Some posted) got it = ArrivesAt input_of posted.to (IsReceived got) it

-- what the event in place i brings after these posted frames, where this is the list of
-- configurations, and this arrived of what the event sends
abbrev pub IsBrought : Configurations → List Posted → ℕ → EventKind → Option (List ℕ) → Delivery
    → Type 0
IsBrought cs posted i (Submit node batch) got it = IsRequestTo node (frame.Submit i batch) got it
IsBrought cs posted i (Get node key at) got it = IsRequestTo node (frame.Get i at key) got it
IsBrought cs posted i (Rows node range at) got it = IsRequestTo node (frame.Rows i at range) got it
IsBrought cs posted i (Open node at) got it = IsRequestTo node (frame.Open i at) got it
IsBrought cs posted i (Close node number) got it = IsRequestTo node (frame.Close i number) got it
IsBrought cs posted i (Deliver p) got it = IsPostedTo (place posted p) got it
IsBrought cs posted i kind got it = IsDeliverable cs [] i kind it

-- .. and the carrier was asked for what the event sends, and for nothing else
pub record Brings {C : Type 0} (h : Carriers C) (old new : C) (cs : Configurations)
    (posted : List Posted) (i : ℕ) (kind : EventKind) (it : Delivery) : Type 0
  where
    pub got : Option (List ℕ)
    pub carried : HasCarried h old new (frame_sent posted i kind (λ bytes. got))
    pub brought : IsBrought cs posted i kind got it
