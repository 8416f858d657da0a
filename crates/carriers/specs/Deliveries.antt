-- What arrives of a frame at a node: the inputs of nodes.
use Rattle.std.specs.Prelude.{◌≡◌, ℕ}
use Rattle.link_messages.specs.declared.Frame.{Frame}
use Rattle.link_messages.specs.declared.Frame.TheVariants as frame
use Rattle.chain_model.specs.declared.DropReason.TheVariants as reason
use Rattle.chain_core.specs.declared.Input.TheVariants as input
use Rattle.carriers.specs.declared.deliveries.Delivery.{Delivery}
use Rattle.carriers.specs.declared.deliveries.Delivery.TheVariants as delivery
use Rattle.carriers.specs.declared.deliveries.NodeInput.{NodeInput}
use Rattle.carriers.specs.declared.deliveries.NodeInput.TheVariants as to_node
use Rattle.carriers.specs.declared.sending.Received.{Received}
use Rattle.carriers.specs.declared.sending.Received.TheVariants as received

-- the input that a frame is to its addressee
abbrev pub input_of : Frame → NodeInput
input_of (frame.Forward epoch from number batch) =
    to_node.Step (input.Forward epoch from number batch)
input_of (frame.Ack epoch from committed have) =
    to_node.Step (input.Ack epoch from committed have)
input_of _ = to_node.BadFrame reason.NotForNodes

-- the input that a client's frame is to its node
abbrev pub request_input : Frame → NodeInput
request_input (frame.Submit i batch) = to_node.Step (input.Submit i batch)
request_input (frame.Get i at key) = to_node.Step (input.Get i key at)
request_input (frame.Rows i at range) = to_node.Step (input.Rows i range at)
request_input (frame.Open i at) = to_node.Step (input.Open i at)
request_input (frame.Close i number) = to_node.Step (input.Close i number)
request_input _ = to_node.BadFrame reason.NotForNodes

-- what is delivered to a node of what was received, where frames are these inputs
abbrev pub delivery_from : (Frame → NodeInput) → ℕ → Received → Delivery
delivery_from means node (received.Frame frame) = delivery.To node (means frame)
delivery_from means node received.Unreadable =
    delivery.To node (to_node.BadFrame reason.Unreadable)
delivery_from means node received.Lost = delivery.Lost

-- this is delivered to a node, and what was received is such
abbrev pub ArrivesAt : (Frame → NodeInput) → ℕ → (Received → Type 0) → Delivery → Type 0
ArrivesAt means node is_received it =
    (got : Received) × is_received got × (it ≡ delivery_from means node got)
