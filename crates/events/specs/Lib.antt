pub mod Events
pub mod SharedEvents
-- What crates above name.
pub use Rattle.events.specs.Events.{NamesNode, NamesNodes, delivered_place, epoch_in}
pub use Rattle.events.specs.Events.{faultless, node_in}
pub use Rattle.events.specs.SharedEvents.{shared_kind}
