pub mod Stops
pub mod Steps
pub mod Outputs
pub mod Tends
pub mod Starts
-- What crates above name.
pub use Rattle.engine.specs.{HasLongFile, IsAdrift, IsNearlyFull, IsOwned}
pub use Rattle.node.specs.Steps.{DiskAlwaysRefines, DiskRefines, DiskRepresents, IsReady}
pub use Rattle.node.specs.Steps.{DiskRefinesOneOf, NodeRefines, NumbersRefine, StopRefines}
pub use Rattle.node.specs.Steps.{AreOwnNumbers, disk_of, engine_of, facts_for, node_core}
pub use Rattle.node.specs.Steps.{node_limits, replies_of, replies_to_response}
pub use Rattle.node.specs.Starts.{HasBegunWith}
pub use Rattle.node.specs.Stops.{EndsCreated}
pub use Rattle.node.specs.Tends.{TendRefines, TendsOwnStore, answer_to_tend, has_risen}
