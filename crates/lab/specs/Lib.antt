pub mod Events
pub mod SimNodes
pub mod Traces
pub mod Posting
pub mod Transmissions
pub mod Disks
pub mod Arrivals
pub mod Deliveries
pub mod Outcomes
pub mod Dispatches
pub mod Stops
pub mod OutcomeLines
pub mod Freshness
pub mod Runs
pub mod History
pub mod Worlds
pub mod FaultIncidents
pub mod LinesSoFar
pub use Rattle.configurations.specs.NodeLists
pub use Rattle.configurations.specs.Configs
pub use Rattle.configurations.specs.declared.error.ConfigError
pub use Rattle.chain_model.specs.declared.drop_reason.DropReason
pub use Rattle.disk.specs.declared.fault.Fault
pub use Rattle.disk.specs.declared.junk.Junk
pub use Rattle.chain_model.specs.declared.refusal.Refusal
pub use Rattle.node.specs.declared.numbers.Numbers
pub use Rattle.node.specs.declared.output.Reply
pub use Rattle.node.specs.declared.stop.Stop
pub use Rattle.engine.specs.Tended
pub use Rattle.events.specs.declared.content.EventContent
pub use Rattle.events.specs.declared.kind.EventKind
-- What crates above name.
pub use Rattle.lab.specs.Events.{NamesNode, node_in}
pub use Rattle.events.specs.{delivered_place, faultless}
pub use Rattle.lab.specs.LinesSoFar.{AddsLines, AreEventLines, EventAddsLines, HasItsNodes}
pub use Rattle.lab.specs.LinesSoFar.{HasJustBegun, HasRunNothing, KeepsLines, LeavesNodes}
pub use Rattle.lab.specs.LinesSoFar.{LosesCarried}
pub use Rattle.lab.specs.LinesSoFar.{MovesAtMostOne, RunsEvents, StepIsRefused, StepsOnce}
pub use Rattle.lab.specs.LinesSoFar.{configs_of}
pub use Rattle.lab.specs.LinesSoFar.{drops_in_steps, events_so_far, is_lost, lines_so_far}
pub use Rattle.lab.specs.LinesSoFar.{lost_so_far, nodes_of, sent_so_far, sim_node_ids}
pub use Rattle.lab.specs.History.{ClientHistory, DisksHold, OneHistory}
pub use Rattle.lab.specs.Runs.{AreNumbersOf, IsRun, IsRunOver}
pub use Rattle.lab.specs.SimNodes.{Arrives, Choice}
pub use Rattle.lab.specs.Transmissions.{transmissions_of}
pub use Rattle.lab.specs.Worlds.{AreNodesAfter, AreReportsAfter, HasRun, WorldHasLimits, WorldRun}
pub use Rattle.lab.specs.Worlds.{IsDownAmong, IsReportOf, MemWorld, ShowsNumbers, direct_carrier}
pub use Rattle.lab.specs.Worlds.{frames_of_step, frames_in_steps}
