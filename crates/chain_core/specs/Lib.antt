pub mod States
pub mod CoreState
pub mod Queues
pub mod ShortLists
pub mod SentFrames
pub mod Marks
pub mod Decisions
pub mod Steps
-- What crates above name.
pub use Rattle.chain_core.specs.Decisions.{AreFrames, CoreFollows, Decides, DecisionFits}
pub use Rattle.chain_core.specs.Decisions.{DoneFits, HasRoomAt, IsReadOf, IsReport, IsRiseOf}
pub use Rattle.chain_core.specs.Decisions.{IsAdoptable}
pub use Rattle.chain_core.specs.Marks.{IsHeldFor, client_of}
pub use Rattle.chain_core.specs.Decisions.{answer_to, done_of, frame_as, responses_after, rule_of}
pub use Rattle.chain_core.specs.States.{AreSnapshots, Core, CoreRefines, IsAtStart}
pub use Rattle.chain_core.specs.States.{HasOrderedNumbers, IsStartOf, Machine}
pub use Rattle.chain_core.specs.States.{committed_responses, waiting}
pub use Rattle.chain_core.specs.SentFrames.{frames_held}
pub use Rattle.chain_core.specs.ShortLists.{items_held}
pub use Rattle.chain_core.specs.Steps.{StandsLast, StepLeaves, StepsLeave, epoch_after, floor_after}
pub use Rattle.chain_core.specs.Steps.{frames_after, ids_after, kept_after, list_after}
pub use Rattle.chain_core.specs.Steps.{snapshots_after}
