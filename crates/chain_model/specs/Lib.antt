pub mod Messages
pub mod Requests
pub mod Machine
pub mod Rules
pub mod RulesLemmas
pub mod System
pub mod Headline
pub mod Once
pub mod Outcomes
pub mod Order
pub mod Freshness
pub mod Retention
pub mod Growth
pub mod Maps
pub mod Trace
pub mod WorkedRuns
pub mod WorkedSnapshots
pub mod WorkedDrops
pub mod WorkedMarks
-- What crates above name.
pub use Rattle.chain_model.specs.Headline.{IsRepeat, OneList, ResponseAgrees, batches, numbered}
pub use Rattle.chain_model.specs.Headline.{submitted}
pub use Rattle.chain_model.specs.Once.{ExactlyOnce, HasMarksOnce}
pub use Rattle.chain_model.specs.Machine.{Answer, MachineState, created, dropped_for, due, not_due}
pub use Rattle.chain_model.specs.Machine.{refused, silent, started, stopped}
pub use Rattle.chain_model.specs.Messages.{Ack, Forward, Message, addressee}
pub use Rattle.chain_model.specs.Order.{ForwardIsTrue, InOrder, MarksRise}
pub use Rattle.chain_model.specs.Outcomes.{RunIsOutcomes}
pub use Rattle.chain_model.specs.Requests.{Closed, Committed, Opened, Refused, Request, Response}
pub use Rattle.chain_model.specs.Requests.{Shows}
pub use Rattle.chain_model.specs.Rules.{accept, ack, ack_duplicate, ack_to, acked, acknowledge}
pub use Rattle.chain_model.specs.Rules.{append, ask, forward, forward_to, forwards, longer_for}
pub use Rattle.chain_model.specs.Rules.{on_ack, receive, reply_read, resend, tick}
pub use Rattle.chain_model.specs.System.{Answered, Outcome, StepResult, StoppedAfter, StoppedBefore}
pub use Rattle.chain_model.specs.System.{SystemEvent, SystemState, after, answers, as_completed}
pub use Rattle.chain_model.specs.System.{delivered, first_state, node_of, nothing, outcome}
pub use Rattle.chain_model.specs.System.{outcomes, reached, run, state_after, stops}
