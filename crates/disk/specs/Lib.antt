pub mod States
pub mod Calls
pub mod CallCounts
pub mod Moments
pub mod Faults
pub mod Devices
pub mod Lent
pub mod Piece
pub mod Covered
pub mod Buffer
pub mod Content
pub mod File
pub mod Held
pub mod Memory
pub mod Crashes
pub mod Refusals
pub mod PlacesLemmas
pub mod StepsLemmas
pub mod MomentsLemmas
pub mod BesideLemmas
pub mod StillLemmas
pub mod KeepingLemmas
pub mod WritesLemmas
-- What crates above name.
pub use Rattle.disk.specs.Calls.{EndsOutOfRange, HasStruck, RisesByOne, SyncOutcome}
pub use Rattle.disk.specs.Calls.{WriteOutcome}
pub use Rattle.disk.specs.CallCounts.{CallsAtMost, MakesCalls}
pub use Rattle.disk.specs.Crashes.{CrashOutcome, CrashedIsDurable}
pub use Rattle.disk.specs.Faults.{HasStruckBy, Incidents, armed_after, fault_of, struck_call}
pub use Rattle.disk.specs.Lent.{AlwaysLeaves, IsArmed, IsStill, KeepsDisk, WritesInto}
pub use Rattle.disk.specs.Memory.{IsReliable, Slots, past_states, state_of}
pub use Rattle.disk.specs.Moments.{AddsMoment, AllLeave, AreLeftOf, IsLastLeft, IsLeftAt}
pub use Rattle.disk.specs.Moments.{LeavesSince, OnlyLeaves, Passes}
pub use Rattle.disk.specs.Refusals.{IsEnvironmental}
pub use Rattle.disk.specs.States.{Absent, AddsNoOutcome, Contents, DurableFileIsLeft}
pub use Rattle.disk.specs.States.{DurableIsLeft, Fresh}
pub use Rattle.disk.specs.States.{IsCrashOutcome, IsDurable, IsFileOutcome, IsSame, IsSameBut}
pub use Rattle.disk.specs.States.{IsUnsynced, Kept, Slot, State, contents, overwritten, seen}
pub use Rattle.disk.specs.States.{synced, written}
