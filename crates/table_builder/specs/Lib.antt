pub mod Builders
pub mod Calls
pub mod Closing
pub mod Divisions
pub mod Fresh
pub mod Keys
pub mod OpenParts
pub mod Tails
-- What crates above name.
pub use Rattle.table_builder.specs.Builders.{AddOutcome, AddRefusal, AddStatus, Builds}
pub use Rattle.table_builder.specs.Builders.{BuildsNothing, CanAdd, FinishStatus}
pub use Rattle.table_builder.specs.Builders.{HasBuilderFailed, HeldOutcome, HeldRefusal}
pub use Rattle.table_builder.specs.Builders.{HoldsEntries, HoldsTable, IsFinishedTable}
pub use Rattle.table_builder.specs.Builders.{LeavesBlockOpen, NeedsNoDevice, builder_file}
pub use Rattle.table_builder.specs.Builders.{entry_count}
pub use Rattle.table_builder.specs.Calls.{AddsEntry, FinishesTable}
pub use Rattle.table_builder.specs.Divisions.{data_size}
pub use Rattle.table_builder.specs.Fresh.{IsFresh}
pub use Rattle.table_builder.specs.Keys.{first_entry}
