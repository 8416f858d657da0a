pub mod Keys
pub mod Tables
pub mod Stores
pub mod Outputs
pub mod Steps
pub mod Runs
pub mod LookUps
pub mod Logs
pub mod Sweeps
pub mod Claims
pub mod Examples
pub mod KeysLemmas
pub mod ViewsLemmas
pub mod PlacesLemmas
pub mod TablesLemmas
pub mod StoresLemmas
pub mod SweepsLemmas
-- What crates above name.
pub use Rattle.store_model.specs.Keys.{AreDisjointRanges, KeyPrecedes, KeyRange, RangeHolds}
pub use Rattle.store_model.specs.Keys.{RangeLiesIn}
pub use Rattle.store_model.specs.Tables.{AreLeveled, FitsRange, LevelTable, level_entries}
pub use Rattle.store_model.specs.Tables.{tables_entries}
pub use Rattle.store_model.specs.Stores.{StoreRepresents, StoreState, empty_store, memory_entries}
pub use Rattle.store_model.specs.Stores.{store_entries}
pub use Rattle.store_model.specs.Steps.{AreAlikeDeeper, AreEdited, IsDropped, IsFlush, IsMerged}
pub use Rattle.store_model.specs.Steps.{IsOverwritten, IsPlanned, IsRaise, IsSpentDeletion}
pub use Rattle.store_model.specs.Steps.{IsUnderWay, MergePlan, PlanFits, flushed_store}
pub use Rattle.store_model.specs.Steps.{raised_store, with_tables}
pub use Rattle.store_model.specs.LookUps.{AboveLacks, NewestHas, StoreFinds, StoreStopsAt}
pub use Rattle.store_model.specs.LookUps.{TableLacks, replayed_entries}
pub use Rattle.store_model.specs.Outputs.{AreInKeyOrder, HaveOwnRanges, IsInKeyOrder}
pub use Rattle.store_model.specs.Logs.{AreLogsOf, LogsRise, left_later, newest_log, trimmed_to}
pub use Rattle.store_model.specs.Sweeps.{IsBeforeInSweep, IsNextInSweep}
