pub mod Turns
pub mod Picks
pub mod Survivors
pub mod WrittenTables
pub mod Errors
pub mod Outputs
pub mod OutputsLemmas
pub mod Walks
pub mod WalksLemmas
pub mod Leftovers
pub mod Merges
pub mod Plans
pub mod Edits
pub mod EditsLemmas
pub mod Inputs
pub mod Examples
-- What crates above name.
pub use Rattle.compaction.specs.Picks.{picked}
pub use Rattle.compaction.specs.Edits.{AcceptsMerge, CanEndIn, OutputsAreBeside, items_after}
pub use Rattle.compaction.specs.Edits.{tables_after}
pub use Rattle.compaction.specs.Inputs.{lent_range, line_name}
pub use Rattle.compaction.specs.Merges.{IsFitMergeEdit, IsMergeEdit, IsNumberedFrom}
pub use Rattle.compaction.specs.Merges.{IsMergeOutput, MergeEditsFit, MergeEditsKeep, MergeIsBeside}
pub use Rattle.compaction.specs.Merges.{MergesStayBeside}
pub use Rattle.compaction.specs.Outputs.{IsOutputFile, UsesNumbers, finished_line}
pub use Rattle.compaction.specs.Plans.{IsLineOf, PicksArePlanned, is_input, is_line_input}
pub use Rattle.compaction.specs.Plans.{model_plan, range_of}
pub use Rattle.compaction.specs.Survivors.{AreDeeperLines, AreSurvivors, IsSortedUnion, key_range}
pub use Rattle.compaction.specs.Survivors.{SurvivorsAreLeft, survivors}
pub use Rattle.compaction.specs.Turns.{turn_key}
pub use Rattle.compaction.specs.WrittenTables.{AreWrittenTables, IsTableOver, Written}
pub use Rattle.compaction.specs.WrittenTables.{WrittenAreMerged}
pub use Rattle.compaction.specs.WrittenTables.{WrittenAreSurvivors, tables_of, written_of}
