pub mod BlockPlaces
pub mod EntryPlaces
pub mod EntrySplits
pub mod LineSizes
pub mod LineSizesLemmas
pub mod Meant
pub mod Open
pub mod RisingEntries
pub mod Searches
pub mod MovedFiles
pub mod TableCursorLaws
pub mod TableCursors
pub mod TableReads
pub mod Tails
-- What crates above name.
pub use Rattle.sorted_table.specs.Meant.{AreAsMeant, IsBlockAtLine, as_meant_itself}
pub use Rattle.sorted_table.specs.Open.{AnswersAsMeant, FileRepresents, FinishedTablesAreFiles}
pub use Rattle.sorted_table.specs.Open.{CanBeOpen, HasInFilter, HasItsLines, IsOpenOn}
pub use Rattle.sorted_table.specs.Open.{LookupAnswer}
pub use Rattle.sorted_table.specs.Open.{LookupFinds}
pub use Rattle.sorted_table.specs.Open.{TableServes, found_entry, greatest_key, index_lines}
pub use Rattle.sorted_table.specs.Open.{last_line_key, table_file, table_filter, table_format}
pub use Rattle.sorted_table.specs.Searches.{EndsBefore}
pub use Rattle.sorted_table.specs.TableReads.{AnswersLookup}
pub use Rattle.sorted_table.specs.Tails.{HasTail}
