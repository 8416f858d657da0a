pub mod Formats
pub mod Blocks
pub mod Tables
pub mod Sizes
pub mod Parts
pub mod Reading
pub mod Errors
pub mod Examples
pub mod FormatsLemmas
pub mod EntriesLemmas
pub mod FrontsLemmas
pub mod PartsLemmas
pub mod PassedLemmas
pub mod RisingLemmas
pub mod SealedLemmas
pub mod CasesLemmas
pub mod TablesLemmas
pub mod BlockLoopLemmas
-- What crates above name.
pub use Rattle.table_format.specs.Blocks.{AreRising, CanFollow, IsBlock, IsBlockText}
pub use Rattle.table_format.specs.Blocks.{IsCheckedBlock, last_entry}
pub use Rattle.table_format.specs.Blocks.{IsEntryOf, IsTableEntry, be32, be64, block_content}
pub use Rattle.table_format.specs.Blocks.{block_part, entries_bytes, entry_bytes, sealed}
unfoldable pub use Rattle.table_format.specs.Blocks.{digest}
pub use Rattle.table_format.specs.Formats.{filter_key, filter_keys}
pub use Rattle.table_format.specs.Errors.{file_error, table_error}
pub use Rattle.table_format.specs.Parts.{FillsPlaces, IsFilterPart, IsFooter, IsIndex, IsIndexLine}
pub use Rattle.table_format.specs.Parts.{ReadsPart, ReadsPartOr, end_spot}
pub use Rattle.table_format.specs.Reading.{lent_entry}
unfoldable pub use Rattle.table_format.specs.Reading.{table_entry_at}
pub use Rattle.table_format.specs.Tables.{Block, FitsFields, TableRepresents, TableRepresentsIn}
pub use Rattle.table_format.specs.Tables.{block_bytes}
pub use Rattle.table_format.specs.Tables.{block_entries, block_line, block_lines, data_bytes}
pub use Rattle.table_format.specs.Tables.{different_keys, entries_of_blocks, filter_part}
pub use Rattle.table_format.specs.Tables.{footer_part, index_content, index_part, line_bytes}
pub use Rattle.table_format.specs.Tables.{table_footer, table_spelling}
