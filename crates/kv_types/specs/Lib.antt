pub mod Lists
pub mod ListsLemmas
pub mod Snapshots
pub mod Marks
pub mod Content
pub mod Shared
pub mod Spelling
pub mod Refusals
pub mod Reading
pub mod Maps
pub mod Entries
pub mod Spans
pub mod Pages
pub mod Limits
pub mod Bounds
pub mod Examples
pub mod BatchesLemmas
pub mod OrderLemmas
pub mod MarksLemmas
pub mod SpansLemmas
-- What crates above name.
pub use Rattle.kv_types.specs.Content.{BatchContent, Edits, edits_of, mark_of}
pub use Rattle.kv_types.specs.Entries.{Entry, IsNewest, IsSeen, IsShown, IsUnseen}
pub use Rattle.kv_types.specs.Entries.{ViewShows, all_entries, entries_of, stored_edits}
pub use Rattle.kv_types.specs.Entries.{stored_map_of}
pub use Rattle.kv_types.specs.Lists.{AllDifferent, IsPrefix, Part, has, is_part, place}
pub use Rattle.kv_types.specs.Maps.{last_edit, map_of}
pub use Rattle.kv_types.specs.Marks.{HasNoMark, IsLastMark, Marked, held_as, mark_held, marked}
pub use Rattle.kv_types.specs.Marks.{unmarked}
pub use Rattle.kv_types.specs.Pages.{KeepsLimits, row_size}
unfoldable pub use Rattle.kv_types.specs.Reading.{batch_at}
pub use Rattle.kv_types.specs.Refusals.{batch_error}
pub use Rattle.kv_types.specs.Spans.{Row, Rows, Span, end_of_rows, stored_span}
pub use Rattle.kv_types.specs.Spelling.{IsBatch, SpellingsDiffer, batch_bytes}
