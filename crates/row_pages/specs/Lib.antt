pub mod Rows
pub mod Additions
pub mod Walking
pub mod ViewRowsLemmas
-- What crates above name.
pub use Rattle.row_pages.specs.Rows.{HasRowsOf, HasWalk, row_entry}
