pub mod Versions
pub mod Maps
pub mod Sizes
pub mod Tables
pub mod Places
pub mod Ranges
pub mod Left
pub mod CursorLaws
-- What crates above name.
pub use Rattle.memtable.specs.Sizes.{batch_size, capped_sum}
pub use Rattle.memtable.specs.Tables.{HasFailedAdd, IsFoundAt, IsNewNumber, TableHolds, table_bytes}
