pub mod Examples
pub mod Filters
pub mod Probes
-- What crates above name.
pub use Rattle.bloom.specs.Filters.{Covers, CoversAll, CoversHashed, IsFilter, bytes_for}
pub use Rattle.bloom.specs.Filters.{hashes_of}
