pub mod EntryReads
pub mod EntryReadsLemmas
pub mod Kept
pub mod Caches
pub mod BlockReads
pub mod LentFiles
pub mod Disks
pub mod Capacities
-- What crates above name.
pub use Rattle.table_files.specs.BlockReads.{BlockAnswer, IsBlockAt, IsPartAt}
pub use Rattle.table_files.specs.BlockReads.{KnownBlocksAreAnswered, known_block_answered}
pub use Rattle.table_files.specs.EntryReads.{AreRead, ReadsEntries, entry_read}
pub use Rattle.table_files.specs.Disks.{inner_disk}
pub use Rattle.table_files.specs.LentFiles.{KeepsFiles, ShowsNoFailure}
pub use Rattle.table_files.specs.LentFiles.{keeps_files_after}
pub use Rattle.table_files.specs.LentFiles.{keeps_files_by, keeps_files_itself}
pub use Rattle.table_files.specs.LentFiles.{keeps_files_through}
