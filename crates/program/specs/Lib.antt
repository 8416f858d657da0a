pub mod Failures
pub mod FolderFailures
pub mod Invocations
pub mod Runs
pub mod FolderRuns
pub mod FolderDumps
pub mod FolderUpgrades
pub mod Readings
