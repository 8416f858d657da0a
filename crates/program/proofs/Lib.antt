pub mod Beginnings
pub mod Commands
pub mod FolderEnds
pub mod FolderUpgrades
pub mod Wholes
