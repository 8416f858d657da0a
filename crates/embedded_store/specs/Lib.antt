pub mod Errors
pub mod Alone
pub mod Stores
pub mod Once
pub mod Openings
pub mod Cursors
pub mod Folders
