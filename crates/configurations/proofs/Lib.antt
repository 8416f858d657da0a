pub mod Ids
pub mod IsConfig
pub mod Later
pub mod Spelling
