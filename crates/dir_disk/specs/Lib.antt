pub mod Names
pub mod Answers
pub mod Disks
pub mod Open
