pub mod Names
pub mod Puts
