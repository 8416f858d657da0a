pub mod Orders
pub mod Starts
pub mod Steps
pub mod Calls
pub mod Ranges
