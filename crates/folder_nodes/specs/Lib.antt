pub mod Faults
pub mod Finding
pub mod FoundNodes
pub mod Searches
