pub mod Walks
pub mod Dumped
