pub mod Ends
pub mod Resends
pub mod Queues
pub mod Snapshots
pub mod Orders
pub mod After
pub mod Steps
