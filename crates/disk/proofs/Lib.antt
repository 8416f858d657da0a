mod Walks
pub mod Buffers
pub mod Agreement
pub mod Numbers
pub mod Tears
pub mod Outcomes
pub mod Devices
