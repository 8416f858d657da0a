pub mod Loop
pub mod LineLaws
pub mod EditLaws
pub mod Placed
pub mod Lawful
pub mod EditLengths
pub mod Spelled
pub mod Replays
