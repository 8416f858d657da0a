pub mod Fronts
pub mod First
pub mod Gates
pub mod GateMoments
pub mod Pushes
pub mod Ways
pub mod Appends
mod Opens
mod Spans
pub mod Creates
