pub mod Lines
pub mod IndexLoops
pub mod Examples
