pub mod Fronts
pub mod Escape
pub mod Written
