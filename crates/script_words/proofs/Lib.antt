pub mod Numbers
pub mod Texts
pub mod Spelled
pub mod Fronts
pub mod Edits
pub mod Slices
pub mod FirstLine
pub mod FaultWords
