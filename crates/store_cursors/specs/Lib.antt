pub mod Concatenation
pub mod ConcatenationLaws
pub mod StoreCursors
pub mod StoreCursorLaws
