pub mod Readers
pub mod Loop
pub mod FieldLaws
pub mod FrameLaws
pub mod FrameLengths
pub mod Contents
pub mod Streams
pub mod Written
