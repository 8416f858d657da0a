pub mod Spelling
pub mod Stream
pub mod Reading
pub mod Examples
-- What crates above name.
pub use Rattle.link_messages.specs.Spelling.{HasBounds, IsFrame, frame_bytes}
pub use Rattle.link_messages.specs.Stream.{NextOutcome, OneAnswer}
