pub mod Carriers
pub mod Deliveries
pub mod Replies
pub mod KeptReplies
pub mod Transmissions
pub mod Carrying
-- What crates above name.
pub use Rattle.carriers.specs.Carriers.{HasLost, IsCarried, IsReceived, IsReceivedOf}
pub use Rattle.carriers.specs.Carrying.{HasCarried, HasCarriedOne}
pub use Rattle.carriers.specs.Deliveries.{ArrivesAt, delivery_from, input_of, request_input}
pub use Rattle.carriers.specs.KeptReplies.{kept_reply}
pub use Rattle.carriers.specs.Replies.{IsHeard, reply_frame, reply_in}
pub use Rattle.carriers.specs.Transmissions.{HasCarriedMore, IsUnaltered, Transmission}
pub use Rattle.carriers.specs.Transmissions.{carried_bytes, one_transmission, unless_lost}
