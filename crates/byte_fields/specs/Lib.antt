pub mod Readers
pub mod Texts
pub mod FieldsLemmas
pub mod ReadersLemmas
pub mod TextsLemmas
pub mod LoopLemmas
pub mod Order
pub mod StoredKeys
pub mod Reading
pub mod ByteOrderLemmas
pub mod StoredKeysLemmas
pub mod SpelledKeysLemmas
-- What crates above name.
pub use Rattle.byte_fields.specs.Readers.{Reader, ReadsFront, both, counted, mapped, number_at}
pub use Rattle.byte_fields.specs.Readers.{only, ◌>>=◌}
unfoldable pub use Rattle.byte_fields.specs.Readers.{many}
pub use Rattle.byte_fields.specs.Texts.{text_bytes}
unfoldable pub use Rattle.byte_fields.specs.Texts.{text_at}
pub use Rattle.byte_fields.specs.Reading.{ReadsBytes}
pub use Rattle.byte_fields.specs.StoredKeys.{IsKeyOf, IsStoredKey, StoredKey, bytes_of, key_bytes}
pub use Rattle.byte_fields.specs.StoredKeys.{key_bytes_in, lent_key, mark_key, row_key, space_of}
pub use Rattle.byte_fields.specs.StoredKeys.{stored_cmp, stored_key}
unfoldable pub use Rattle.byte_fields.specs.StoredKeys.{key_at, key_at_in}
