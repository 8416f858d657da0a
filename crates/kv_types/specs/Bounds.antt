-- The bounds of keys, values, batches, pages and numbers, as numbers.
use Rattle.std.specs.Prelude.{◌≡◌, ◌-◌, ◌^◌}
use Rattle.byte_fields.specs.declared.stored_key.TheConstants.{MAX_KEY}
use Rattle.kv_types.specs.declared.bounds.TheConstants.{MAX_VALUE, MAX_EDITS, MAX_BATCH}
use Rattle.kv_types.specs.declared.bounds.TheConstants.{MAX_ROWS, MAX_PAGE, ROW_OVERHEAD}
use Rattle.kv_types.specs.declared.bounds.TheConstants.{MAX_CACHE, MAX_NUMBER}

-- lengths in bytes, but the edits of a batch, the rows of a page and the blocks of a cache
-- are counted
pub record BoundsAre : Type 0 where
  pub key : MAX_KEY ≡ 1024
  pub value : MAX_VALUE ≡ 16384
  pub edits : MAX_EDITS ≡ 256
  pub batch : MAX_BATCH ≡ 65536
  pub rows : MAX_ROWS ≡ 1024
  pub page : MAX_PAGE ≡ 98304
  pub overhead : ROW_OVERHEAD ≡ 4
  pub cache : MAX_CACHE ≡ 65536
  pub number : MAX_NUMBER ≡ 2 ^ 63 - 1
