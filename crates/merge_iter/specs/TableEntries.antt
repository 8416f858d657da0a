-- Entries that a table may have.
use Rattle.std.specs.Prelude.{◌≤◌, length, IfSome}
use Rattle.byte_fields.specs.{IsStoredKey}
use Rattle.kv_types.specs.declared.bounds.TheConstants.{MAX_NUMBER, MAX_VALUE}
use Rattle.kv_types.specs.{Entry}

-- an entry keeps the limits of keys, numbers and values
pub record IsTableEntry (entry : Entry) : Type 0 where
  pub key : IsStoredKey entry.key
  pub number : entry.number ≤ MAX_NUMBER
  pub value : IfSome entry.value (λ value. length value ≤ MAX_VALUE)
