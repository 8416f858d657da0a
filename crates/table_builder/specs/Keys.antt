-- What a builder keeps of the keys of its entries.
use Rattle.std.specs.Prelude.{◌≡◌, List, [], ◌∷◌, length, map, Option, Some, None, IfSome}
use Rattle.bloom.specs.{hashes_of}
use Rattle.kv_types.specs.{Entry}
use Rattle.table_format.specs.{different_keys, last_entry}
use Rattle.table_builder.specs.declared.keys.AddedKeys.{AddedKeys}

-- the first of the entries, if there is one
abbrev pub first_entry : List Entry → Option Entry
first_entry [] = None
first_entry (entry ∷ entries) = Some entry

-- the number of these entries, the hashes of their different keys, and their ends
pub record KnowsKeys (keys : AddedKeys) (entries : List Entry) : Type 0 where
  pub count : keys.count ≡ length entries
  pub hashes : keys.hashes.items ≡ map hashes_of (different_keys entries)
  pub least : IfSome (first_entry entries) (λ entry. keys.least ≡ entry.key)
  pub last : IfSome (last_entry entries) (λ entry. (keys.last ≡ entry.key)
      × (keys.number ≡ entry.number))
