-- What the buffer of a part under way holds.
use Rattle.std.specs.Prelude.{◌≡◌, ◌<◌, ℕ, List, ◌++◌, length}
use Rattle.std.specs.List.{flat_map}
use Rattle.table_format.specs.{be32}
use Rattle.table_builder.specs.declared.part.OpenPart.{OpenPart}

-- It counts these items. If there are any, their spelling is in its buffer, behind room for their
-- number.
pub record HoldsItems {A : Type 0} (spell : A → List ℕ) (part : OpenPart) (items : List A)
    : Type 0 where
  pub count : part.count ≡ length items
  pub bytes : 0 < length items → part.bytes.items ≡ be32 0 ++ flat_map spell items
