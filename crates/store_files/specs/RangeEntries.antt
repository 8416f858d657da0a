-- The entries of a store whose keys lie in a range.
use Rattle.kv_types.specs.Pages.{IsWithin}
use Rattle.kv_types.specs.{Entry, Span}

-- these entries have all those of a store whose keys lie in the range, and no others than the store
pub record HasRange (range : Span) (store entries : Entry → Type 0) : Type 0 where
  pub sound : (entry : Entry) → entries entry → store entry
  pub all : (entry : Entry) → store entry → IsWithin range entry.key → entries entry
