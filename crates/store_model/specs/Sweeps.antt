-- The entries of a merge in order, one after the other.
use Rattle.std.specs.Prelude.{◌≡◌, ◌⊎◌, ◌<◌}
use Rattle.kv_types.specs.{Entry}
use Rattle.store_model.specs.Keys.{KeyPrecedes}

-- keys rise, and the numbers of one key fall
abbrev pub IsBeforeInSweep : Entry → Entry → Type 0
IsBeforeInSweep a b = KeyPrecedes a.key b.key ⊎ ((a.key ≡ b.key) × (b.number < a.number))

-- of the entries, b is the one right after a
pub record IsNextInSweep (entries : Entry → Type 0) (a b : Entry) : Type 0 where
  pub before : entries a
  pub in_order : IsBeforeInSweep a b
  pub none_between : (other : Entry) → entries other
      → ((other ≡ a) ⊎ IsBeforeInSweep other a) ⊎ ((other ≡ b) ⊎ IsBeforeInSweep b other)
