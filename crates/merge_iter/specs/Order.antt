-- The order of entries, and sets of entries.
use Rattle.std.specs.Prelude.{◌≡◌, ◌↔◌, ℕ, None}
use Rattle.std.specs.declared.cmp.Ordering.{Ordering}
use Rattle.std.specs.declared.cmp.Ordering.TheVariants.{Less, Equal}
use Rattle.std.specs.Ordering.{ordering_then, nat_cmp}
use Rattle.byte_fields.specs.{StoredKey, stored_cmp}
use Rattle.kv_types.specs.{Entry}
use Rattle.merge_iter.specs.declared.direction.Direction.{Direction}
use Rattle.merge_iter.specs.declared.direction.Direction.TheVariants.{Forward, Backward}

-- keys rise, and the numbers of one key fall
abbrev pub entry_cmp : Entry → Entry → Ordering
entry_cmp a b = ordering_then (stored_cmp a.key b.key) (nat_cmp b.number a.number)

-- the place of a key and number in the order, whichever entry stands there
abbrev pub spot : StoredKey → ℕ → Entry
spot key number = record { key = key; number = number; value = None }

-- a walk in this direction meets `a` before `b`
abbrev pub EntryPrecedes : Direction → Entry → Entry → Type 0
EntryPrecedes Forward a b = entry_cmp a b ≡ Less
EntryPrecedes Backward a b = entry_cmp b a ≡ Less

-- two sets have the same entries
abbrev pub IsAlike : (Entry → Type 0) → (Entry → Type 0) → Type 0
IsAlike P Q = (entry : Entry) → P entry ↔ Q entry

-- no two entries of the set share key and number
abbrev pub IsApart : (Entry → Type 0) → Type 0
IsApart P = (a b : Entry) → P a → P b → entry_cmp a b ≡ Equal → a ≡ b
