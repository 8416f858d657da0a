-- Entries of a rising list, by their places.
use Rattle.std.proofs.Common.{◌≡◌, ℕ, ◌⊎◌, inl, inr, ◌<◌, List, length, Some, Contains, refl, sym}
use Rattle.std.proofs.Common.{ap, ◌∙◌, subst, get_or, arith}
use Rattle.std.specs.List.{slice_get}
use Rattle.std.proofs.lemmas.Option.{get_or_from_slice_get, slice_get_read, slice_get_within}
use Rattle.kv_types.specs.{Entry}
use Rattle.merge_iter.specs.declared.Direction.TheVariants.{Forward}
use Rattle.merge_iter.specs.{EntryPrecedes, IsApart}
use Rattle.merge_iter.specs.EntryOrder.{equal_apart, equal_back}
use Rattle.byte_fields.specs.FieldsLemmas.{some_is}
use Rattle.table_format.specs.Blocks.{AreRising}

-- of two entries the one at the lesser place comes first
pub in_order : (entries : List Entry) (i j : ℕ) (a b : Entry) → AreRising entries → i < j
    → slice_get entries i ≡ Some a → slice_get entries j ≡ Some b → EntryPrecedes Forward a b
in_order entries i j a b rising below at_i at_j =
    let h = rising i j a below (slice_get_within entries j b at_j) in
    let first : get_or entries i a ≡ a = get_or_from_slice_get entries i a a at_i in
    let second : get_or entries j a ≡ b = get_or_from_slice_get entries j b a at_j in
    subst (λ (x : Entry). EntryPrecedes Forward x b) first
    (subst (λ (y : Entry). EntryPrecedes Forward (get_or entries i a) y) second h)

-- an entry of the list, at its place
pub contained_at : (entries : List Entry) (a : Entry) → (p : Contains entries a)
    → slice_get entries p.0 ≡ Some a
contained_at entries a p = slice_get_read entries (length entries) p.0 a refl p.1 (sym p.2)

-- an entry at a place is one of the list
pub at_contained : (entries : List Entry) (i : ℕ) (a : Entry) → slice_get entries i ≡ Some a
    → Contains entries a
at_contained entries i a at =
    (i, slice_get_within entries i a at, get_or_from_slice_get entries i a a at)

sides : (i j : ℕ) → (i < j) ⊎ ((i ≡ j) ⊎ (j < i))
sides i j = grind arith

-- entries of one key and number stand at one place
pub rising_apart : (entries : List Entry) → AreRising entries → IsApart (Contains entries)
rising_apart entries rising a b p q e =
    let at_a = contained_at entries a p in
    let at_b = contained_at entries b q in
    elim (sides p.0 q.0) [
      | inl lt ↦ absurd (equal_apart Forward a b e
          (in_order entries p.0 q.0 a b rising lt at_a at_b))
      | inr m ↦ elim m [
        | inl same ↦ some_is a b (sym at_a ∙ (ap (slice_get entries) same ∙ at_b))
        | inr gt ↦ absurd (equal_apart Forward b a (equal_back a b e)
            (in_order entries q.0 p.0 b a rising gt at_b at_a))
      ]
    ]
