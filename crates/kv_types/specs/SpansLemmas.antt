-- A range of stored keys has the rows of the range of keys, and no mark.
use Rattle.std.proofs.Common.{◌≡◌, ℕ, zero, suc, List, [], ◌∷◌, inl, inr, refl, ap}
use Rattle.std.proofs.Common.{Option, Some, None, IfSome, arith}
use Rattle.byte_fields.specs.Order.{IsBelow}
use Rattle.byte_fields.specs.{StoredKey, row_key}
use Rattle.kv_types.specs.Pages.{IsWithin}
use Rattle.kv_types.specs.Spans.{Span, end_of_rows, stored_span}

-- the keys of rows are ordered as the rows' keys are
pub row_key-below : (a b : List ℕ) → IsBelow a b → IsBelow (row_key a) (row_key b)
row_key-below a b lower = inr (refl, lower)

-- .. and no others
pub below-row_key : (a b : List ℕ) → IsBelow (row_key a) (row_key b) → IsBelow a b
below-row_key a b (inl lt) = absurd (omega (arith, lt))
below-row_key a b (inr lower) = lower.1

row_key-same : (a b : List ℕ) → row_key a ≡ row_key b → a ≡ b
row_key-same a b same = cc

-- the key of a row lies in the range of stored keys as the row's key does in the range
pub row_within : (range : Span) (key : List ℕ) → IsWithin range key
    → IsWithin (stored_span range) (row_key key)
row_within range key within = (
  elim within.0 [
    | inl same ↦ inl (ap row_key same)
    | inr lower ↦ inr (row_key-below range.from key lower)
  ],
  below_end range.to within.1,
)
  where
    below_end : (to : Option (List ℕ)) → IfSome to (λ t. IsBelow key t)
        → IsBelow (row_key key) (end_of_rows to)
    below_end (Some t) lower = row_key-below key t lower
    below_end None lower = inl (omega arith)

-- what lies in the range of stored keys is the key of a row in the range
pub within_row : (range : Span) (stored : StoredKey) → IsWithin (stored_span range) stored
    → (key : List ℕ) × (stored ≡ row_key key) × IsWithin range key
within_row range [] within = absurd (elim within.0 [ inl same ↦ cc | inr lower ↦ lower ])
within_row range (zero ∷ key) within = (
  key,
  refl,
  (
    elim within.0 [
      | inl same ↦ inl (row_key-same range.from key same)
      | inr lower ↦ inr (below-row_key range.from key lower)
    ],
    below_end range.to within.1,
  ),
)
  where
    below_end : (to : Option (List ℕ)) → IsBelow (row_key key) (end_of_rows to)
        → IfSome to (λ t. IsBelow key t)
    below_end (Some t) lower = below-row_key key t lower
    below_end None lower = tt
within_row range (suc space ∷ key) within = absurd (beyond range.to within.1)
  where
    none_below : (k : List ℕ) → IsBelow k [] → ⊥
    none_below [] h = h
    none_below (x ∷ k) h = h

    beyond : (to : Option (List ℕ)) → IsBelow (suc space ∷ key) (end_of_rows to) → ⊥
    beyond (Some t) (inl lt) = omega (arith, lt)
    beyond (Some t) (inr same) = let e = same.0 in omega (arith, e)
    beyond None (inl lt) = omega (arith, lt)
    beyond None (inr same) = none_below key same.1
