-- The tests of a key against the bounds of a range.
use Rattle.std.proofs.Common.{◌≡◌, ◌↔◌, List, ℕ, Bool, false, IsTrue, Option, Some, IfSome}
use Rattle.std.proofs.Common.{sym, subst}
use Rattle.byte_fields.specs.Order.{IsBelow}
use Rattle.byte_fields.specs.ByteOrderLemmas.{from_below, not_below}
use Rattle.kv_types.specs.Pages.{IsWithin}
use Rattle.kv_types.specs.{Span}

module _ (range : Span) (key : List ℕ) where
  -- a key below the first one lies outside
  pub not_within : IsBelow key range.from → IsTrue false ↔ IsWithin range key
  not_within lower = (
    (λ t. absurd cc),
    (λ within. absurd (from_below range.from key within.0 lower)),
  )

  -- from the first key on the other bound decides
  pub by_bound : (to : List ℕ) (test : Bool) → (IsBelow key range.from → ⊥) → range.to ≡ Some to
      → (IsTrue test ↔ IsBelow key to) → IsTrue test ↔ IsWithin range key
  by_bound to test from same decides = (
    (λ t. (
      not_below range.from key from,
      subst (λ (o : Option (List ℕ)). IfSome o (λ k. IsBelow key k)) (sym same) (decides.0 t),
    )),
    (λ within. decides.1 (subst (λ (o : Option (List ℕ)). IfSome o (λ k. IsBelow key k)) same
        within.1)),
  )
