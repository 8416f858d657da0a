-- In order, the entry right before another decides whether that one is overwritten.
use Rattle.std.proofs.Common.{◌≡◌, ◌⊎◌, inl, inr, ℕ, ◌<◌, ◌≤◌, List, sym, ◌∙◌, ap, subst, arith}
use Rattle.kv_types.specs.{Entry}
use Rattle.store_model.specs.Keys.{KeyPrecedes}
use Rattle.store_model.specs.KeysLemmas.{key_chain, key_never}
use Rattle.store_model.specs.Sweeps.{IsBeforeInSweep, IsNextInSweep}

not_before : (a b : List ℕ) → a ≡ b → KeyPrecedes a b → ⊥
not_before a b same lt = key_never b (subst (λ z. KeyPrecedes z b) same lt)

-- a newer entry of a key does not come after an older one
not_after : (a newer : Entry) → newer.key ≡ a.key → a.number < newer.number
    → (newer ≡ a) ⊎ IsBeforeInSweep a newer → ⊥
not_after a newer same lt (inl is) =
    let number : newer.number ≡ a.number = ap (λ (e : Entry). e.number) is in
    omega (arith, number, lt)
not_after a newer same lt (inr (inl before)) = not_before a.key newer.key (sym same) before
not_after a newer same lt (inr (inr falls)) = let le = falls.1 in omega (arith, le, lt)

-- an entry between two entries of one key has that key, and a number between theirs
passes_on : (newer a b : Entry) (floor : ℕ) → newer.key ≡ b.key → newer.number ≤ floor
    → (newer ≡ a) ⊎ IsBeforeInSweep newer a → IsBeforeInSweep a b
    → (a.key ≡ b.key) × (a.number ≤ floor)
passes_on newer a b floor same le (inl is) next =
    let number : newer.number ≡ a.number = ap (λ (e : Entry). e.number) is in
    (sym (ap (λ (e : Entry). e.key) is) ∙ same, omega (arith, number, le))
passes_on newer a b floor same le (inr (inl before)) (inl next) =
    absurd (not_before newer.key b.key same (key_chain newer.key a.key b.key before next))
passes_on newer a b floor same le (inr (inl before)) (inr next) =
    absurd (not_before newer.key b.key same (subst (λ k. KeyPrecedes newer.key k) next.0 before))
passes_on newer a b floor same le (inr (inr falls)) next =
    let lt = falls.1 in (sym falls.0 ∙ same, omega (arith, lt, le))

module _ (entries : Entry → Type 0) (a b : Entry) (next : IsNextInSweep entries a b) where
  -- where a newer entry up to the floor overwrites b, the one right before b does
  pub next_overwrites : (newer : Entry) (floor : ℕ) → entries newer → newer.key ≡ b.key
      → b.number < newer.number → newer.number ≤ floor → (a.key ≡ b.key) × (a.number ≤ floor)
  next_overwrites newer floor has same lt le = elim (next.none_between newer has) [
    | inl earlier ↦ passes_on newer a b floor same le earlier next.in_order
    | inr later ↦ absurd (not_after b newer same lt later)
  ]

  -- right before b, an entry of the same key is newer
  pub next_is_newer : a.key ≡ b.key → b.number < a.number
  next_is_newer same = elim next.in_order [
    | inl before ↦ absurd (not_before a.key b.key same before)
    | inr falls ↦ falls.1
  ]
