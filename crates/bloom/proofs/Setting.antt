-- Bytes with one bit more.
use Rattle.std.proofs.Common.{◌≡◌, ◌⊎◌, ℕ, ◌/◌, ◌%◌, ◌<◌, ◌^◌, List, length, get_or}
use Rattle.std.proofs.Common.{slice_set, inl, inr, sym, ap, subst, ◌∙◌, arith}
use Rattle.std.specs.Prelude.{◌↔◌, ◌≢◌, IsBitSet}
use Rattle.std.specs.Int.Bits.{bit_and, bit_or}
use Rattle.std.proofs.lemmas.Nat.{pow_pos, pow_apart, and_or_self, and_or_apart}
use Rattle.std.proofs.lemmas.Bool.{cases_eq}
use Rattle.std.proofs.lemmas.List.{get_or-set_same, get_or-set_other}
use Rattle.bloom.specs.Filters.{HasBit}

-- the bit that was set
bit_here : (b k : ℕ) → IsBitSet (bit_or b (2 ^ k)) k
bit_here b k none = absurd (omega (arith, pow_pos k, sym (and_or_self (2 ^ k) b) ∙ none))

-- every bit but the one that was set
bit_there : (b j k : ℕ) → j ≢ k → bit_and (bit_or b (2 ^ j)) (2 ^ k) ≡ bit_and b (2 ^ k)
bit_there b j k apart = and_or_apart (2 ^ k) b (2 ^ j) (pow_apart j k apart)

-- a place is its byte and its bit
one_place : (p q : ℕ) → p / 8 ≡ q / 8 → p % 8 ≡ q % 8 → p ≡ q
one_place p q byte bit = omega (arith, byte, bit)

module _ (bytes : List ℕ) (q byte : ℕ) (within : q / 8 < length bytes)
    (is : byte ≡ bit_or (get_or bytes (q / 8) 0) (2 ^ (q % 8))) where
  -- in the byte that was changed
  in_byte : (p : ℕ) → p / 8 ≡ q / 8 →
      get_or (slice_set bytes (q / 8) byte) (p / 8) 0
      ≡ bit_or (get_or bytes (p / 8) 0) (2 ^ (q % 8))
  in_byte p same =
      ap (λ i. get_or (slice_set bytes (q / 8) byte) i 0) same
      ∙ get_or-set_same bytes (q / 8) byte 0 within ∙ is
      ∙ ap (λ i. bit_or (get_or bytes i 0) (2 ^ (q % 8))) (sym same)

  -- the bits of the bytes with bit q set
  pub set_has : (p : ℕ) → HasBit (slice_set bytes (q / 8) byte) p ↔ (HasBit bytes p ⊎ (p ≡ q))
  set_has p = elim (cases_eq (p / 8) (q / 8)) [
    | inl same ↦ elim (cases_eq (q % 8) (p % 8)) [
      | inl bit ↦ (
        λ set. inr (one_place p q same (sym bit)),
        λ was. subst (λ (b : ℕ). IsBitSet b (p % 8)) (sym (in_byte p same))
            (subst (λ (k : ℕ). IsBitSet (bit_or (get_or bytes (p / 8) 0) (2 ^ k)) (p % 8))
            (sym bit) (bit_here (get_or bytes (p / 8) 0) (p % 8))),
      )
      | inr apart ↦
          let there = ap (λ b. bit_and b (2 ^ (p % 8))) (in_byte p same)
          ∙ bit_there (get_or bytes (p / 8) 0) (q % 8) (p % 8) apart in (
            λ set. inl (λ none. set (there ∙ none)),
            λ was. elim was [
              | inl old ↦ λ none. old (sym there ∙ none)
              | inr e ↦ absurd (apart (ap (λ n. n % 8) (sym e)))
            ],
          )
    ]
    | inr apart ↦
        let there = ap (λ b. bit_and b (2 ^ (p % 8)))
        (get_or-set_other bytes (q / 8) (p / 8) byte 0 apart) in (
          λ set. inl (λ none. set (there ∙ none)),
          λ was. elim was [
            | inl old ↦ λ none. old (sym there ∙ none)
            | inr e ↦ absurd (apart (ap (λ n. n / 8) e))
          ],
        )
  ]
