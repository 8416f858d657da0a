-- Byte strings.
use Rattle.std.proofs.lemmas.Bool.{cases_eq}
use Rattle.std.proofs.Common.{inl, inr, ◌≡◌, ℕ, List, ◌-◌, ◌/◌, ◌%◌, ◌<◌, ◌≤◌, length}
use Rattle.std.proofs.Common.{get_or, take, drop, true, false, arith, refl, ap, [], ◌∷◌, ◌++◌}
use Rattle.script_words.specs.Words.{is_byte_string, is_plain, byte_text, are_bytes, is_hex}
use Rattle.script_words.specs.Words.{hex_value, escaped}
use Rattle.script_words.specs.Junks.{are_pairs, hex_text}
use Rattle.std.proofs.Math.Seq.{take-length}
use Rattle.std.proofs.lemmas.List.{length-drop}
use Rattle.std.specs.Char.{digit_char}
use Rattle.std.proofs.lemmas.Bool.Decides.{nat_tests}

-- a digit has its value
digit_is : (d : ℕ) → d < 16 → hex_value (digit_char d) ≡ d
digit_is d small = grind (arith, nat_tests)

-- two digits that spell a byte are hex digits, and stand for it
digits_are : (y z b : ℕ) → b < 256 → are_pairs (y ∷ z ∷ []) ≡ true
    → y ∷ z ∷ [] ≡ hex_text (b ∷ [])
    → (is_hex y ≡ true) × (is_hex z ≡ true) × (y ≡ digit_char (b / 16))
    × (z ≡ digit_char (b % 16)) × (escaped y z ≡ b)
digits_are y z b small pairs spelled =
    let high : y ≡ digit_char (b / 16) = cc in
    let low : z ≡ digit_char (b % 16) = cc in
    let first : hex_value y ≡ b / 16 = rw high (digit_is (b / 16) (omega arith)) in
    let second : hex_value z ≡ b % 16 = rw low (digit_is (b % 16) (omega arith)) in
    (grind (arith, nat_tests), grind (arith, nat_tests), high, low, omega (arith, first, second))

-- what an escape at the front spells
pub escape_at : (t : List ℕ) (b : ℕ) → 3 ≤ length t → get_or t 0 0 ≡ 37 → b < 256
    → are_pairs (get_or t 1 0 ∷ get_or t 2 0 ∷ []) ≡ true
    → get_or t 1 0 ∷ get_or t 2 0 ∷ [] ≡ hex_text (b ∷ []) → is_plain b ≡ false
    → (t ≡ byte_text b ++ drop 3 t) × (are_bytes t ≡ are_bytes (drop 3 t))
escape_at [] b n p small pairs spelled np = absurd (omega arith)
escape_at (x ∷ []) b n p small pairs spelled np = absurd (omega arith)
escape_at (x ∷ y ∷ []) b n p small pairs spelled np = absurd (omega arith)
escape_at (x ∷ y ∷ z ∷ t) b n p small pairs spelled np =
    let it = digits_are y z b small pairs spelled in (
      rw (np, p, it.2, it.3) refl,
      rw (p, it.0, it.1, it.4, np) refl,
    )

-- .. and what one spells that stands for itself
pub escape_refused : (t : List ℕ) (b : ℕ) → 3 ≤ length t → get_or t 0 0 ≡ 37 → b < 256
    → are_pairs (get_or t 1 0 ∷ get_or t 2 0 ∷ []) ≡ true
    → get_or t 1 0 ∷ get_or t 2 0 ∷ [] ≡ hex_text (b ∷ []) → is_plain b ≡ true
    → are_bytes t ≡ false
escape_refused [] b n p small pairs spelled is = absurd (omega arith)
escape_refused (x ∷ []) b n p small pairs spelled is = absurd (omega arith)
escape_refused (x ∷ y ∷ []) b n p small pairs spelled is = absurd (omega arith)
escape_refused (x ∷ y ∷ z ∷ t) b n p small pairs spelled is =
    let it = digits_are y z b small pairs spelled in
    rw (p, it.0, it.1, it.4, is) refl

pub tail3 : (t : List ℕ) → take (length t - 3) (drop 3 t) ≡ drop 3 t
tail3 t = rw (← length-drop 3 t) (take-length (drop 3 t))

pub not_bytes : (w : List ℕ) → (w ≡ 64 ∷ [] → ⊥) → are_bytes w ≡ false → is_byte_string w ≡ false
not_bytes [] other bad = refl
not_bytes (a ∷ []) other bad = elim (cases_eq a 64) [
  | inl e ↦ absurd (other (ap (λ x. x ∷ []) e))
  | inr ne ↦ grind (arith, nat_tests)
]
not_bytes (a ∷ b ∷ bs) other bad = rw bad (grind (arith, nat_tests))
