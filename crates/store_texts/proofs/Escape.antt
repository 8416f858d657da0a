-- The two hex digits of a byte.
use Rattle.std.proofs.Common.{◌≡◌, ◌<◌, ℕ, [], ◌∷◌, false, refl, ◌^◌, ◌-◌}
use Rattle.std.specs.Fmt.{padded_integral, format_spec, digits}
use Rattle.std.proofs.lemmas.Fmt.{hex_byte}
use Rattle.script_words.specs.Words.{is_plain, byte_text}

pub escape_text : (b : ℕ) → b < 256 → is_plain b ≡ false
    → 37 ∷ padded_integral (format_spec 32 0 4 2 (2 ^ 64 - 1)) false []
    (digits 16 false b) ≡ byte_text b
escape_text b small other = rw (hex_byte false b small, other) refl
