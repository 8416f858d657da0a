-- What `parse` says of a word, in the words of `is_number`.
use Rattle.std.proofs.Common.{◌≡◌, ◌≢◌, ◌⊎◌, ◌<◌, ◌≤◌, ◌^◌, ℕ, List, length, get_or, true, false}
use Rattle.std.proofs.Common.{refl, sym, arith, inl, inr, Result, Ok, Err}
use Rattle.std.specs.Fmt.{decimal}
use Rattle.std.specs.Str.{IsUtf8, all_ascii_digits}
use Rattle.std.specs.Str.Parse.{ParsesUnsigned, digits_value}
use Rattle.std.proofs.lemmas.Bool.{cases_Bool}
use Rattle.std.proofs.lemmas.Fmt.{IsAscii-from_digits, decimal-digits_value}
use Rattle.std.proofs.lemmas.Str.{IsUtf8-from_ascii}
use Rattle.std.proofs.lemmas.Str.Parse.{IsNumeralModel, parse_plain}
use Rattle.script_words.specs.Words.{is_number}
use Rattle.script_words.specs.WordsLemmas.{is_number_of, number_parts, numerals}

-- what is no text is no number
pub no_text : (w : List ℕ) → (IsUtf8 w → ⊥) → is_number w ≡ false
no_text w h = elim (cases_Bool (all_ascii_digits w)) [
  | inl t ↦
      absurd (h (IsUtf8-from_ascii w (IsAscii-from_digits w (IsNumeralModel.to numerals w t))))
  | inr f ↦ rw f refl
]

-- what `parse` refuses is no number
pub refused : {E : Type 0} (w : List ℕ) (e : E) → get_or w 0 0 ≢ 43
    → ParsesUnsigned 64 10 w (Err e) → is_number w ≡ false
refused {E} w e plain h = elim (cases_Bool (is_number w)) [
  | inl t ↦ let p = number_parts w t in absurd (parse_plain numerals 64 w (Err e) h plain (
    p.digits,
    p.some,
    omega (arith, p.small),
  ))
  | inr f ↦ f
]

-- what `parse` takes is the number's spelling
pub taken : {E : Type 0} (w : List ℕ) (r : Result ℕ E) (n : ℕ) → get_or w 0 0 ≢ 43
    → (get_or w 0 0 ≡ 48 → length w ≡ 1) → ParsesUnsigned 64 10 w r → r ≡ Ok n → n < 2 ^ 63
    → (is_number w ≡ true) × (w ≡ decimal n) × (digits_value 10 w ≡ n)
taken w r n plain lead h is small =
    let got = rw is at (parse_plain numerals 64 w r h plain) in
    let value : n ≡ digits_value 10 w = got.1 in (
      is_number_of w (record {
        digits = got.0.0;
        some = got.0.1;
        lead = lead;
        small =
            omega arith;
      }),
      sym (rw value (decimal-digits_value numerals w got.0.0 got.0.1 lead (omega arith))),
      sym value,
    )

pub too_great : {E : Type 0} (w : List ℕ) (r : Result ℕ E) (n : ℕ) → get_or w 0 0 ≢ 43
    → ParsesUnsigned 64 10 w r → r ≡ Ok n → 2 ^ 63 ≤ n → is_number w ≡ false
too_great w r n plain h is great = elim (cases_Bool (is_number w)) [
  | inl t ↦
      let p = number_parts w t in
      let got = rw is at (parse_plain numerals 64 w r h plain) in
      absurd (omega (arith, got.1, p.small))
  | inr f ↦ f
]

pub lead_of : (w : List ℕ) → 0 < length w → ((get_or w 0 0 ≡ 48)
    × (length w ≤ 1)) ⊎ (get_or w 0 0 ≢ 48) → get_or w 0 0 ≡ 48 → length w ≡ 1
lead_of w some (inl p) z = omega arith
lead_of w some (inr q) z = absurd (q z)
