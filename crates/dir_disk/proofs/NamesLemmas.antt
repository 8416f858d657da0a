-- What `parse` says of a name, and how a number in decimal begins.
use Rattle.std.proofs.Common.{◌≡◌, ◌≢◌, ◌<◌, ◌≤◌, ◌^◌, ℕ, zero, suc, List, length, get_or, true}
use Rattle.std.proofs.Common.{refl, sym, arith, Result, Ok, Err}
use Rattle.std.specs.Fmt.{decimal}
use Rattle.std.specs.Str.{all_ascii_digits}
use Rattle.std.specs.Str.Parse.{ParsesUnsigned, digits_value}
use Rattle.std.proofs.lemmas.Fmt.{decimal-digits_value, decimal_digit, decimal_nonempty}
use Rattle.std.proofs.lemmas.Fmt.{first_decimal, parse-decimal}
use Rattle.std.proofs.lemmas.Str.Parse.{IsNumeralModel, numerals_by_value, tells_all_ascii_digits}
use Rattle.std.proofs.lemmas.Str.Parse.{parse_plain}

own : IsNumeralModel (λ ds. all_ascii_digits ds ≡ true) (digits_value 10)
own = numerals_by_value _ tells_all_ascii_digits

-- what `parse` takes is the number in decimal, where the name has no sign and no leading zero
pub taken : {E : Type 0} (w : List ℕ) (r : Result ℕ E) (n : ℕ) → get_or w 0 0 ≢ 43
    → (get_or w 0 0 ≡ 48 → length w ≡ 1) → ParsesUnsigned 64 10 w r → r ≡ Ok n → n < 2 ^ 64
    → w ≡ decimal n
taken w r n plain lead h is small =
    let got = rw is at (parse_plain own 64 w r h plain) in
    let value : n ≡ digits_value 10 w = got.1 in
    sym (rw value (decimal-digits_value own w got.0.0 got.0.1 lead (omega arith)))

-- a number in decimal has a first digit, which is 0 only where it is alone
pub begins : (w : List ℕ) (n : ℕ) → n < 2 ^ 64 → w ≡ decimal n
    → (0 < length w) × (48 ≤ get_or w 0 0) × (get_or w 0 0 ≡ 48 → length w ≡ 1)
begins w zero small is = rw (is, decimal_digit 0 (omega arith)) (
  omega arith,
  omega arith,
  λ _. refl,
)
begins w (suc n) small is =
    let first = first_decimal (suc n) (omega arith) small in
    let some = decimal_nonempty (suc n) small in
    rw is (some, omega (arith, first), λ z. absurd (omega (arith, first, z)))

-- `parse` takes each number in decimal
pub never_refused : {E : Type 0} (w : List ℕ) (r : Result ℕ E) (e : E) (n : ℕ) → n < 2 ^ 64
    → w ≡ decimal n → ParsesUnsigned 64 10 w r → r ≡ Err e → ⊥
never_refused w r e n small is h refused =
    let ok = parse-decimal 64 n w r small small is h in
    grind (arith, refused, ok)
