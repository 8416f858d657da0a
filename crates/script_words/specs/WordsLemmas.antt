-- Numbers and byte strings: what is spelled is read, and a number has one spelling.
use Rattle.std.proofs.lemmas.List.Elements.{All-head, All-tail}
use Rattle.script_words.specs.Words.{AreBytes, are_bytes, begins_fault, bound_text, byte_text}
use Rattle.script_words.specs.Words.{bytes_text, escaped, hex_value, is_bound, is_byte_string}
use Rattle.script_words.specs.Words.{IsPositive, is_hex, is_number, is_plain, is_positive}
use Rattle.std.specs.Prelude.{IfSome, Option, nat_lt, ◌%◌}
use Rattle.std.proofs.lemmas.Str.Parse.{IsNumeralModel, numerals_by_value, tells_all_ascii_digits}
use Rattle.std.proofs.Common.{List, None, Some, ap, arith, false, get_or, inl, inr, length}
use Rattle.std.proofs.Common.{length-append, refl, suc, true, zero, ℕ, ◌++◌, ◌/◌, ◌<◌, ◌^◌, ◌∙◌}
use Rattle.std.proofs.Common.{◌∷◌, ◌≡◌, []}
use Rattle.std.specs.Str.{all_ascii_digits}
use Rattle.std.proofs.lemmas.Bool.{cases_Bool}
use Rattle.std.specs.Fmt.{decimal}
use Rattle.std.proofs.lemmas.Fmt.{decimal_injective, decimal_nonempty, digits_decimal}
use Rattle.std.proofs.lemmas.Fmt.{digits_value-decimal, first_decimal, length-decimal-le}
use Rattle.std.specs.Char.{digit_char}
use Rattle.std.specs.Str.Parse.{digits_value}
use Rattle.std.specs.List.{flat_map}
use Rattle.std.proofs.lemmas.Bool.Decides.{nat_tests}
use Rattle.std.proofs.Math.Bool.{or-true}

-- the value of digits is the one that they are parsed to
pub numerals : IsNumeralModel (λ ds. all_ascii_digits ds ≡ true) (digits_value 10)
numerals = numerals_by_value _ tells_all_ascii_digits

-- what the test says of a word
pub record NumberParts (w : List ℕ) : Type 0 where
  pub digits : all_ascii_digits w ≡ true
  pub some : 0 < length w
  pub lead : get_or w 0 0 ≡ 48 → length w ≡ 1
  pub small : digits_value 10 w < 2 ^ 63

-- a number's word has these parts
pub number_parts : (w : List ℕ) → is_number w ≡ true → NumberParts w
number_parts w h = record {
  digits = grind (arith, nat_tests);
  some = grind (arith, nat_tests);
  lead = λ z. grind (arith, nat_tests);
  small = grind (arith, nat_tests);
}

-- a word with these parts is a number's
pub is_number_of : (w : List ℕ) → NumberParts w → is_number w ≡ true
is_number_of w p = let a = NumberParts.digits p in let b = NumberParts.some p in let c =
    NumberParts.lead p in let d = NumberParts.small p in grind (arith, nat_tests)

lead : (n : ℕ) → n < 2 ^ 64 → get_or (decimal n) 0 0 ≡ 48 → length (decimal n) ≡ 1
lead zero small e =
    omega (arith, length-decimal-le 1 0 (omega arith) (omega arith) small, decimal_nonempty 0 small)
lead (suc n) small e = absurd (omega (arith, first_decimal (suc n) (omega arith) small, e))

-- a number that a script may name is read
pub number_word : (n : ℕ) → n < 2 ^ 63 → is_number (decimal n) ≡ true
number_word n small =
    let wide : n < 2 ^ 64 = omega arith in
    is_number_of (decimal n) (record {
      digits = digits_decimal numerals n wide;
      some = decimal_nonempty n wide;
      lead = lead n wide;
      small = rw (digits_value-decimal numerals n wide) small;
    })

-- its word has its value
pub number_back : (n : ℕ) → n < 2 ^ 63 → digits_value 10 (decimal n) ≡ n
number_back n small = digits_value-decimal numerals n (omega (arith, small))

-- a number from 1 that a script may name is read
pub positive_word : (n : ℕ) → IsPositive n → is_positive (decimal n) ≡ true
positive_word n is =
    let above : nat_lt 0 n ≡ true = grind (arith, nat_tests) in
    rw (number_word n is.1, number_back n is.1, above) refl

-- a number's word begins no fault
pub number_faultless : (w : List ℕ) → is_number w ≡ true → begins_fault w ≡ false
number_faultless [] is = refl
number_faultless (b ∷ bs) is = grind (arith, nat_tests)

-- no two numbers have one word
pub one_number : (m n : ℕ) → m < 2 ^ 63 → n < 2 ^ 63 → decimal m ≡ decimal n → m ≡ n
one_number m n lm ln e = decimal_injective m n (omega arith) (omega arith) e

some_text : (b : ℕ) → 0 < length (byte_text b)
some_text b = elim (cases_Bool (is_plain b)) [
  | inl t ↦ rw t (omega arith)
  | inr f ↦ rw f
      (omega arith)
]

-- bytes that are spelled one after another are a byte string, if there is one
pub bytes_done : (w bs : List ℕ) → 0 < length bs → w ≡ flat_map byte_text bs → are_bytes w ≡ true
    → (is_byte_string w ≡ true) × (w ≡ bytes_text bs)
bytes_done w [] some e all = absurd (omega arith)
bytes_done [] (b ∷ bs) some e all = absurd (omega (
  arith,
  some_text b,
  ap length e,
  length-append
      (byte_text b) (flat_map byte_text bs),
))
bytes_done (a ∷ more) (b ∷ bs) some e all = (rw (all, or-true) refl, e)

plain_first : (b : ℕ) (xs : List ℕ) → is_plain b ≡ true → are_bytes (b ∷ xs) ≡ are_bytes xs
plain_first b [] t = t
plain_first b (c ∷ []) t = rw t refl
plain_first b (c ∷ d ∷ xs) t = rw t refl

-- the glyph of a value below 16 is a hex digit of this value
pub digit_read : (d : ℕ) → d < 16 → (is_hex (digit_char d) ≡ true) × (hex_value (digit_char d) ≡ d)
digit_read d small = (grind (arith, nat_tests), grind (arith, nat_tests))

escape_read : (b : ℕ) → b < 256 → escaped (digit_char (b / 16)) (digit_char (b % 16)) ≡ b
escape_read b small =
    let high = (digit_read (b / 16) (omega arith)).1 in
    let low = (digit_read (b % 16) (omega arith)).1 in
    omega (arith, high, low)

first_bytes : (b : ℕ) (xs : List ℕ) → b < 256 → are_bytes (byte_text b ++ xs) ≡ are_bytes xs
first_bytes b xs small = elim (cases_Bool (is_plain b)) [
  | inl t ↦ rw t (plain_first b xs t)
  | inr f ↦
      let high = (digit_read (b / 16) (omega arith)).0 in
      let low = (digit_read (b % 16) (omega arith)).0 in
      rw (f, high, low, escape_read b small, f) refl
]

flat_read : (bs : List ℕ) → AreBytes bs → are_bytes (flat_map byte_text bs) ≡ true
flat_read [] la = refl
flat_read (b ∷ bs) la =
    first_bytes b (flat_map byte_text bs) (All-head (λ x. x < 256) b bs la)
    ∙ flat_read bs (All-tail (λ x. x < 256) b bs la)

-- the word of a byte string is one
pub bytes_read : (bs : List ℕ) → AreBytes bs → is_byte_string (bytes_text bs) ≡ true
bytes_read [] la = refl
bytes_read (b ∷ bs) la =
    (bytes_done (flat_map byte_text (b ∷ bs)) (b ∷ bs) (omega arith) refl (flat_read (b ∷ bs) la)).0

-- the word of an upper bound is one
pub bound_read : (to : Option (List ℕ)) → IfSome to AreBytes → is_bound (bound_text to) ≡ true
bound_read None la = refl
bound_read (Some key) la = rw (bytes_read key la, or-true) refl

-- a digit below 16 stands for itself alone
pub one_digit : (a b : ℕ) → a < 16 → b < 16 → digit_char a ≡ digit_char b → a ≡ b
one_digit a b la lb e = grind (arith, nat_tests)
