-- What a crash leaves has one spelling, and is read.
use Rattle.std.proofs.lemmas.List.Elements.{All-head, All-tail}
use Rattle.script_words.specs.Words.{AreBytes}
use Rattle.script_words.specs.Junks.{AreBytesOf, IsJunk, are_pairs, hex_text, is_junk}
use Rattle.disk.specs.declared.junk.Junk.TheVariants.{Bytes, New, Old}
use Rattle.disk.specs.declared.junk.Junk.{Junk}
use Rattle.std.proofs.Common.{List, ap, arith, length, refl, sym, true, ℕ, ◌/◌, ◌<◌, ◌∙◌, ◌∷◌, ◌≡◌}
use Rattle.std.proofs.Common.{◌≤◌, []}
use Rattle.std.proofs.lemmas.Grind.{common_steps}
use Rattle.std.specs.Char.{digit_char}
use Rattle.std.specs.Prelude.{nat_lt, ◌%◌}
use Rattle.std.proofs.lemmas.Bool.Decides.{nat_tests}
use Rattle.script_words.specs.WordsLemmas.{digit_read, one_digit}
use Rattle.std.proofs.Math.Bool.{or-true}

abbrev head : List ℕ → ℕ
head [] = 0
head (x ∷ xs) = x

abbrev rest : List ℕ → List ℕ
rest [] = []
rest (x ∷ xs) = xs

-- the digits of bytes are pairs
pub pairs_read : (bs : List ℕ) → AreBytes bs → are_pairs (hex_text bs) ≡ true
pairs_read [] la = refl
pairs_read (b ∷ bs) la =
    let small : b < 256 = All-head (λ x. x < 256) b bs la in
    rw ((digit_read (b / 16) (omega arith)).0, (digit_read (b % 16) (omega arith)).0)
    (pairs_read bs (All-tail (λ x. x < 256) b bs la))

some_pairs : (bs : List ℕ) → nat_lt 0 (length bs) ≡ true → nat_lt 0 (length (hex_text bs)) ≡ true
some_pairs [] e = e
some_pairs (b ∷ bs) e = grind (arith, nat_tests)

-- a word for what a crash leaves is one
pub junk_read : (j : Junk) (word : List ℕ) → AreBytesOf j → IsJunk j word → is_junk word ≡ true
junk_read Old word la e = rw e refl
junk_read New word la e = rw e refl
junk_read (Bytes bs) word la e =
    rw (e.1, some_pairs bs e.0, pairs_read bs la, or-true) refl

one_hex : (a b : List ℕ) → AreBytes a → AreBytes b → hex_text a ≡ hex_text b → a ≡ b
one_hex [] [] la lb e = refl
one_hex [] (d ∷ b) la lb e = absurd (grind (arith, common_steps))
one_hex (c ∷ a) [] la lb e = absurd (grind (arith, common_steps))
one_hex (c ∷ a) (d ∷ b) la lb e =
    let sc : c < 256 = All-head (λ x. x < 256) c a la in
    let sd : d < 256 = All-head (λ x. x < 256) d b lb in
    let high : c / 16 ≡ d / 16 =
    one_digit (c / 16) (d / 16) (omega arith) (omega arith) (ap head e) in
    let low : c % 16 ≡ d % 16 =
    one_digit (c % 16) (d % 16) (omega arith) (omega arith) (ap (λ l. head (rest l)) e) in
    let same : c ≡ d = omega (arith, high, low) in
    let others : a ≡ b =
    one_hex a b (All-tail (λ x. x < 256) c a la) (All-tail (λ x. x < 256) d b lb)
    (ap (λ l. rest (rest l)) e) in
    rw (same, others) refl

-- a hex digit is no letter behind f
low_digit : (b : ℕ) → b < 256 → digit_char (b / 16) < 103
low_digit b s =
    let small : b / 16 < 16 = omega arith in
    grind (arith, nat_tests)

no_letter : (bs : List ℕ) (c : ℕ) (xs : List ℕ) → AreBytes bs → 103 ≤ c → c ∷ xs ≡ hex_text bs → ⊥
no_letter [] c xs la le e = grind (arith, common_steps)
no_letter (b ∷ bs) c xs la le e =
    let at : c ≡ digit_char (b / 16) = ap head e in
    omega (arith, at, low_digit b (All-head (λ x. x < 256) b bs la))

-- a word says one thing that a crash leaves
pub one_junk : (a b : Junk) (word : List ℕ) → AreBytesOf a → AreBytesOf b → IsJunk a word
    → IsJunk b word → a ≡ b
one_junk Old Old word la lb p q = refl
one_junk Old New word la lb p q =
    let at : 111 ≡ 110 = ap head (sym p ∙ q) in
    absurd (omega (arith, at))
one_junk Old (Bytes b) word la lb p q = absurd (no_letter b 111 _ lb (omega arith) (sym p ∙ q.1))
one_junk New Old word la lb p q =
    let at : 110 ≡ 111 = ap head (sym p ∙ q) in
    absurd (omega (arith, at))
one_junk New New word la lb p q = refl
one_junk New (Bytes b) word la lb p q = absurd (no_letter b 110 _ lb (omega arith) (sym p ∙ q.1))
one_junk (Bytes a) Old word la lb p q = absurd (no_letter a 111 _ la (omega arith) (sym q ∙ p.1))
one_junk (Bytes a) New word la lb p q = absurd (no_letter a 110 _ la (omega arith) (sym q ∙ p.1))
one_junk (Bytes a) (Bytes b) word la lb p q = rw (one_hex a b la lb (sym p.1 ∙ q.1)) refl
