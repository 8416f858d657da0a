-- A byte string and an edit have one spelling, and an edit is read.
use Rattle.std.proofs.lemmas.List.Elements.{All-head, All-tail}
use Rattle.script_words.specs.Words.{AreBytes, byte_text, bytes_text, is_plain}
use Rattle.script_words.specs.Edits.{AreBytesIn, edit_word, is_edit}
use Rattle.std.specs.Prelude.{Bool, nat_lt, position, ◌%◌, ◌==◌, ◌⊎◌}
use Rattle.kv_types.specs.declared.Edit.TheVariants.{Delete, Put}
use Rattle.kv_types.specs.declared.Edit.{Edit}
use Rattle.std.proofs.Common.{List, Some, ap, append-nil, append_assoc, arith, drop, false, inl}
use Rattle.std.proofs.Common.{inr, length, length-append, refl, suc, sym, take, true, ℕ, ◌++◌, ◌+◌}
use Rattle.std.proofs.Common.{◌/◌, ◌<◌, ◌∙◌, ◌∷◌, ◌≡◌, ◌≢◌, []}
use Rattle.std.specs.Str.{bytes_eq}
use Rattle.std.proofs.lemmas.Bool.{cases_Bool}
use Rattle.std.proofs.lemmas.Grind.{common_steps}
use Rattle.std.specs.Char.{digit_char}
use Rattle.std.proofs.Math.Seq.{drop-append-add, take-append_seam}
use Rattle.std.specs.List.{flat_map, position_or_len}
use Rattle.std.proofs.lemmas.Bool.Decides.{nat_tests}
use Rattle.script_words.specs.WordsLemmas.{bytes_read, one_digit}

abbrev head : List ℕ → ℕ
head [] = 0
head (x ∷ xs) = x

abbrev rest : List ℕ → List ℕ
rest [] = []
rest (x ∷ xs) = xs

-- what a byte's text begins with
begins : (b : ℕ) (xs : List ℕ) → ((is_plain b ≡ true) × (byte_text b ++ xs ≡ b ∷ xs)) ⊎
    ((is_plain b ≡ false)
    × (byte_text b ++ xs ≡ 37 ∷ digit_char (b / 16) ∷ digit_char (b % 16) ∷ xs))
begins b xs = elim (cases_Bool (is_plain b)) [
  | inl t ↦ inl (t, rw t refl)
  | inr f ↦ inr (f, rw f refl)
]

no_percent : (b : ℕ) → is_plain b ≡ true → b ≢ 37
no_percent b t e = absurd (grind (arith, nat_tests))

-- a byte's text begins no other's
one_byte : (b c : ℕ) (xs ys : List ℕ) → b < 256 → c < 256 → byte_text b ++ xs ≡ byte_text c ++ ys
    → (b ≡ c) × (xs ≡ ys)
one_byte b c xs ys lb lc e = elim (begins b xs) [
  | inl p ↦ elim (begins c ys) [
    | inl q ↦
        let whole : b ∷ xs ≡ c ∷ ys = sym p.1 ∙ e ∙ q.1 in
        (ap head whole, ap rest whole)
    | inr q ↦
        let first : b ≡ 37 = ap head (sym p.1 ∙ e ∙ q.1) in
        absurd (no_percent b p.0 first)
  ]
  | inr p ↦ elim (begins c ys) [
    | inl q ↦
        let first : c ≡ 37 = sym (ap head (sym p.1 ∙ e ∙ q.1)) in
        absurd (no_percent c q.0 first)
    | inr q ↦
        let whole = sym p.1 ∙ e ∙ q.1 in
        let high : b / 16 ≡ c / 16 =
        one_digit (b / 16) (c / 16) (omega arith) (omega arith)
        (ap (λ l. head (rest l)) whole) in
        let low : b % 16 ≡ c % 16 =
        one_digit (b % 16) (c % 16) (omega arith) (omega arith)
        (ap (λ l. head (rest (rest l))) whole) in
        (omega (arith, high, low), ap (λ l. rest (rest (rest l))) whole)
  ]
]

-- nothing, or a sign that stands in no byte's text
abbrev RunEnds : List ℕ → Type 0
RunEnds [] = Unit {0}
RunEnds (x ∷ xs) = x ≡ 61

starts : (b : ℕ) (xs ys : List ℕ) → RunEnds ys → byte_text b ++ xs ≡ ys → ⊥
starts b xs [] ends e = elim (begins b xs) [
  | inl p ↦ grind (arith, common_steps)
  | inr p ↦ grind (arith, common_steps)
]
starts b xs (y ∷ ys) ends e = elim (begins b xs) [
  | inl p ↦ let at : b ≡ 61 = ap head (sym p.1 ∙ e) ∙ ends in grind (arith, nat_tests)
  | inr p ↦ let at : 37 ≡ 61 = ap head (sym p.1 ∙ e) ∙ ends in omega (arith, at)
]

one_flat : (a b xs ys : List ℕ) → AreBytes a → AreBytes b → RunEnds xs → RunEnds ys
    → flat_map byte_text a ++ xs ≡ flat_map byte_text b ++ ys → (a ≡ b) × (xs ≡ ys)
one_flat [] [] xs ys la lb ex ey e = (refl, e)
one_flat [] (c ∷ b) xs ys la lb ex ey e =
    absurd (starts c (flat_map byte_text b ++ ys) xs ex
    (sym (append_assoc (byte_text c) (flat_map byte_text b) ys) ∙ sym e))
one_flat (c ∷ a) [] xs ys la lb ex ey e =
    absurd (starts c (flat_map byte_text a ++ xs) ys ey
    (sym (append_assoc (byte_text c) (flat_map byte_text a) xs) ∙ e))
one_flat (c ∷ a) (d ∷ b) xs ys la lb ex ey e =
    let first = one_byte c d (flat_map byte_text a ++ xs) (flat_map byte_text b ++ ys)
    (All-head (λ x. x < 256) c a la) (All-head (λ x. x < 256) d b lb)
    (sym (append_assoc (byte_text c) (flat_map byte_text a) xs) ∙ e
    ∙ append_assoc (byte_text d) (flat_map byte_text b) ys) in
    let others = one_flat a b xs ys
    (All-tail (λ x. x < 256) c a la) (All-tail (λ x. x < 256) d b lb) ex ey first.1 in
    (rw (first.0, others.0) refl, others.1)

no_at : (b : ℕ) (xs ys : List ℕ) → byte_text b ++ xs ≡ 64 ∷ ys → ⊥
no_at b xs ys e = elim (begins b xs) [
  | inl p ↦ let at : b ≡ 64 = ap head (sym p.1 ∙ e) in grind (arith, nat_tests)
  | inr p ↦ let at : 37 ≡ 64 = ap head (sym p.1 ∙ e) in omega (arith, at)
]

-- byte strings before what ends them
one_string : (a b xs ys : List ℕ) → AreBytes a → AreBytes b → RunEnds xs → RunEnds ys
    → bytes_text a ++ xs ≡ bytes_text b ++ ys → (a ≡ b) × (xs ≡ ys)
one_string [] [] xs ys la lb ex ey e = (refl, ap rest e)
one_string [] (c ∷ b) xs ys la lb ex ey e =
    absurd (no_at c (flat_map byte_text b ++ ys) xs
    (sym (append_assoc (byte_text c) (flat_map byte_text b) ys) ∙ sym e))
one_string (c ∷ a) [] xs ys la lb ex ey e =
    absurd (no_at c (flat_map byte_text a ++ xs) ys
    (sym (append_assoc (byte_text c) (flat_map byte_text a) xs) ∙ e))
one_string (c ∷ a) (d ∷ b) xs ys la lb ex ey e = one_flat (c ∷ a) (d ∷ b) xs ys la lb ex ey e

-- no two byte strings have one word
pub one_text : (a b : List ℕ) → AreBytes a → AreBytes b → bytes_text a ≡ bytes_text b → a ≡ b
one_text a b la lb e =
    let same : bytes_text a ++ [] ≡ bytes_text b ++ [] =
    rw (append-nil (bytes_text a), append-nil (bytes_text b)) e in
    (one_string a b [] [] la lb tt tt same).0

-- no spelling of bytes is a star
pub no_star : (k : List ℕ) → 42 ∷ [] ≡ bytes_text k → ⊥
no_star [] e = let at : 42 ≡ 64 = ap head e in omega (arith, at)
no_star (b ∷ k) e = elim (begins b (flat_map byte_text k)) [
  | inl p ↦
      let at : b ≡ 42 = ap head (sym p.1 ∙ sym e) in
      grind (arith, nat_tests)
  | inr p ↦
      let at : 37 ≡ 42 = ap head (sym p.1 ∙ sym e) in
      omega (arith, at)
]

no_dash : (k xs ys : List ℕ) → bytes_text k ++ xs ≡ 45 ∷ ys → ⊥
no_dash [] xs ys e = let at : 64 ≡ 45 = ap head e in omega (arith, at)
no_dash (b ∷ k) xs ys e = elim (begins b (flat_map byte_text k ++ xs)) [
  | inl p ↦
      let at : b ≡ 45 =
      ap head (sym p.1 ∙ sym (append_assoc (byte_text b) (flat_map byte_text k) xs) ∙ e) in
      grind (arith, nat_tests)
  | inr p ↦
      let at : 37 ≡ 45 =
      ap head (sym p.1 ∙ sym (append_assoc (byte_text b) (flat_map byte_text k) xs) ∙ e) in
      omega (arith, at)
]

-- no two edits have one word
pub one_edit : (a b : Edit) → AreBytesIn a → AreBytesIn b → edit_word a ≡ edit_word b → a ≡ b
one_edit (Put k v) (Put l w) la lb e =
    let parts = one_string k l (61 ∷ bytes_text v) (61 ∷ bytes_text w) la.0 lb.0 refl refl e in
    rw (parts.0, one_text v w la.1 lb.1 (ap rest parts.1)) refl
one_edit (Put k v) (Delete l) la lb e = absurd (no_dash k (61 ∷ bytes_text v) (bytes_text l) e)
one_edit (Delete k) (Put l w) la lb e =
    absurd (no_dash l (61 ∷ bytes_text w) (bytes_text k) (sym e))
one_edit (Delete k) (Delete l) la lb e = rw (one_text k l la lb (ap rest e)) refl

-- no = stands in a byte string's word
abbrev is_sign : ℕ → Bool
is_sign b = b == 61

abbrev HasNone : List ℕ → Type 0
HasNone t = (xs : List ℕ) → position_or_len is_sign
    (t ++ xs) ≡ length t + position_or_len is_sign xs

none_after : (s t : List ℕ) → HasNone s → HasNone t → HasNone (s ++ t)
none_after s t p q xs =
    rw append_assoc (p (t ++ xs) ∙ omega (arith, q xs, length-append s t))

none_one : (b : ℕ) → b ≢ 61 → HasNone (b ∷ [])
none_one b ne xs = let f : (b == 61) ≡ false = grind (arith, nat_tests) in rw f refl

no_digit : (d : ℕ) → d < 16 → digit_char d ≢ 61
no_digit d small e = absurd (grind (arith, nat_tests))

none_byte : (b : ℕ) → b < 256 → HasNone (byte_text b)
none_byte b small = elim (cases_Bool (is_plain b)) [
  | inl t ↦ rw t (none_one b (λ e. grind (arith, nat_tests)))
  | inr f ↦ rw f (none_after (37 ∷ []) (digit_char (b / 16) ∷ digit_char (b % 16) ∷ [])
      (none_one 37 (λ e. omega (arith, e)))
      (none_after (digit_char (b / 16) ∷ []) (digit_char (b % 16) ∷ [])
      (none_one (digit_char (b / 16)) (no_digit (b / 16) (omega arith)))
      (none_one (digit_char (b % 16)) (no_digit (b % 16) (omega arith)))))
]

none_flat : (bs : List ℕ) → AreBytes bs → HasNone (flat_map byte_text bs)
none_flat [] la = λ xs. omega arith
none_flat (b ∷ bs) la =
    none_after (byte_text b) (flat_map byte_text bs)
    (none_byte b (All-head (λ x. x < 256) b bs la))
    (none_flat bs (All-tail (λ x. x < 256) b bs la))

none_text : (bs : List ℕ) → AreBytes bs → HasNone (bytes_text bs)
none_text [] la = none_one 64 (λ e. omega (arith, e))
none_text (b ∷ bs) la = none_flat (b ∷ bs) la

-- the first = of a put stands behind its key
pub sign_at : (k v : List ℕ) → AreBytes k
    → position is_sign (bytes_text k ++ 61 ∷ bytes_text v) ≡ Some (length (bytes_text k))
sign_at k v la =
    let at : position_or_len is_sign (bytes_text k ++ 61 ∷ bytes_text v) ≡ length (bytes_text k) =
    none_text k la (61 ∷ bytes_text v) ∙ omega arith in
    let whole : length (bytes_text k ++ 61 ∷ bytes_text v) ≡ length (bytes_text k) + suc (length
    (bytes_text v)) =
    length-append (bytes_text k) (61 ∷ bytes_text v) in
    let inside : nat_lt (length (bytes_text k)) (length (bytes_text k) + suc (length
    (bytes_text v))) ≡ true =
    grind (arith, nat_tests) in
    rw (at, whole, inside) refl

-- no word of a byte string begins with a dash
dash_free : (bs xs : List ℕ) → AreBytes bs
    → bytes_eq (take 1 (bytes_text bs ++ xs)) (45 ∷ []) ≡ false
dash_free [] xs la = refl
dash_free (b ∷ bs) xs la = elim (cases_Bool (is_plain b)) [
  | inl t ↦ rw t (grind (arith, nat_tests))
  | inr f ↦ rw f refl
]

-- the word of an edit is one
pub edit_read : (e : Edit) → AreBytesIn e → is_edit (edit_word e) ≡ true
edit_read (Delete key) la = rw (bytes_read key la) refl
edit_read (Put key value) la =
    let t = bytes_text key in
    let front : take (length t) (t ++ 61 ∷ bytes_text value) ≡ t =
    take-append_seam t (61 ∷ bytes_text value) in
    let back : drop (length t + 1) (t ++ 61 ∷ bytes_text value) ≡ bytes_text value =
    drop-append-add t (61 ∷ bytes_text value) 1 in
    rw (
      dash_free key (61 ∷ bytes_text value) la.0,
      sign_at key value la.0,
      front,
      back,
      bytes_read key la.0,
      bytes_read value la.1,
    ) refl
