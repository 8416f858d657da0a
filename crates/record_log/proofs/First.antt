-- The record at the front of bytes, as it is read: the test for no bytes, the gate, four bytes of
-- length, and the record's own.
use Rattle.std.proofs.Common.{◌≡◌, ℕ, ◌+◌, ◌^◌, ◌<◌, ◌≤◌, Bool, true, false, eqb, List, []}
use Rattle.std.proofs.Common.{◌∷◌, ◌++◌}
use Rattle.std.proofs.Common.{length, get_or, take, drop, sym, inl, inr, ap, ◌∙◌, append_assoc}
use Rattle.std.proofs.Common.{length-append, arith}
use Rattle.std.specs.Int.{w32, to_be_bytes, from_be_bytes}
use Rattle.std.proofs.lemmas.Nat.{be_bytes_4, from_be_bytes-to_be_bytes_4}
use Rattle.std.proofs.lemmas.Bool.{eqb-true, cases_lt}
use Rattle.std.proofs.lemmas.List.{nil_from_length, get_or-take, get_or-drop, get_or_past}
use Rattle.std.proofs.lemmas.List.{length-take, drop_all, take-append-drop}
use Rattle.record_log.specs.Grammar.{entry, Represents}
use Rattle.record_log.proofs.Fronts.{split_same}

-- ---- the parts that the code reads

-- the test for no bytes finds none
pub is_nothing : (bytes : List ℕ) (empty : Bool) → empty ≡ eqb (length bytes) 0 → empty ≡ true
    → bytes ≡ []
is_nothing bytes empty is e = nil_from_length bytes (eqb-true _ _ (sym is ∙ e))

-- behind a gate that is 1
pub at_one : (bytes rest : List ℕ) (empty : Bool) → empty ≡ eqb (length bytes) 0 → empty ≡ false
    → get_or bytes 0 0 ≡ 1 → rest ≡ drop 1 bytes → bytes ≡ 1 ∷ rest
at_one [] rest empty is e one behind = absurd cc
at_one (b ∷ bytes) rest empty is e one behind =
    ap (λ (g : ℕ). g ∷ bytes) one ∙ ap (λ (r : List ℕ). 1 ∷ r) (sym behind)

-- bytes split at a place are its two parts
pub split_is : (bytes front back : List ℕ) (n : ℕ) → front ≡ take n bytes → back ≡ drop n bytes
    → bytes ≡ front ++ back
split_is bytes front back n before behind =
    sym (take-append-drop n bytes) ∙ ap (λ (f : List ℕ). f ++ drop n bytes) (sym before)
    ∙ ap (λ (b : List ℕ). front ++ b) (sym behind)

-- a part of bytes is a list of bytes
pub fits_within : (bytes : List ℕ) (n k : ℕ) (part : List ℕ) → ((i : ℕ) → get_or bytes i 0 < 256)
    → part ≡ take n (drop k bytes) → (i : ℕ) → get_or part i 0 < 256
fits_within bytes n k part fits is i = rw is (elim (cases_lt i n) [
  | inl lt ↦ rw (get_or-take n (drop k bytes) i 0 lt, get_or-drop) (fits (k + i))
  | inr le ↦ (
      let past : length (take n (drop k bytes)) ≤ i = omega (arith, length-take n (drop k bytes)) in
      rw (get_or_past (take n (drop k bytes)) i 0 past) (omega arith)
      )
])

-- ---- bytes that represent no records

-- no bytes at all
pub nothing : (bytes : List ℕ) (records : List (List ℕ)) → bytes ≡ [] → Represents bytes
    records → ⊥
nothing bytes [] none s =
    let two : [] ≡ s.0 ∷ s.1 = sym none ∙ s.3 in
    absurd cc
nothing bytes (x ∷ records) none s =
    let two : [] ≡ entry x ++ s.0 = sym none ∙ s.2 in
    absurd cc

-- behind an open gate there are a length and a record
opened : (bytes rest : List ℕ) (records : List (List ℕ)) → bytes ≡ 1 ∷ rest
    → Represents bytes records → (one : List ℕ) × (after : List ℕ) × (length one < 2 ^ 32)
    × (rest ≡ to_be_bytes w32 (length one) ++ (one ++ after))
opened bytes rest [] open_gate s =
    let two : 1 ∷ rest ≡ s.0 ∷ s.1 = sym open_gate ∙ s.3 in
    let same : s.0 ≡ 1 = cc in
    absurd (s.2 same)
opened bytes rest (one ∷ records) open_gate s =
    let two : 1 ∷ rest ≡ entry one ++ s.0 = sym open_gate ∙ s.2 in
    let tails : rest ≡ (to_be_bytes w32 (length one) ++ one) ++ s.0 = cc in
    (one, s.0, s.1, tails ∙ append_assoc (to_be_bytes w32 (length one)) one s.0)

-- an open gate and fewer than four bytes
pub no_length : (bytes rest : List ℕ) (records : List (List ℕ)) → bytes ≡ 1 ∷ rest → length rest < 4
    → Represents bytes records → ⊥
no_length bytes rest records open_gate short s =
    let one = opened bytes rest records open_gate s in
    let size : length rest ≡ length (to_be_bytes w32 (length one.0)) + length (one.0 ++ one.1) =
    ap length one.3 ∙ length-append (to_be_bytes w32 (length one.0)) (one.0 ++ one.1) in
    omega (arith, size, short)

-- a length and fewer bytes than it says
pub no_record : (bytes rest head tail : List ℕ) (records : List (List ℕ)) → bytes ≡ 1 ∷ rest
    → rest ≡ head ++ tail → length head ≡ 4 → length tail < from_be_bytes w32 head
    → Represents bytes records → ⊥
no_record bytes rest head tail records open_gate parts four short s =
    let one = opened bytes rest records open_gate s in
    let text = to_be_bytes w32 (length one.0) in
    let same = split_same head text tail (one.0 ++ one.1) four (sym parts ∙ one.3) in
    let len : from_be_bytes w32 head ≡ length one.0 =
    ap (from_be_bytes w32) same.0 ∙ from_be_bytes-to_be_bytes_4 (length one.0) one.2 in
    let size : length tail ≡ length one.0 + length one.1 =
    ap length same.1 ∙ length-append one.0 one.1 in
    omega (arith, len, size, short)

-- there is no byte past the end
pub nothing_past : (bytes : List ℕ) (start : ℕ) (records : List (List ℕ)) → length bytes < start
    → Represents (drop start bytes) records → ⊥
nothing_past bytes start records past s =
    nothing (drop start bytes) records (drop_all start bytes (omega arith)) s

-- ---- the record that is there

-- a length and so many bytes
pub whole : (bytes rest head tail one after : List ℕ) → bytes ≡ 1 ∷ rest → rest ≡ head ++ tail
    → tail ≡ one ++ after → length head ≡ 4 → ((i : ℕ) → get_or head i 0 < 256)
    → length one ≡ from_be_bytes w32 head → (length one < 2 ^ 32) × (bytes ≡ entry one ++ after)
whole bytes rest head tail one after open_gate parts inner four fits len =
    let below : from_be_bytes w32 head < 2 ^ 32 = omega (arith, fits 0, fits 1, fits 2, fits 3) in
    let text : head ≡ to_be_bytes w32 (length one) =
    sym (be_bytes_4 head (length one) four fits len) in
    let is : rest ≡ (to_be_bytes w32 (length one) ++ one) ++ after =
    parts ∙ ap (λ (t : List ℕ). head ++ t) inner
    ∙ ap (λ (h : List ℕ). h ++ (one ++ after)) text
    ∙ sym (append_assoc (to_be_bytes w32 (length one)) one after) in
    (omega (arith, len, below), open_gate ∙ ap (λ (r : List ℕ). 1 ∷ r) is)
