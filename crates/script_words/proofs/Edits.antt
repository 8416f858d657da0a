-- Words round a sign.
use Rattle.std.proofs.Common.{◌≡◌, ◌+◌, ◌-◌, ◌<◌, ℕ, List, ◌++◌, ◌∷◌, length, get_or, take, drop}
use Rattle.std.proofs.Common.{add-one, sym, ◌∙◌, ap, [], true, false, refl}
use Rattle.std.specs.Str.{bytes_eq}
use Rattle.script_words.specs.Words.{is_byte_string, bytes_text}
use Rattle.script_words.specs.Edits.{is_edit}
use Rattle.std.specs.Prelude.{◌==◌, Some, position}
use Rattle.std.proofs.lemmas.Bool.{eqb-true}
use Rattle.std.proofs.lemmas.List.{take-append-drop, length-drop}
use Rattle.std.proofs.lemmas.List.Quantifiers.{position-Some}
use Rattle.std.proofs.Math.Seq.{drop-cons, take-length}

-- a list is what stands before the sign, the sign, and what stands after it
pub equals_at : (w : List ℕ) (i : ℕ) → position (λ b. b == 61) w ≡ Some i
    → w ≡ take i w ++ 61 ∷ take (length w - (i + 1)) (drop (i + 1) w)
equals_at w i e =
    let found = position-Some (λ b. b == 61) w i 0 e in
    let short : i < length w = found.0 in
    let sign : get_or w i 0 ≡ 61 = eqb-true _ _ found.1 in
    let rest : take (length w - (i + 1)) (drop (i + 1) w) ≡ drop (i + 1) w = rw (← length-drop
    (i + 1) w) (take-length (drop (i + 1) w)) in
    rw (rest, add-one, ← sign) (sym (ap (λ r. take i w ++ r) (sym (drop-cons w i 0 short))
    ∙ take-append-drop i w))

-- a put, where the word does not begin with a dash
pub is_put : (w k v : List ℕ) (i : ℕ) → bytes_eq (take 1 w) (45 ∷ []) ≡ false
    → position (λ b. b == 61) w ≡ Some i
    → is_byte_string (take i w) ≡ true → take i w ≡ bytes_text k
    → is_byte_string (take (length w - (i + 1)) (drop (i + 1) w)) ≡ true
    → take (length w - (i + 1)) (drop (i + 1) w) ≡ bytes_text v
    → (is_edit w ≡ true) × (w ≡ bytes_text k ++ 61 ∷ bytes_text v)
is_put w k v i plain at kt ke vt ve =
    let rest : take (length w - (i + 1)) (drop (i + 1) w) ≡ drop (i + 1) w = rw (← length-drop
    (i + 1) w) (take-length (drop (i + 1) w)) in
    (rw (plain, at, kt, ← rest, vt) refl, rw (← ke, ← ve) (equals_at w i at))
