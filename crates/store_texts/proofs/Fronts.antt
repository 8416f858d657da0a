-- The front of some bytes, each of which stands for itself.
use Rattle.std.proofs.Common.{◌≡◌, ◌<◌, ℕ, List, [], ◌∷◌, ◌++◌, length, get_or, take, drop, false}
use Rattle.std.proofs.Common.{sym, ap, ◌∙◌, arith, ◌-◌, rules, append_assoc}
use Rattle.std.specs.List.{flat_map}
use Rattle.std.proofs.lemmas.Grind.{flat_map-append}
use Rattle.std.proofs.Math.Seq.{take-length}
use Rattle.std.proofs.lemmas.List.{length-drop}
use Rattle.std.specs.Prelude.{Result, Ok, Err, IsOk, MatchResult}
use Rattle.std.specs.Str.{IsUtf8}
use Rattle.std.proofs.lemmas.Str.{IsUtf8-from_ascii}
use Rattle.std.proofs.lemmas.Str.Ascii.{IsAscii-from_all}
use Rattle.script_words.specs.Words.{is_plain, byte_text, HasPlainFront}

-- such bytes are text
pub plain_text : (bytes front behind : List ℕ) → HasPlainFront bytes front behind → IsUtf8 front
plain_text bytes front behind it = IsUtf8-from_ascii front (IsAscii-from_all front it.small)

pub tail : (bs : List ℕ) (i : ℕ) → take (length bs - i) (drop i bs) ≡ drop i bs
tail bs i = rw (← length-drop i bs) (take-length (drop i bs))

-- text is read
pub is_read : {T E : Type 0} (r : Result T E) (P : T → Type 0) (A : Type 0) (Q : E → Type 0)
    → MatchResult r P (λ e. (A → ⊥) × Q e) → A → IsOk r
is_read (Ok x) P A Q m a = search rules
is_read (Err e) P A Q m a = absurd (m.0 a)

front_text : (rest front behind : List ℕ) → HasPlainFront rest front behind
    → flat_map byte_text rest ≡ front ++ flat_map byte_text behind
front_text rest front behind it = ap (λ (l : List ℕ). flat_map byte_text l) it.parts
    ∙ flat_map-append byte_text front behind
    ∙ ap (λ (l : List ℕ). l ++ flat_map byte_text behind) it.plain

pub wrote_front : (done rest front behind all : List ℕ) → HasPlainFront rest front behind
    → done ++ flat_map byte_text rest ≡ all → (done ++ front) ++ flat_map byte_text behind ≡ all
wrote_front done rest front behind all it e = append_assoc done front (flat_map byte_text behind)
    ∙ ap (λ (l : List ℕ). done ++ l) (sym (front_text rest front behind it)) ∙ e

pub wrote_byte : (done rest all : List ℕ) → 0 < length rest
    → done ++ flat_map byte_text rest ≡ all
    → (done ++ byte_text (get_or rest 0 0))
    ++ flat_map byte_text (take (length rest - 1) (drop 1 rest)) ≡ all
wrote_byte done [] all some e = absurd (omega (arith, some))
wrote_byte done (b ∷ bs) all some e = rw (tail (b ∷ bs) 1)
    (append_assoc done (byte_text b) (flat_map byte_text bs) ∙ e)

-- where none stand for themselves, the first doesn't
pub first_other : (rest front behind : List ℕ) → HasPlainFront rest front behind
    → length front ≡ 0 → 0 < length rest → is_plain (get_or rest 0 0) ≡ false
first_other [] front behind it none some = absurd (omega (arith, some))
first_other (b ∷ bs) [] behind it none some = it.other b bs (sym it.parts)
first_other (b ∷ bs) (x ∷ front) behind it none some = absurd (omega (arith, none))
