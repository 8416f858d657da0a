-- The front of some bytes, each of which stands for itself.
use Rattle.std.proofs.Common.{◌≡◌, ◌<◌, ◌≤◌, ℕ, zero, suc, List, [], ◌∷◌, length, get_or, take}
use Rattle.std.proofs.Common.{drop, true, false, refl, ap, ◌∙◌, arith, Bool, not, Some, None}
use Rattle.std.proofs.Math.Seq.{drop-length, take-length}
use Rattle.std.proofs.lemmas.Grind.{common_steps}
use Rattle.std.proofs.lemmas.List.Quantifiers.{position-Some}
use Rattle.std.proofs.lemmas.List.Sums.{fails_before_first}
use Rattle.std.specs.Prelude.{position}
use Rattle.std.proofs.lemmas.Bool.Decides.{nat_tests}
use Rattle.std.proofs.lemmas.List.Elements.{All-nil, All-cons}
use Rattle.script_words.specs.Words.{is_plain, are_bytes, HasPlainFront}

small : (b : ℕ) → is_plain b ≡ true → b < 128
small b e = grind (arith, nat_tests)

-- a byte that stands for itself decides nothing
one_plain : (b : ℕ) (bs : List ℕ) → is_plain b ≡ true → are_bytes (b ∷ bs) ≡ are_bytes bs
one_plain b [] e = e
one_plain b (c ∷ []) e = rw e refl
one_plain b (c ∷ d ∷ bs) e = rw e refl

-- so many bytes stand for themselves, and the next one doesn't
pub plain_front : (bs : List ℕ) (i : ℕ) → i ≤ length bs
    → ((k : ℕ) → k < i → is_plain (get_or bs k 0) ≡ true)
    → (i < length bs → is_plain (get_or bs i 0) ≡ false)
    → HasPlainFront bs (take i bs) (drop i bs)
plain_front [] zero within plain next = record {
  parts = refl;
  plain = refl;
  reads = refl;
  small = All-nil _;
  other = λ b rest e. absurd (cc);
}
plain_front (b ∷ bs) zero within plain next = record {
  parts = refl;
  plain = refl;
  reads = refl;
  small = All-nil _;
  other = λ c rest e. let other : is_plain b ≡ false = next (omega arith) in cc;
}
plain_front [] (suc i) within plain next = absurd (omega (arith, within))
plain_front (b ∷ bs) (suc i) within plain next =
    let first : is_plain b ≡ true = plain 0 (omega arith) in
    let more = plain_front bs i (omega (arith, within)) (λ k before. plain (suc k)
    (omega (arith, before))) (λ inside. next (omega (arith, inside))) in
    record {
      parts = ap (λ (l : List ℕ). b ∷ l) more.parts;
      plain = rw (first, more.plain) refl;
      reads = one_plain b bs first ∙ more.reads;
      small = All-cons (λ x. x < 128) b (take i bs) (small b first) more.small;
      other = more.other;
    }

is_so : (b : Bool) → not b ≡ false → b ≡ true
is_so true e = refl
is_so false e = absurd (cc)

is_not : (b : Bool) → not b ≡ true → b ≡ false
is_not true e = absurd (cc)
is_not false e = refl

-- whether a byte doesn't stand for itself
abbrev is_other : ℕ → Bool
is_other b = not (is_plain b)

-- those before the first byte that doesn't stand for itself
pub front_before : (bs : List ℕ) (i : ℕ) → position is_other bs ≡ Some i
    → HasPlainFront bs (take i bs) (drop i bs)
front_before bs i at =
    let first = position-Some is_other bs i 0 at in
    plain_front bs i (omega (arith, first.0)) (λ k before. is_so _ (first.2 k before))
    (λ inside. is_not _ first.1)

is_plain_at : (bs : List ℕ) (k : ℕ) → k < length bs → position is_other bs ≡ None
    → is_plain (get_or bs k 0) ≡ true
is_plain_at bs k inside none =
    is_so _ (fails_before_first is_other bs k 0 (grind (arith, common_steps)))

-- all of them, where each byte stands for itself
pub front_is_all : (bs : List ℕ) → position is_other bs ≡ None → HasPlainFront bs bs []
front_is_all bs none =
    let front = plain_front bs (length bs) (omega arith)
    (λ k inside. is_plain_at bs k inside none) (λ inside. absurd (omega (arith, inside))) in
    rw (take-length bs, drop-length bs) at front
