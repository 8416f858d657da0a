-- The first line of a text.
use Rattle.std.proofs.Common.{◌≡◌, ◌≢◌, ◌+◌, ◌-◌, ◌<◌, ℕ, List, [], ◌∷◌, ◌++◌, length, get_or}
use Rattle.std.proofs.Common.{take, drop, refl, sym, ap, ◌∙◌, arith, add-one, false}
use Rattle.std.specs.Prelude.{◌==◌}
use Rattle.std.proofs.lemmas.Bool.Decides.{nat_tests}
use Rattle.std.proofs.lemmas.List.{get_or-take, length-take-le, take-append-drop}
use Rattle.std.proofs.lemmas.List.Elements.{All-from_get_or, All-head, All-tail}
use Rattle.std.proofs.Math.Seq.{drop-cons}
use Rattle.script_words.specs.Lines.{HasNoFeed, script_lines}
use Rattle.script_words.proofs.Slices.{rest_is}

other : (a b : ℕ) → a ≢ b → (a == b) ≡ false
other a b ne = grind (arith, nat_tests)

pub no_feed : (t : List ℕ) → ((k : ℕ) → k < length t → get_or t k 0 ≢ 10) → HasNoFeed t
no_feed t before =
    All-from_get_or (λ b. (b == 10) ≡ false) t 0 (λ k less. other (get_or t k 0) 10 (before k less))

no_feed_before : (t : List ℕ) (i : ℕ) → i < length t → ((k : ℕ) → k < i → get_or t k 0 ≢ 10) →
    (k : ℕ) → k < length (take i t) → get_or (take i t) k 0 ≢ 10
no_feed_before t i short before k less =
    let inside : k < i = omega (arith, less, length-take-le i t (omega (arith, short))) in
    rw (get_or-take i t k 0 inside) (before k inside)

-- a line, its feed, and what follows
pub cut_at : (t : List ℕ) (i : ℕ) → i < length t → get_or t i 0 ≡ 10 →
    ((k : ℕ) → k < i → get_or t k 0 ≢ 10) →
    HasNoFeed (take i t) × (t ≡ take i t ++ 10 ∷ take (length t - (i + 1)) (drop (i + 1) t))
cut_at t i short end before = (
  no_feed (take i t) (no_feed_before t i short before),
  rw (rest_is (i + 1) t, add-one, ← end) (sym (ap (λ r. take i t ++ r) (sym (drop-cons t i 0 short))
      ∙ take-append-drop i t)),
)

-- the line is the first of the text
pub is_first : (line rest : List ℕ) → HasNoFeed line →
    script_lines (line ++ 10 ∷ rest) ≡ line ∷ script_lines rest
is_first [] rest plain = refl
is_first (b ∷ line) rest plain = rw (
  All-head (λ b. (b == 10) ≡ false) b line plain,
  is_first line rest (All-tail (λ b. (b == 10) ≡ false) b line plain),
) refl

pub one_line : (t : List ℕ) → 0 < length t → HasNoFeed t → script_lines t ≡ t ∷ []
one_line [] some plain = absurd (omega arith)
one_line (b ∷ []) some plain = rw (All-head (λ b. (b == 10) ≡ false) b [] plain) refl
one_line (b ∷ c ∷ bs) some plain = rw (
  All-head (λ b. (b == 10) ≡ false) b (c ∷ bs) plain,
  one_line (c ∷ bs) (omega arith) (All-tail (λ b. (b == 10) ≡ false) b (c ∷ bs) plain),
) refl
