-- Byte strings are ordered as the numbers that their first bytes spell, and then as the rest.
use Rattle.std.proofs.Common.{◌≡◌, ◌≢◌, ℕ, suc, ◌+◌, ◌*◌, ◌<◌, ◌≤◌, List, [], ◌∷◌, ◌++◌, length}
use Rattle.std.proofs.Common.{take, drop, Some, refl, sym, ap, subst, ◌∙◌, arith}
use Rattle.std.specs.Cmp.Lexicographic.{slice_cmp}
use Rattle.std.specs.Int.{Width, w32, w64, byte_len, from_be_bytes}
use Rattle.std.specs.Ordering.{nat_cmp, ordering_then}
use Rattle.std.proofs.lemmas.Bool.{ltb-false}
use Rattle.std.proofs.lemmas.Cmp.{ranked, by_ranked}
use Rattle.std.proofs.lemmas.List.{take-append-drop, length-append, length-take}
use Rattle.byte_fields.specs.FieldsLemmas.{IsBytes, guard_some, some_is}
use Rattle.byte_fields.specs.Readers.{number_at}
use Rattle.byte_fields.specs.ReadersLemmas.{IsBytes-drop, IsBytes-take}
use Rattle.byte_fields.specs.ByteOrderLemmas.{nat_cmp-Less, nat_cmp-Equal, nat_cmp-Greater}

-- the number that bytes spell behind a number
abbrev spelt : ℕ → List ℕ → ℕ
spelt n [] = n
spelt n (b ∷ bytes) = spelt (n * 256 + b) bytes

-- as many bytes keep the order of what stands before them
rises : (m n : ℕ) (a b : List ℕ) → length a ≡ length b → IsBytes a → m < n
    → spelt m a < spelt n b
rises m n [] [] len fits lt = lt
rises m n [] (y ∷ b) len fits lt = absurd (omega (arith, len))
rises m n (x ∷ a) [] len fits lt = absurd (omega (arith, len))
rises m n (x ∷ a) (y ∷ b) len fits lt =
    rises (m * 256 + x) (n * 256 + y) a b (omega (arith, len)) (λ i. fits (suc i))
    (omega (arith, lt, fits 0))

-- the order of fronts of one length is that of the numbers they spell
by_fronts : (n : ℕ) (a b p q : List ℕ) → length a ≡ length b → IsBytes a → IsBytes b
    → slice_cmp nat_cmp (a ++ p) (b ++ q)
    ≡ ordering_then (nat_cmp (spelt n a) (spelt n b)) (slice_cmp nat_cmp p q)
by_fronts n [] [] p q len fa fb =
    ap (λ o. ordering_then o (slice_cmp nat_cmp p q)) (sym (nat_cmp-Equal n n refl))
by_fronts n [] (y ∷ b) p q len fa fb = absurd (omega (arith, len))
by_fronts n (x ∷ a) [] p q len fa fb = absurd (omega (arith, len))
by_fronts n (x ∷ a) (y ∷ b) p q len fa fb =
    let same_len : length a ≡ length b = omega (arith, len) in
    let last = slice_cmp nat_cmp p q in
    let rest = slice_cmp nat_cmp (a ++ p) (b ++ q) in
    by_ranked (x < y) (x ≡ y) (y < x) (nat_cmp x y) (ranked x y (nat_cmp x y) refl)
    (λ is lt.
    ap (λ o. ordering_then o rest) is
    ∙ ap (λ o. ordering_then o last) (sym (nat_cmp-Less _ _
    (rises (n * 256 + x) (n * 256 + y) a b same_len (λ i. fa (suc i)) (omega (arith, lt))))))
    (λ is same.
    ap (λ o. ordering_then o rest) is
    ∙ by_fronts (n * 256 + x) a b p q same_len (λ i. fa (suc i)) (λ i. fb (suc i))
    ∙ ap (λ z. ordering_then (nat_cmp (spelt (n * 256 + x) a) (spelt (n * 256 + z) b)) last) same)
    (λ is gt.
    ap (λ o. ordering_then o rest) is
    ∙ ap (λ o. ordering_then o last) (sym (nat_cmp-Greater _ _
    (rises (n * 256 + y) (n * 256 + x) b a (sym same_len) (λ i. fb (suc i)) (omega (arith, gt))))))

-- bytes of a width spell its number
abbrev pub Spells : Width → Type 0
Spells w = (bytes : List ℕ) → length bytes ≡ byte_len w → from_be_bytes w bytes ≡ spelt 0 bytes

-- those of 32 bits do
pub four : Spells w32
four (a ∷ b ∷ c ∷ d ∷ []) len = omega arith
four [] len = absurd (omega (arith, len))
four (a ∷ []) len = absurd (omega (arith, len))
four (a ∷ b ∷ []) len = absurd (omega (arith, len))
four (a ∷ b ∷ c ∷ []) len = absurd (omega (arith, len))
four (a ∷ b ∷ c ∷ d ∷ e ∷ bytes) len = absurd (omega (arith, len))

-- and those of 64 bits
pub eight : Spells w64
eight (a ∷ b ∷ c ∷ d ∷ e ∷ f ∷ g ∷ h ∷ []) len = omega arith
eight [] len = absurd (omega (arith, len))
eight (a ∷ []) len = absurd (omega (arith, len))
eight (a ∷ b ∷ []) len = absurd (omega (arith, len))
eight (a ∷ b ∷ c ∷ []) len = absurd (omega (arith, len))
eight (a ∷ b ∷ c ∷ d ∷ []) len = absurd (omega (arith, len))
eight (a ∷ b ∷ c ∷ d ∷ e ∷ []) len = absurd (omega (arith, len))
eight (a ∷ b ∷ c ∷ d ∷ e ∷ f ∷ []) len = absurd (omega (arith, len))
eight (a ∷ b ∷ c ∷ d ∷ e ∷ f ∷ g ∷ []) len = absurd (omega (arith, len))
eight (a ∷ b ∷ c ∷ d ∷ e ∷ f ∷ g ∷ h ∷ i ∷ bytes) len = absurd (omega (arith, len))

-- a number at the front: the bytes that spell it, and the rest, which are bytes
record Fronted (w : Width) (bytes : List ℕ) (x : ℕ × List ℕ) : Type 0 where
  front : List ℕ
  parts : bytes ≡ front ++ x.1
  len : length front ≡ byte_len w
  fits : IsBytes front
  is : x.0 ≡ spelt 0 front
  rest : IsBytes x.1

fronted : (w : Width) (bytes : List ℕ) (x : ℕ × List ℕ) → Spells w → IsBytes bytes
    → number_at w bytes ≡ Some x → Fronted w bytes x
fronted w bytes x spells fits e =
    let found : ℕ × List ℕ = (from_be_bytes w (take (byte_len w) bytes), drop (byte_len w) bytes) in
    let g = guard_some _ (Some found) x e in
    let same : found ≡ x = some_is found x g.1 in
    let long : byte_len w ≤ length bytes = ltb-false _ _ g.0 in
    let len : length (take (byte_len w) bytes) ≡ byte_len w =
    omega (arith, long, length-take (byte_len w) bytes) in
    record {
      front = take (byte_len w) bytes;
      parts = sym (take-append-drop (byte_len w) bytes)
          ∙ ap (λ (y : ℕ × List ℕ). take (byte_len w) bytes ++ y.1) same;
      len = len;
      fits = IsBytes-take (byte_len w) bytes fits;
      is = sym (ap (λ (y : ℕ × List ℕ). y.0) same) ∙ spells (take (byte_len w) bytes) len;
      rest = subst (λ (y : ℕ × List ℕ). IsBytes y.1) same (IsBytes-drop (byte_len w) bytes fits);
    }

-- numbers at the fronts decide, and then the rest
pub by_words : (w : Width) (a b : List ℕ) (x y : ℕ × List ℕ) → Spells w → IsBytes a → IsBytes b
    → number_at w a ≡ Some x → number_at w b ≡ Some y
    → slice_cmp nat_cmp a b ≡ ordering_then (nat_cmp x.0 y.0) (slice_cmp nat_cmp x.1 y.1)
by_words w a b x y spells fa fb ea eb =
    let s = fronted w a x spells fa ea in
    let t = fronted w b y spells fb eb in
    (λ i. slice_cmp nat_cmp (s.parts i) (t.parts i))
    ∙ by_fronts 0 s.front t.front x.1 y.1 (s.len ∙ sym t.len) s.fits t.fits
    ∙ (λ i. ordering_then (nat_cmp (sym s.is i) (sym t.is i)) (slice_cmp nat_cmp x.1 y.1))

-- where the numbers are the same, the rest decides
pub rest_decides : (w : Width) (a b : List ℕ) (x y : ℕ × List ℕ) → Spells w → IsBytes a
    → IsBytes b → number_at w a ≡ Some x → number_at w b ≡ Some y → x.0 ≡ y.0
    → slice_cmp nat_cmp x.1 y.1 ≡ slice_cmp nat_cmp a b
rest_decides w a b x y spells fa fb ea eb same =
    sym (by_words w a b x y spells fa fb ea eb
    ∙ ap (λ o. ordering_then o (slice_cmp nat_cmp x.1 y.1)) (nat_cmp-Equal x.0 y.0 same))

-- where they are not, they decide
pub words_decide : (w : Width) (a b : List ℕ) (x y : ℕ × List ℕ) → Spells w → IsBytes a
    → IsBytes b → number_at w a ≡ Some x → number_at w b ≡ Some y → x.0 ≢ y.0
    → nat_cmp x.0 y.0 ≡ slice_cmp nat_cmp a b
words_decide w a b x y spells fa fb ea eb apart =
    let last = slice_cmp nat_cmp x.1 y.1 in
    sym (by_words w a b x y spells fa fb ea eb
    ∙ by_ranked (x.0 < y.0) (x.0 ≡ y.0) (y.0 < x.0) (nat_cmp x.0 y.0)
    (ranked x.0 y.0 (nat_cmp x.0 y.0) refl)
    (λ is lt. ap (λ o. ordering_then o last) is ∙ sym is)
    (λ is same. absurd (apart same))
    (λ is gt. ap (λ o. ordering_then o last) is ∙ sym is))

-- behind a number there are fewer bytes
pub fewer : (bytes : List ℕ) (x : ℕ × List ℕ) → IsBytes bytes → number_at w64 bytes ≡ Some x
    → length x.1 < length bytes
fewer bytes x fits e =
    let s = fronted w64 bytes x eight fits e in
    omega (arith, s.len, ap length s.parts, length-append s.front x.1)

-- and they are bytes
pub rest_fits : (bytes : List ℕ) (x : ℕ × List ℕ) → IsBytes bytes → number_at w64 bytes ≡ Some x
    → IsBytes x.1
rest_fits bytes x fits e = let s = fronted w64 bytes x eight fits e in s.rest
