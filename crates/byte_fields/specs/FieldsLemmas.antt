-- Bytes, the steps of a reading, and what a reader removed from the front.
use Rattle.std.proofs.Common.{◌≡◌, ℕ, suc, ◌<◌, Bool, true, false, cond, List, ◌∷◌, ◌++◌, get_or}
use Rattle.std.proofs.Common.{Option, Some, None, refl, sym, ap, ◌∙◌, append_assoc}
use Rattle.byte_fields.specs.Readers.{◌>>=◌}

-- each is below 256
abbrev pub IsBytes : List ℕ → Type 0
IsBytes bytes = (i : ℕ) → get_or bytes i 0 < 256

-- bytes are bytes without the first
pub IsBytes-rest : (b : ℕ) (bytes : List ℕ) → IsBytes (b ∷ bytes) → IsBytes bytes
IsBytes-rest b bytes h i = h (suc i)

-- the value of a step that did not fail
pub bind_some : {A B : Type 0} (r : Option A) (f : A → Option B) (y : B) → (r >>= f) ≡ Some y
    → (x : A) × (r ≡ Some x) × (f x ≡ Some y)
bind_some (Some x) f y e = (x, refl, e)
bind_some None f y e = absurd cc

-- a test that did not fail
pub guard_some : {A : Type 0} (b : Bool) (x : Option A) (y : A) → cond b None x ≡ Some y
    → (b ≡ false) × (x ≡ Some y)
guard_some true x y e = absurd cc
guard_some false x y e = (refl, e)

abbrev done : {A : Type 0} → A → Option A
done x = Some x

-- of equal options the values are equal
pub some_is : {A : Type 0} (x y : A) → done x ≡ done y → x ≡ y
some_is x y e = cc

-- the bytes that a reader removed from the front
pub record BeginsWith (bytes text_bytes rest : List ℕ) : Type 0 where
  pub parts : bytes ≡ text_bytes ++ rest
  pub rest_fits : IsBytes rest

-- one text is taken, and then another: both are taken
pub BeginsWith-then : (a x b y c : List ℕ) → BeginsWith a x b → BeginsWith b y c
    → BeginsWith a (x ++ y) c
BeginsWith-then a x b y c p q =
    record {
      parts = p.parts ∙ ap (λ (t : List ℕ). x ++ t) q.parts ∙ sym (append_assoc x y c);
      rest_fits = q.rest_fits;
    }
