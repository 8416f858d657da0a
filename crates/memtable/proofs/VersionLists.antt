-- Versions of one key, by their places.
use Rattle.std.proofs.Common.{◌≡◌, ℕ, suc, zero, ◌⊎◌, inl, inr, ◌<◌, ◌≤◌, ◌+◌, ◌==◌, sym, ap, ◌∙◌}
use Rattle.std.proofs.Common.{subst, arith, List, [], ◌∷◌, ◌++◌, length, true, false, not}
use Rattle.std.proofs.Common.{if◌then◌else◌}
use Rattle.std.proofs.Common.{Some, None, refl}
use Rattle.std.specs.List.{slice_get}
use Rattle.std.proofs.lemmas.Option.{same_Some}
use Rattle.memtable.specs.declared.version.Version.{Version}
use Rattle.memtable.specs.declared.version.Versions.{Versions}
use Rattle.memtable.specs.Versions.{all_of, with_version, lacks, IsRisingList}

differ : (a b : ℕ) → (a ≡ b → ⊥) → (a == b) ≡ false
differ a b ne = grind arith

alike : (a b : ℕ) → a ≡ b → (a == b) ≡ true
alike a b e = grind arith

-- whether a list lacks a number is said by its newest version
pub lacks_last : (xs : List Version) (y : Version) (number : ℕ) →
    lacks (xs ++ y ∷ []) number ≡ not (y.number == number)
lacks_last [] y number = refl
lacks_last (x ∷ []) y number = refl
lacks_last (x ∷ z ∷ zs) y number = lacks_last (z ∷ zs) y number

-- all numbers are less
pub lacks_greater : (xs : List Version) (number : ℕ) →
    ((i : ℕ) (v : Version) → slice_get xs i ≡ Some v → v.number < number) → lacks xs number ≡ true
lacks_greater [] number below = refl
lacks_greater (x ∷ []) number below =
    let h = below zero x refl in
    ap not (differ x.number number (λ e. omega (arith, h, e)))
lacks_greater (x ∷ y ∷ ys) number below = lacks_greater (y ∷ ys) number (λ i v e. below (suc i) v e)

-- one version is put behind others, or left out
pub with_new : (xs : List Version) (v : Version) → lacks xs v.number ≡ true →
    with_version xs v ≡ xs ++ v ∷ []
with_new xs v is = ap (λ b. if b then xs ++ v ∷ [] else xs) is

pub without : (xs : List Version) (v : Version) → lacks xs v.number ≡ false →
    with_version xs v ≡ xs
without xs v is = ap (λ b. if b then xs ++ v ∷ [] else xs) is

pub lacks_other : (before : Versions) (number : ℕ) → (before.newest.number ≡ number → ⊥) →
    lacks (all_of before) number ≡ true
lacks_other before number apart =
    lacks_last before.older.items before.newest number
    ∙ ap not (differ before.newest.number number apart)

pub has_same : (before : Versions) (number : ℕ) → before.newest.number ≡ number →
    lacks (all_of before) number ≡ false
has_same before number same =
    lacks_last before.older.items before.newest number
    ∙ ap not (alike before.newest.number number same)

-- ---- places

pub last_at : (xs : List Version) (y : Version) → slice_get (xs ++ y ∷ []) (length xs) ≡ Some y
last_at [] y = refl
last_at (x ∷ xs) y = last_at xs y

pub front_at : (xs ys : List Version) (i : ℕ) → i < length xs → slice_get (xs ++ ys) i ≡ slice_get
    xs i
front_at [] ys i l = absurd (omega (arith, l))
front_at (x ∷ xs) ys zero l = refl
front_at (x ∷ xs) ys (suc i) l = front_at xs ys i (let h : suc i < suc (length xs) = l in
    omega arith)

-- in the list, or the last
pub places : (xs : List Version) (y : Version) (i : ℕ) (v : Version) → slice_get (xs ++ y ∷ []) i ≡
    Some v → (slice_get xs i ≡ Some v) × (i < length xs) ⊎ ((i ≡ length xs) × (v ≡ y))
places [] y zero v e = inr (refl, sym (same_Some y v e))
places [] y (suc i) v e = absurd (let h : None ≡ Some v = e in cc)
places (x ∷ xs) y zero v e = inl (e, (let h : 0 < suc (length xs) = omega arith in h))
places (x ∷ xs) y (suc i) v e = elim (places xs y i v e) [
  | inl h ↦ inl (h.0, (let l = h.1 in let k : suc i < suc (length xs) = omega (arith, l) in k))
  | inr h ↦ inr (ap suc h.0, h.1)
]

apart : (i j : ℕ) → (i < j) ⊎ ((i ≡ j) ⊎ (j < i))
apart i j = grind arith

pub up_to : (xs : List Version) (number m : ℕ) (x : Version) → IsRisingList xs → slice_get xs m ≡
    Some x → x.number ≤ number → (i : ℕ) (v : Version) → i < m + 1 → slice_get xs i ≡ Some v
    → v.number ≤ number
up_to xs number m x rising at le i v l e = elim (apart i m) [
  | inl k ↦ let h = rising i m v x k e at in omega (arith, h, le)
  | inr k ↦ elim k [
    | inl s ↦ let h : v ≡ x = same_Some v x (sym e ∙ (ap (slice_get xs) s ∙ at)) in
        subst (λ y. y.number ≤ number) (sym h) le
    | inr s ↦ absurd (omega (arith, s, l))
  ]
]

pub above : (xs : List Version) (number m : ℕ) (x : Version) → IsRisingList xs → slice_get xs m ≡
    Some x → number < x.number → (i : ℕ) (v : Version) → m ≤ i → slice_get xs i ≡ Some v
    → number < v.number
above xs number m x rising at lt i v l e = elim (apart i m) [
  | inl k ↦ absurd (omega (arith, k, l))
  | inr k ↦ elim k [
    | inl s ↦ let h : v ≡ x = same_Some v x (sym e ∙ (ap (slice_get xs) s ∙ at)) in
        subst (λ y. number < y.number) (sym h) lt
    | inr s ↦ let h = rising m i x v s at e in omega (arith, h, lt)
  ]
]

-- one more with a greater number
pub rising_more : (xs : List Version) (y : Version) → IsRisingList xs
    → ((i : ℕ) (v : Version) → slice_get xs i ≡ Some v → v.number < y.number) → IsRisingList
    (xs ++ y ∷ [])
rising_more xs y rising below i j a b l p q = elim (places xs y j b q) [
  | inl h ↦ elim (places xs y i a p) [
    | inl k ↦ rising i j a b l k.0 h.0
    | inr k ↦ let e = k.0 in let m = h.1 in absurd (omega (arith, e, m, l))
  ]
  | inr h ↦ elim (places xs y i a p) [
    | inl k ↦ subst (λ z. a.number < z.number) (sym h.1) (below i a k.0)
    | inr k ↦ let e = k.0 in let f = h.0 in absurd (omega (arith, e, f, l))
  ]
]
