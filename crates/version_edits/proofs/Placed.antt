-- Lists kept in order.
use Rattle.std.proofs.Common.{◌≡◌, ◌⊎◌, ℕ, suc, ◌+◌, ◌<◌, ◌≤◌, Bool, true, false, cond, ◌||◌, ◌&&◌}
use Rattle.std.proofs.Common.{ltb, eqb}
use Rattle.std.proofs.Common.{List, [], ◌∷◌, ◌++◌, length, All, refl, sym, ap, subst, ◌∙◌, arith}
use Rattle.std.proofs.Common.{inl, inr}
use Rattle.std.proofs.Common.{append_assoc, zero, take, get_or}
use Rattle.std.proofs.lemmas.List.{append-nil}
use Rattle.std.specs.List.{fold, filter, insert}
use Rattle.std.proofs.lemmas.Bool.{ltb-true, lt-ltb, eqb-true, eq-eqb, le-ltb, ne_eqb}
use Rattle.std.proofs.lemmas.List.Elements.{All-cons, All-nil, All-head, All-tail, All-filter}
use Rattle.std.proofs.lemmas.List.Elements.{All-weaker}
use Rattle.std.specs.Ordering.{is_lt}
use Rattle.byte_fields.specs.Order.{IsBelow}
use Rattle.byte_fields.specs.ByteOrderLemmas.{lt_below, below_is_strict}
use Rattle.byte_fields.specs.{stored_cmp}
use Rattle.version_edits.specs.declared.line.TableLine.{TableLine}
use Rattle.version_edits.specs.VersionsLemmas.{placed_last}
use Rattle.version_edits.specs.Versions.{placed, log_is_before, table_is_before, AreInOrder}

either : (b : Bool) → (b ≡ true) ⊎ (b ≡ false)
either true = inl refl
either false = inr refl

-- ---- one more

pub placed_all : {A : Type 0} (P : A → Type 0) (before : A → A → Bool) (xs : List A) (x : A)
    → All P xs → P x → All P (placed before xs x)
placed_all P before [] x all is = All-cons P x [] is (All-nil P)
placed_all P before (y ∷ ys) x all is =
    elim (either (before x y)) [
      | inl t ↦ rw t (All-cons P x (y ∷ ys) is all)
      | inr f ↦ rw f (All-cons P y (placed before ys x) (All-head P y ys all)
          (placed_all P before ys x (All-tail P y ys all) is))
    ]

pub placed_length : {A : Type 0} (before : A → A → Bool) (xs : List A) (x : A)
    → length (placed before xs x) ≡ suc (length xs)
placed_length before [] x = refl
placed_length before (y ∷ ys) x =
    elim (either (before x y)) [
      | inl t ↦ rw t refl
      | inr f ↦ rw f (ap suc (placed_length before ys x))
    ]

-- the order is strict
pub record IsOrder {A : Type 0} (before : A → A → Bool) : Type 0 where
  pub never : (a : A) → before a a ≡ true → ⊥
  pub through : (a b c : A) → before a b ≡ true → before b c ≡ true → before a c ≡ true

abbrev NotBefore : {A : Type 0} → (A → A → Bool) → A → A → Type 0
NotBefore before x y = before y x ≡ false

false_from : (a : Bool) → (a ≡ true → ⊥) → a ≡ false
false_from true h = absurd (h refl)
false_from false h = refl

pub placed_order : {A : Type 0} (before : A → A → Bool) → IsOrder before → (xs : List A) (x : A)
    → AreInOrder before xs → AreInOrder before (placed before xs x)
placed_order before order [] x is = (All-nil (NotBefore before x), tt)
placed_order {A} before order (y ∷ ys) x is =
    elim (either (before x y)) [
      | inl t ↦ rw t (
        All-cons (NotBefore before x) y ys
            (false_from (before y x) (λ e. order.never x (order.through x y x t e)))
            (All-weaker (NotBefore before y) (NotBefore before x)
            (λ z not. false_from (before z x) (λ e. absurd (cc (not, order.through z x y e t))))
            ys is.0),
        is,
      )
      | inr f ↦ rw f (
        placed_all (NotBefore before y) before ys x is.0 f,
        placed_order before order ys x is.1,
      )
    ]

-- it stands before the first that it comes before
pub placed_at : {A : Type 0} (before : A → A → Bool) (xs : List A) (x : A) (n : ℕ)
    → All (λ y. before x y ≡ false) (take n xs)
    → ((d : A) → n < length xs → before x (get_or xs n d) ≡ true) → n ≤ length xs
    → placed before xs x ≡ insert xs n x
placed_at before [] x zero all here le = refl
placed_at before [] x (suc n) all here le = refl
placed_at before (y ∷ ys) x zero all here le =
    let t : before x y ≡ true = here x (omega arith) in rw t refl
placed_at {A} before (y ∷ ys) x (suc n) all here le =
    let f : before x y ≡ false = All-head (λ y. before x y ≡ false) y (take n ys) all in
    rw f (ap (λ (l : List A). y ∷ l) (placed_at before ys x n
    (All-tail (λ y. before x y ≡ false) y (take n ys) all)
    (λ d lt. here d (omega (arith, lt))) (omega (arith, le))))

pub placed_here : {A : Type 0} (before : A → A → Bool) (xs : List A) (x : A) (n : ℕ) (d : A)
    → n < length xs → All (λ y. before x y ≡ false) (take n xs)
    → before x (get_or xs n d) ≡ true → placed before xs x ≡ insert xs n x
placed_here before [] x n d lt all here = absurd (omega (arith, lt))
placed_here before (y ∷ ys) x zero d lt all here = rw here refl
placed_here {A} before (y ∷ ys) x (suc n) d lt all here =
    let f : before x y ≡ false = All-head (λ y. before x y ≡ false) y (take n ys) all in
    rw f (ap (λ (l : List A). y ∷ l) (placed_here before ys x n d (omega (arith, lt))
    (All-tail (λ y. before x y ≡ false) y (take n ys) all) here))

-- ---- and many more

pub fold_all : {A : Type 0} (P : A → Type 0) (before : A → A → Bool) (xs ys : List A)
    → All P xs → All P ys → All P (fold (placed before) xs ys)
fold_all P before xs [] all more = all
fold_all P before xs (y ∷ ys) all more =
    fold_all P before (placed before xs y) ys
    (placed_all P before xs y all (All-head P y ys more)) (All-tail P y ys more)

pub fold_length : {A : Type 0} (before : A → A → Bool) (xs ys : List A)
    → length (fold (placed before) xs ys) ≡ length xs + length ys
fold_length before xs [] = omega arith
fold_length before xs (y ∷ ys) =
    let one = placed_length before xs y in
    let others = fold_length before (placed before xs y) ys in
    others ∙ omega (arith, one)

pub fold_order : {A : Type 0} (before : A → A → Bool) → IsOrder before → (xs ys : List A)
    → AreInOrder before xs → AreInOrder before (fold (placed before) xs ys)
fold_order before order xs [] is = is
fold_order before order xs (y ∷ ys) is =
    fold_order before order (placed before xs y) ys (placed_order before order xs y is)

-- a later one comes before none that stand earlier
order_last : {A : Type 0} (before : A → A → Bool) (xs : List A) (y : A) (ys : List A)
    → AreInOrder before (xs ++ y ∷ ys) → All (λ x. before y x ≡ false) xs
order_last before [] y ys is = All-nil (λ x. before y x ≡ false)
order_last {A} before (x ∷ xs) y ys is =
    let all : All (NotBefore before x) (xs ++ y ∷ ys) = is.0 in
    All-cons (λ x. before y x ≡ false) x xs (among xs all) (order_last before xs y ys is.1)
  where
    among : (front : List A) → All (NotBefore before x) (front ++ y ∷ ys) → before y x ≡ false
    among [] all = All-head (NotBefore before x) y ys all
    among (z ∷ front) all = among front (All-tail (NotBefore before x) z (front ++ y ∷ ys) all)

-- a list in order, placed one by one behind another, stands behind it
pub fold_same : {A : Type 0} (before : A → A → Bool) (xs ys : List A)
    → AreInOrder before (xs ++ ys) → fold (placed before) xs ys ≡ xs ++ ys
fold_same before xs [] is = sym (append-nil xs)
fold_same {A} before xs (y ∷ ys) is =
    let last = placed_last before xs y (order_last before xs y ys is) in
    let group : (xs ++ y ∷ []) ++ ys ≡ xs ++ y ∷ ys = append_assoc xs (y ∷ []) ys in
    ap (λ (l : List A). fold (placed before) l ys) last
    ∙ fold_same before (xs ++ y ∷ []) ys (subst (AreInOrder before) (sym group) is) ∙ group

pub filter_order : {A : Type 0} (before : A → A → Bool) (test : A → Bool) (xs : List A)
    → AreInOrder before xs → AreInOrder before (filter test xs)
filter_order before test [] is = tt
filter_order before test (x ∷ xs) is =
    elim (either (test x)) [
      | inl t ↦ rw t (
        All-filter test (NotBefore before x) xs is.0,
        filter_order before test xs is.1,
      )
      | inr f ↦ rw f (filter_order before test xs is.1)
    ]

-- ---- the two orders

pub logs_are_ordered : IsOrder log_is_before
logs_are_ordered = record {
  never = λ a e. absurd (omega (arith, ltb-true a.first a.first e));
  through = λ a b c e f. lt-ltb a.first c.first
      (omega (arith, ltb-true a.first b.first e, ltb-true b.first c.first f));
}

abbrev IsBefore : TableLine → TableLine → Type 0
IsBefore a b = (a.level < b.level) ⊎ ((a.level ≡ b.level)
    × (((a.level ≡ 0) × (a.file < b.file)) ⊎ ((0 < a.level) × IsBelow a.least b.least)))

or_true : (a b : Bool) → (a || b) ≡ true → (a ≡ true) ⊎ (b ≡ true)
or_true true b e = inl refl
or_true false b e = inr e

both_true : (a b : Bool) → (a && b) ≡ true → (a ≡ true) × (b ≡ true)
both_true true b e = (refl, e)
both_true false b e = absurd cc

cond_true : (t a b : Bool) → cond t a b ≡ true
    → ((t ≡ true) × (a ≡ true)) ⊎ ((t ≡ false) × (b ≡ true))
cond_true true a b e = inl (refl, e)
cond_true false a b e = inr (refl, e)

eqb_zero : (n : ℕ) → eqb n 0 ≡ false → 0 < n
eqb_zero zero e = absurd cc
eqb_zero (suc n) e = omega arith

is_before : (a b : TableLine) → table_is_before a b ≡ true → IsBefore a b
is_before a b e =
    let file = ltb a.file b.file in
    let key = is_lt (stored_cmp a.least b.least) in
    elim (or_true (ltb a.level b.level)
    (eqb a.level b.level && cond (eqb a.level 0) file key) e) [
      | inl lt ↦ inl (ltb-true a.level b.level lt)
      | inr more ↦
          let p = both_true (eqb a.level b.level) (cond (eqb a.level 0) file key) more in
          let same = eqb-true a.level b.level p.0 in
          elim (cond_true (eqb a.level 0) file key p.1) [
            | inl top ↦ inr (same, inl (eqb-true a.level 0 top.0, ltb-true a.file b.file top.1))
            | inr deep ↦ inr (
              same,
              inr (
                eqb_zero a.level deep.0,
                (lt_below a.least b.least).0 deep.1,
              ),
            )
          ]
    ]

from_before : (a b : TableLine) → IsBefore a b → table_is_before a b ≡ true
from_before a b (inl lt) = rw (lt-ltb a.level b.level lt) refl
from_before a b (inr (same, inl (top, lt))) =
    rw (
      le-ltb a.level b.level (omega (arith, same)),
      eq-eqb a.level b.level same,
      eq-eqb a.level 0 top,
      lt-ltb a.file b.file lt,
    ) refl
from_before a b (inr (same, inr (deep, lt))) =
    let key : is_lt (stored_cmp a.least b.least) ≡ true = (lt_below a.least b.least).1 lt in
    rw (
      le-ltb a.level b.level (omega (arith, same)),
      eq-eqb a.level b.level same,
      ne_eqb a.level 0 (λ e. absurd (omega (arith, e, deep))),
      key,
    ) refl

before_through : (a b c : TableLine) → IsBefore a b → IsBefore b c → IsBefore a c
before_through a b c (inl x) (inl y) = inl (omega (arith, x, y))
before_through a b c (inl x) (inr y) = inl (omega (arith, x, y.0))
before_through a b c (inr x) (inl y) = inl (omega (arith, x.0, y))
before_through a b c (inr (s, inl x)) (inr (t, inl y)) =
    inr (s ∙ t, inl (x.0, omega (arith, x.1, y.1)))
before_through a b c (inr (s, inl x)) (inr (t, inr y)) = absurd (omega (arith, s, x.0, y.0))
before_through a b c (inr (s, inr x)) (inr (t, inl y)) = absurd (omega (arith, s, x.0, y.0))
before_through a b c (inr (s, inr x)) (inr (t, inr y)) =
    inr (s ∙ t, inr (x.0, below_is_strict.through a.least b.least c.least x.1 y.1))

before_never : (a : TableLine) → IsBefore a a → ⊥
before_never a (inl x) = omega (arith, x)
before_never a (inr (s, inl x)) = omega (arith, x.1)
before_never a (inr (s, inr x)) = below_is_strict.never a.least x.1

pub tables_are_ordered : IsOrder table_is_before
tables_are_ordered = record {
  never = λ a e. before_never a (is_before a a e);
  through = λ a b c e f. from_before a c
      (before_through a b c (is_before a b e) (is_before b c f));
}
