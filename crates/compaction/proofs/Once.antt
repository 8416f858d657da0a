-- Elements that are placed in a list, lists in which no two are alike, and numbers that stand once.
use Rattle.std.proofs.Common.{◌≡◌, ◌⊎◌, inl, inr, ℕ, suc, ◌+◌, ◌≤◌, List, [], ◌∷◌, ◌++◌, length}
use Rattle.std.proofs.Common.{map, Bool, true, refl, sym, ◌∙◌, ap, subst, arith}
use Rattle.std.specs.Prelude.{◌==◌, not}
use Rattle.std.specs.List.{AllZip, filter, fold, list_all, list_any}
use Rattle.std.proofs.lemmas.Bool.{and_from, and_parts, both_ways, cases_Bool, cond-false}
use Rattle.std.proofs.lemmas.Bool.{cond-true, eq-eqb, eqb-true, not-true, or_cases, or_left}
use Rattle.std.proofs.lemmas.Bool.{or_right}
use Rattle.std.proofs.lemmas.List.{length-append}
use Rattle.kv_types.specs.OrderLemmas.{Among, Rises}
use Rattle.version_edits.specs.Versions.{are_once, placed}
use Rattle.compaction.proofs.Lists.{filter_among, zip_back}

-- ---- what stands in a list

pub among_map : {A B : Type 0} (f : A → B) (xs : List A) (x : A) → Among x xs
    → Among (f x) (map f xs)
among_map f [] x a = absurd a
among_map f (y ∷ ys) x (inl is) = inl (ap f is)
among_map f (y ∷ ys) x (inr a) = inr (among_map f ys x a)

pub map_among : {A B : Type 0} (f : A → B) (xs : List A) (y : B) → Among y (map f xs)
    → (x : A) × Among x xs × (f x ≡ y)
map_among f [] y a = absurd a
map_among f (x ∷ xs) y (inl is) = (x, inl refl, is)
map_among f (x ∷ xs) y (inr later) =
    let it = map_among f xs y later in (it.0, inr it.1, it.2)

append_cases : {A : Type 0} (xs ys : List A) (x : A) → Among x (xs ++ ys) → Among x xs ⊎ Among x ys
append_cases [] ys x a = inr a
append_cases (y ∷ xs) ys x (inl is) = inl (inl is)
append_cases (y ∷ xs) ys x (inr a) = elim (append_cases xs ys x a) [
  | inl first ↦ inl (inr first)
  | inr last ↦ inr last
]

module _ {A : Type 0} (before : A → A → Bool) where
  placed_cases : (xs : List A) (x y : A) → Among y (placed before xs x) → (x ≡ y) ⊎ Among y xs
  placed_cases [] x y a = a
  placed_cases (z ∷ xs) x y a = elim (cases_Bool (before x z)) [
    | inl first ↦ subst (λ l. Among y l) (cond-true _ _ _ first) a
    | inr later ↦ elim (subst (λ l. Among y l) (cond-false _ _ _ later) a) [
      | inl is ↦ inr (inl is)
      | inr there ↦ elim (placed_cases xs x y there) [ inl is ↦ inl is | inr old ↦ inr (inr old) ]
    ]
  ]

  placed_new : (xs : List A) (x : A) → Among x (placed before xs x)
  placed_new [] x = inl refl
  placed_new (z ∷ xs) x = elim (cases_Bool (before x z)) [
    | inl first ↦ subst (λ l. Among x l) (sym (cond-true _ _ _ first)) (inl refl)
    | inr later ↦ subst (λ l. Among x l) (sym (cond-false _ _ _ later)) (inr (placed_new xs x))
  ]

  placed_old : (xs : List A) (x y : A) → Among y xs → Among y (placed before xs x)
  placed_old [] x y a = absurd a
  placed_old (z ∷ xs) x y a = elim (cases_Bool (before x z)) [
    | inl first ↦ subst (λ l. Among y l) (sym (cond-true _ _ _ first)) (inr a)
    | inr later ↦ subst (λ l. Among y l) (sym (cond-false _ _ _ later)) (elim a [
      | inl is ↦ inl is
      | inr there ↦ inr (placed_old xs x y there)
    ])
  ]

  -- one of a list with others placed in it is one of the list, or of the others
  pub fold_cases : (xs ys : List A) (y : A) → Among y (fold (placed before) xs ys)
      → Among y xs ⊎ Among y ys
  fold_cases xs [] y a = inl a
  fold_cases xs (z ∷ ys) y a = elim (fold_cases (placed before xs z) ys y a) [
    | inl old ↦ elim (placed_cases xs z y old) [ inl is ↦ inr (inl is) | inr there ↦ inl there ]
    | inr new ↦ inr (inr new)
  ]

  pub fold_old : (xs ys : List A) (y : A) → Among y xs → Among y (fold (placed before) xs ys)
  fold_old xs [] y a = a
  fold_old xs (z ∷ ys) y a = fold_old (placed before xs z) ys y (placed_old xs z y a)

  pub fold_new : (xs ys : List A) (y : A) → Among y ys → Among y (fold (placed before) xs ys)
  fold_new xs [] y a = absurd a
  fold_new xs (z ∷ ys) y (inl is) = fold_old (placed before xs z) ys y
      (subst (λ w. Among w (placed before xs z)) is (placed_new xs z))
  fold_new xs (z ∷ ys) y (inr a) = fold_new (placed before xs z) ys y a

  placed_length : (xs : List A) (x : A) → length (placed before xs x) ≡ suc (length xs)
  placed_length [] x = refl
  placed_length (z ∷ xs) x = elim (cases_Bool (before x z)) [
    | inl first ↦ ap length (cond-true _ _ _ first)
    | inr later ↦ ap length (cond-false _ _ _ later) ∙ ap suc (placed_length xs x)
  ]

  pub fold_length : (xs ys : List A) → length (fold (placed before) xs ys) ≡ length xs + length ys
  fold_length xs [] = omega arith
  fold_length xs (z ∷ ys) =
      let one = placed_length xs z in
      let others = fold_length (placed before xs z) ys in
      others ∙ omega (arith, one)

-- ---- lists in which each two stand so to each other

module _ {A : Type 0} (R : A → A → Type 0) where
  pub rises_filter : (p : A → Bool) (xs : List A) → Rises R xs → Rises R (filter p xs)
  rises_filter p [] rises = tt
  rises_filter p (x ∷ xs) rises =
      let rest = rises_filter p xs rises.1 in
      elim (cases_Bool (p x)) [
        | inl kept ↦ subst (λ l. Rises R l) (sym (cond-true _ _ _ kept))
            (λ y a. rises.0 y (filter_among p xs y a).0, rest)
        | inr out ↦ subst (λ l. Rises R l) (sym (cond-false _ _ _ out)) rest
      ]

  pub rises_with : (S : A → A → Type 0) (xs : List A) → ((a b : A) → Among a xs → Among b xs → R a b
      → S a b) → Rises R xs → Rises S xs
  rises_with S [] more rises = tt
  rises_with S (x ∷ xs) more rises = (
    λ y a. more x y (inl refl) (inr a) (rises.0 y a),
    rises_with S xs (λ a b in_a in_b. more a b (inr in_a) (inr in_b)) rises.1,
  )

  pub rises_append : (xs ys : List A) → Rises R xs → Rises R ys
      → ((x y : A) → Among x xs → Among y ys → R x y) → Rises R (xs ++ ys)
  rises_append [] ys one two both = two
  rises_append (x ∷ xs) ys one two both = (
    λ y a. elim (append_cases xs ys y a) [
      | inl first ↦ one.0 y first
      | inr last ↦ both x y (inl refl) last
    ],
    rises_append xs ys one.1 two (λ a b in_a in_b. both a b (inr in_a) in_b),
  )

  pub rises_across : (xs ys : List A) (x y : A) → Rises R (xs ++ ys) → Among x xs → Among y ys
      → R x y
  rises_across [] ys x y rises in_x in_y = absurd in_x
  rises_across (z ∷ xs) ys x y rises (inl is) in_y =
      subst (λ w. R w y) is (rises.0 y (behind xs in_y))
    where
      behind : (zs : List A) → Among y ys → Among y (zs ++ ys)
      behind [] a = a
      behind (w ∷ zs) a = inr (behind zs a)
  rises_across (z ∷ xs) ys x y rises (inr in_x) in_y = rises_across xs ys x y rises.1 in_x in_y

  pub rises_behind : (xs ys : List A) → Rises R (xs ++ ys) → Rises R ys
  rises_behind [] ys rises = rises
  rises_behind (x ∷ xs) ys rises = rises_behind xs ys rises.1

  pub rises_ahead : (xs ys : List A) → Rises R (xs ++ ys) → Rises R xs
  rises_ahead [] ys rises = tt
  rises_ahead (x ∷ xs) ys rises =
      (λ y a. rises.0 y (ahead xs y a), rises_ahead xs ys rises.1)
    where
      ahead : (zs : List A) (y : A) → Among y zs → Among y (zs ++ ys)
      ahead [] y a = absurd a
      ahead (z ∷ zs) y (inl is) = inl is
      ahead (z ∷ zs) y (inr a) = inr (ahead zs y a)

  module _ (back : (a b : A) → R a b → R b a) (before : A → A → Bool) where
    rises_placed : (xs : List A) (x : A) → Rises R xs → ((y : A) → Among y xs → R x y)
        → Rises R (placed before xs x)
    rises_placed [] x rises new = (λ y a. absurd a, tt)
    rises_placed (z ∷ xs) x rises new = elim (cases_Bool (before x z)) [
      | inl first ↦ subst (λ l. Rises R l) (sym (cond-true _ _ _ first)) (new, rises)
      | inr later ↦ subst (λ l. Rises R l) (sym (cond-false _ _ _ later)) (
        λ y a. elim (placed_cases before xs x y a) [
          | inl is ↦ subst (R z) is (back x z (new z (inl refl)))
          | inr old ↦ rises.0 y old
        ],
        rises_placed xs x rises.1 (λ y a. new y (inr a)),
      )
    ]

    -- so too with others that are placed among them
    pub rises_fold : (xs ys : List A) → Rises R xs → Rises R ys
        → ((y x : A) → Among y ys → Among x xs → R y x) → Rises R (fold (placed before) xs ys)
    rises_fold xs [] one two both = one
    rises_fold xs (y ∷ ys) one two both =
        rises_fold (placed before xs y) ys
        (rises_placed xs y one (λ x a. both y x (inl refl) a)) two.1
        (λ z x in_z in_x. elim (placed_cases before xs y x in_x) [
          | inl is ↦ subst (R z) is (back y z (two.0 z in_z))
          | inr old ↦ both z x (inr in_z) old
        ])

-- what stands beside such a list stands so too
pub rises_zip : {A B : Type 0} (R : A → B → Type 0) (P : A → A → Type 0) (Q : B → B → Type 0)
    → ((a c : A) (b d : B) → R a b → R c d → P a c → Q b d) → (xs : List A) (ys : List B)
    → AllZip R xs ys → Rises P xs → Rises Q ys
rises_zip R P Q step [] [] zip rises = tt
rises_zip R P Q step [] (y ∷ ys) zip rises = absurd zip
rises_zip R P Q step (x ∷ xs) [] zip rises = absurd zip
rises_zip R P Q step (x ∷ xs) (y ∷ ys) zip rises = (
  λ z a. let it = zip_back R xs ys z zip.1 a in step x it.0 y z zip.0 it.2 (rises.0 it.0 it.1),
  rises_zip R P Q step xs ys zip.1 rises.1,
)

-- ---- elements with different numbers

-- the numbers of the two differ
abbrev pub Differ : {A : Type 0} → (A → ℕ) → A → A → Type 0
Differ file_of a b = file_of a ≡ file_of b → ⊥

pub differ_back : {A : Type 0} (file_of : A → ℕ) (a b : A) → Differ file_of a b
    → Differ file_of b a
differ_back file_of a b differ same = differ (sym same)

-- where one passes the test, one of the list does
pub any_true : {A : Type 0} (p : A → Bool) (xs : List A) (x : A) → Among x xs → p x ≡ true
    → list_any p xs ≡ true
any_true p [] x a passed = absurd a
any_true p (y ∷ xs) x (inl here) passed =
    or_left (p y) _ (subst (λ z. p z ≡ true) (sym here) passed)
any_true p (y ∷ xs) x (inr a) passed = or_right (p y) _ (any_true p xs x a passed)

pub true_any : {A : Type 0} (p : A → Bool) (xs : List A) → list_any p xs ≡ true
    → (x : A) × Among x xs × (p x ≡ true)
true_any p [] passed = absurd cc
true_any p (y ∷ xs) passed = elim (or_cases (p y) _ passed) [
  | inl here ↦ (y, inl refl, here)
  | inr later ↦ let it = true_any p xs later in (it.0, inr it.1, it.2)
]

-- where each passes the test, all do
pub all_true : {A : Type 0} (p : A → Bool) (xs : List A) → ((x : A) → Among x xs → p x ≡ true)
    → list_all p xs ≡ true
all_true p [] each = refl
all_true p (x ∷ xs) each =
    and_from (p x) (list_all p xs) (each x (inl refl)) (all_true p xs (λ y a. each y (inr a)))

abbrev pub OfNumbers : ℕ → ℕ → Type 0
OfNumbers = Differ (λ (n : ℕ). n)

pub once_numbers : (ns : List ℕ) → are_once ns ≡ true → Rises OfNumbers ns
once_numbers [] once = tt
once_numbers (n ∷ ns) once =
    let parts = and_parts _ (are_once ns) once in (
      λ m a same. both_ways _ (not-true _ parts.0)
          (any_true (λ k. k == n) ns m a (eq-eqb m n (sym same))),
      once_numbers ns parts.1,
    )

pub numbers_once : (ns : List ℕ) → Rises OfNumbers ns → are_once ns ≡ true
numbers_once [] rises = refl
numbers_once (n ∷ ns) rises =
    and_from (not (list_any (λ k. k == n) ns)) (are_once ns)
    (elim (cases_Bool (list_any (λ k. k == n) ns)) [
      | inl passed ↦
          let it = true_any (λ k. k == n) ns passed in
          absurd (rises.0 it.0 it.1 (sym (eqb-true it.0 n it.2)))
      | inr none ↦ ap not none
    ]) (numbers_once ns rises.1)

module _ {A : Type 0} (file_of : A → ℕ) where
  pub rises_map : (xs : List A) → Rises (Differ file_of) xs → Rises OfNumbers (map file_of xs)
  rises_map [] rises = tt
  rises_map (x ∷ xs) rises = (
    λ n a same. let it = map_among file_of xs n a in rises.0 it.0 it.1 (same ∙ sym it.2),
    rises_map xs rises.1,
  )

  pub once_differ : (xs : List A) → are_once (map file_of xs) ≡ true → Rises (Differ file_of) xs
  once_differ xs once = unmapped xs (once_numbers (map file_of xs) once)
    where
      unmapped : (ys : List A) → Rises OfNumbers (map file_of ys) → Rises (Differ file_of) ys
      unmapped [] rises = tt
      unmapped (y ∷ ys) rises =
          (λ z a. rises.0 (file_of z) (among_map file_of ys z a), unmapped ys rises.1)

  pub differ_once : (xs : List A) → Rises (Differ file_of) xs → are_once (map file_of xs) ≡ true
  differ_once xs rises = numbers_once (map file_of xs) (rises_map xs rises)

  -- two of them with one number are one
  pub same_of : (xs : List A) → Rises (Differ file_of) xs → (a b : A) → Among a xs → Among b xs
      → file_of a ≡ file_of b → a ≡ b
  same_of [] rises a b in_a in_b same = absurd in_a
  same_of (x ∷ xs) rises a b (inl e) (inl f) same = sym e ∙ f
  same_of (x ∷ xs) rises a b (inl e) (inr there) same =
      absurd (rises.0 b there (ap file_of e ∙ same))
  same_of (x ∷ xs) rises a b (inr there) (inl f) same =
      absurd (rises.0 a there (ap file_of f ∙ sym same))
  same_of (x ∷ xs) rises a b (inr in_a) (inr in_b) same = same_of xs rises.1 a b in_a in_b same

-- ---- how many there are

-- those that fail a test and those that pass it are all
pub parts_length : {A : Type 0} (p : A → Bool) (xs : List A)
    → length (filter (λ x. not (p x)) xs) + length (filter p xs) ≡ length xs
parts_length p [] = omega arith
parts_length p (x ∷ xs) =
    let rest = parts_length p xs in
    elim (cases_Bool (p x)) [
      | inl passed ↦ rw passed (omega (arith, rest))
      | inr none ↦ rw none (omega (arith, rest))
    ]

record IsParted (xs : List ℕ) (n : ℕ) : Type 0 where
  front : List ℕ
  back : List ℕ
  is : xs ≡ front ++ n ∷ back

parted : (xs : List ℕ) (n : ℕ) → Among n xs → IsParted xs n
parted [] n a = absurd a
parted (x ∷ xs) n (inl here) =
    record { front = []; back = xs; is = ap (λ (m : ℕ). m ∷ xs) here }
parted (x ∷ xs) n (inr a) =
    let it = parted xs n a in
    record { front = x ∷ it.front; back = it.back; is = ap (λ (l : List ℕ). x ∷ l) it.is }

without : (front back : List ℕ) (n m : ℕ) → Among m (front ++ n ∷ back) → (n ≡ m → ⊥)
    → Among m (front ++ back)
without [] back n m (inl is) other = absurd (other is)
without [] back n m (inr a) other = a
without (x ∷ front) back n m (inl is) other = inl is
without (x ∷ front) back n m (inr a) other = inr (without front back n m a other)

-- numbers that differ are no more than those of a list that has them all
pub no_more : (xs ys : List ℕ) → Rises OfNumbers xs
    → ((n : ℕ) → Among n xs → Among n ys) → length xs ≤ length ys
no_more [] ys rises there = omega arith
no_more (x ∷ xs) ys rises there =
    let at = parted ys x (there x (inl refl)) in
    let rest = no_more xs (at.front ++ at.back) rises.1 (λ n a. without at.front at.back x n
    (subst (λ l. Among n l) at.is (there n (inr a))) (rises.0 n a)) in
    let all = ap length at.is ∙ length-append at.front (x ∷ at.back) in
    let short = length-append at.front at.back in
    omega (arith, rest, all, short)
