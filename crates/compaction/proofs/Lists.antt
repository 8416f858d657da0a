-- Lists side by side, elements that pass a test, and files that are named once.
use Rattle.std.proofs.Common.{◌≡◌, inl, inr, ℕ, ◌<◌, List, [], ◌∷◌, ◌++◌, length, map}
use Rattle.std.proofs.Common.{Some, None, Bool, true, refl, sym, ◌∙◌, ap, subst, arith}
use Rattle.std.specs.Prelude.{◌==◌}
use Rattle.std.specs.List.{AllZip, count_by, filter, find, list_any}
use Rattle.std.proofs.lemmas.Bool.{and_parts, both_ways, cases_Bool, cond-false, cond-true, eq-eqb}
use Rattle.std.proofs.lemmas.Bool.{not-true, or_left, or_right}
use Rattle.std.proofs.lemmas.List.Sums.{length-filter}
use Rattle.kv_types.specs.OrderLemmas.{Among}
use Rattle.version_edits.specs.declared.LogLine.{LogLine}
use Rattle.version_edits.specs.declared.TableLine.{TableLine}
use Rattle.version_edits.specs.Versions.{are_once, files_of}

-- ---- side by side

-- of one of the first list there is one of the second
pub zip_there : {A B : Type 0} (R : A → B → Type 0) (xs : List A) (ys : List B) (x : A)
    → AllZip R xs ys → Among x xs → (y : B) × Among y ys × R x y
zip_there R [] [] x zip a = absurd a
zip_there R [] (y ∷ ys) x zip a = absurd zip
zip_there R (w ∷ xs) [] x zip a = absurd zip
zip_there R (w ∷ xs) (y ∷ ys) x zip (inl is) = (y, inl refl, subst (λ z. R z y) is zip.0)
zip_there R (w ∷ xs) (y ∷ ys) x zip (inr later) =
    let it = zip_there R xs ys x zip.1 later in (it.0, inr it.1, it.2)

-- and of one of the second list there is one of the first
pub zip_back : {A B : Type 0} (R : A → B → Type 0) (xs : List A) (ys : List B) (y : B)
    → AllZip R xs ys → Among y ys → (x : A) × Among x xs × R x y
zip_back R [] [] y zip a = absurd a
zip_back R [] (z ∷ ys) y zip a = absurd zip
zip_back R (x ∷ xs) [] y zip a = absurd zip
zip_back R (x ∷ xs) (z ∷ ys) y zip (inl is) = (x, inl refl, subst (λ w. R x w) is zip.0)
zip_back R (x ∷ xs) (z ∷ ys) y zip (inr later) =
    let it = zip_back R xs ys y zip.1 later in (it.0, inr it.1, it.2)

-- ---- elements that pass a test

module _ {A : Type 0} (p : A → Bool) where
  pub filter_among : (xs : List A) (x : A) → Among x (filter p xs) → Among x xs × (p x ≡ true)
  filter_among [] x a = absurd a
  filter_among (y ∷ ys) x a = elim (cases_Bool (p y)) [
    | inl passed ↦ elim (subst (λ l. Among x l) (cond-true _ _ _ passed) a) [
      | inl is ↦ (inl is, subst (λ z. p z ≡ true) is passed)
      | inr later ↦ let it = filter_among ys x later in (inr it.0, it.1)
    ]
    | inr fails ↦ let it = filter_among ys x (subst (λ l. Among x l) (cond-false _ _ _ fails) a) in
        (inr it.0, it.1)
  ]

  pub among_filter : (xs : List A) (x : A) → Among x xs → p x ≡ true → Among x (filter p xs)
  among_filter [] x a passed = absurd a
  among_filter (y ∷ ys) x (inl is) passed =
      subst (λ l. Among x l)
      (sym (cond-true _ _ _ (subst (λ z. p z ≡ true) (sym is) passed))) (inl is)
  among_filter (y ∷ ys) x (inr later) passed =
      let there = among_filter ys x later passed in
      elim (cases_Bool (p y)) [
        | inl also ↦ subst (λ l. Among x l) (sym (cond-true _ _ _ also)) (inr there)
        | inr fails ↦ subst (λ l. Among x l) (sym (cond-false _ _ _ fails)) there
      ]

  pub find_among : (xs : List A) (x : A) → find p xs ≡ Some x → Among x xs × (p x ≡ true)
  find_among [] x is = absurd (let h : None ≡ Some x = is in cc)
  find_among (y ∷ ys) x is = elim (cases_Bool (p y)) [
    | inl passed ↦
        let h : Some y ≡ Some x = sym (cond-true _ _ _ passed) ∙ is in
        let same : y ≡ x = cc in
        (inl same, subst (λ z. p z ≡ true) same passed)
    | inr fails ↦ let it = find_among ys x (sym (cond-false _ _ _ fails) ∙ is) in (inr it.0, it.1)
  ]

  some_left : (xs : List A) → 0 < length xs → (x : A) × Among x xs
  some_left [] some = absurd (omega (arith, some))
  some_left (x ∷ xs) some = (x, inl refl)

  pub counted_among : (xs : List A) → 0 < count_by p xs → (x : A) × Among x xs × (p x ≡ true)
  counted_among xs some =
      let len = length-filter p xs in
      let it = some_left (filter p xs) (omega (arith, some, len)) in
      let there = filter_among xs it.0 it.1 in
      (it.0, there.0, there.1)

-- ---- files that are named once

once_behind : (xs ys : List ℕ) → are_once (xs ++ ys) ≡ true → are_once ys ≡ true
once_behind [] ys once = once
once_behind (x ∷ xs) ys once = once_behind xs ys (and_parts _ (are_once (xs ++ ys)) once).1

any_file : (lines : List TableLine) (line : TableLine) (file : ℕ) → Among line lines
    → line.file ≡ file → list_any (λ other. other == file) (map (λ l. l.file) lines) ≡ true
any_file [] line file a is = absurd a
any_file (l ∷ ls) line file (inl e) is = or_left (l.file == file) _
    (eq-eqb l.file file (ap (λ (z : TableLine). z.file) e ∙ is))
any_file (l ∷ ls) line file (inr a) is = or_right (l.file == file) _ (any_file ls line file a is)

once_same : (lines : List TableLine) → are_once (map (λ l. l.file) lines) ≡ true
    → (a b : TableLine) → Among a lines → Among b lines → a.file ≡ b.file → a ≡ b
once_same [] once a b in_a in_b same = absurd in_a
once_same (l ∷ ls) once a b (inl e) (inl f) same = sym e ∙ f
once_same (l ∷ ls) once a b (inl e) (inr there) same =
    let parts = and_parts _ (are_once (map (λ z. z.file) ls)) once in
    let file : b.file ≡ l.file = sym same ∙ ap (λ (z : TableLine). z.file) (sym e) in
    absurd (both_ways _ (not-true _ parts.0) (any_file ls b l.file there file))
once_same (l ∷ ls) once a b (inr there) (inl f) same =
    let parts = and_parts _ (are_once (map (λ z. z.file) ls)) once in
    let file : a.file ≡ l.file = same ∙ ap (λ (z : TableLine). z.file) (sym f) in
    absurd (both_ways _ (not-true _ parts.0) (any_file ls a l.file there file))
once_same (l ∷ ls) once a b (inr in_a) (inr in_b) same =
    once_same ls (and_parts _ (are_once (map (λ z. z.file) ls)) once).1 a b in_a in_b same

-- of a version no two tables have one file
pub same_table : (logs : List LogLine) (lines : List TableLine)
    → are_once (files_of logs lines) ≡ true → (a b : TableLine) → Among a lines → Among b lines
    → a.file ≡ b.file → a ≡ b
same_table logs lines once =
    once_same lines (once_behind (map (λ l. l.file) logs) (map (λ l. l.file) lines) once)
