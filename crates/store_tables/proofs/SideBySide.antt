-- Two lists side by side, and a loop over one of them.
use Rattle.std.proofs.Common.{◌≡◌, ℕ, zero, suc, ◌+◌, ◌<◌, ◌≤◌, List, [], ◌∷◌, ◌++◌, length, map}
use Rattle.std.proofs.Common.{Contains, take, drop, get_or, refl, sym, ◌∙◌, ap, subst, arith}
use Rattle.std.specs.List.{AllZip}
use Rattle.std.proofs.lemmas.List.{map-append, take_all, drop_all, take_more}
use Rattle.std.proofs.lemmas.Slice.Zip.{AllZip-long}
use Rattle.store_model.specs.PlacesLemmas.{contains_head, contains_next}

module _ {A B : Type 0} (R : A → B → Type 0) where
  -- the element beside x, which stands at place i; the next place is i + 1
  pub record Beside (x : A) (ys : List B) (i next : ℕ) : Type 0 where
    pub other : B
    pub related : R x other
    pub there : Contains ys other
    pub taken : take next ys ≡ take i ys ++ other ∷ []
    pub left : drop i ys ≡ other ∷ drop next ys
    pub whole : take i ys ++ other ∷ drop next ys ≡ ys

  found_beside : (xs : List A) (ys : List B) (i : ℕ) (x : A) → AllZip R xs ys → i < length xs
      → x ≡ get_or xs i x → Beside x ys i (suc i)
  found_beside [] ys i x zip lt is = absurd (omega (arith, lt))
  found_beside (a ∷ xs) [] i x zip lt is = absurd zip
  found_beside (a ∷ xs) (b ∷ ys) zero x zip lt is = record {
    other = b;
    related = subst (λ (z : A). R z b) (sym is) zip.0;
    there = contains_head b ys;
    taken = refl;
    left = refl;
    whole = refl;
  }
  found_beside (a ∷ xs) (b ∷ ys) (suc i) x zip lt is =
      let it = found_beside xs ys i x zip.1 (omega (arith, lt)) is in
      record {
        other = it.other;
        related = it.related;
        there = contains_next b ys it.other it.there;
        taken = ap (λ (l : List B). b ∷ l) it.taken;
        left = it.left;
        whole = ap (λ (l : List B). b ∷ l) it.whole;
      }

  pub beside : (xs : List A) (ys : List B) (i : ℕ) (x : A) → AllZip R xs ys → i < length xs
      → x ≡ get_or xs i x → Beside x ys i (i + 1)
  beside xs ys i x zip lt is =
      let next : suc i ≡ i + 1 = omega arith in
      subst (λ (n : ℕ). Beside x ys i n) next (found_beside xs ys i x zip lt is)

  -- one more on both sides
  pub zip_push : (xs : List A) (ys : List B) (x : A) (y : B) → AllZip R xs ys → R x y
      → AllZip R (xs ++ x ∷ []) (ys ++ y ∷ [])
  zip_push [] [] x y zip is = (is, tt)
  zip_push [] (b ∷ ys) x y zip is = absurd zip
  zip_push (a ∷ xs) [] x y zip is = absurd zip
  zip_push (a ∷ xs) (b ∷ ys) x y zip is = (zip.0, zip_push xs ys x y zip.1 is)

  -- a weaker relation
  pub zip_map : (Q : A → B → Type 0) → ((x : A) (y : B) → R x y → Q x y) → (xs : List A)
      (ys : List B) → AllZip R xs ys → AllZip Q xs ys
  zip_map Q weaker [] [] zip = tt
  zip_map Q weaker [] (b ∷ ys) zip = absurd zip
  zip_map Q weaker (a ∷ xs) [] zip = absurd zip
  zip_map Q weaker (a ∷ xs) (b ∷ ys) zip =
      (weaker a b zip.0, zip_map Q weaker xs ys zip.1)

  -- a loop that has passed all of one list has passed all of the other
  pub all_taken : (xs : List A) (ys : List B) (i : ℕ) → AllZip R xs ys → length xs ≤ i
      → take i ys ≡ ys
  all_taken xs ys i zip le =
      let same = AllZip-long R xs ys zip in take_all i ys (omega (arith, le, same))

  pub none_left : (xs : List A) (ys : List B) (i : ℕ) → AllZip R xs ys → length xs ≤ i
      → drop i ys ≡ []
  none_left xs ys i zip le =
      let same = AllZip-long R xs ys zip in drop_all i ys (omega (arith, le, same))

-- what a loop has made of the elements that it has passed, and of one more
pub map_more : {A B : Type 0} (f : A → B) (made now : List A) (one : A) (xs : List B) (i : ℕ)
    (x : B) → now ≡ made ++ one ∷ [] → map f made ≡ take i xs → f one ≡ x → i < length xs
    → x ≡ get_or xs i x → map f now ≡ take (i + 1) xs
map_more f made now one xs i x pushed so_far same lt is =
    ap (map f) pushed ∙ map-append f made (one ∷ [])
    ∙ ap (λ l. l ++ f one ∷ []) so_far
    ∙ ap (λ z. take i xs ++ z ∷ []) (same ∙ is)
    ∙ sym (take_more xs i x lt)
