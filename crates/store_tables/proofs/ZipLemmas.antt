-- What stands side by side, by several relations.
use Rattle.std.proofs.Common.{List, [], ◌∷◌, Contains, map}
use Rattle.std.specs.List.{AllZip}
use Rattle.store_model.specs.PlacesLemmas.{contains_head, contains_next}

module _ {A B : Type 0} (R : A → B → Type 0) where
  -- of what is contained, a weaker relation
  pub zip_among : (Q : A → B → Type 0) (xs : List A) (ys : List B)
      → ((x : A) (y : B) → Contains ys y → R x y → Q x y) → AllZip R xs ys → AllZip Q xs ys
  zip_among Q [] [] weaker zip = tt
  zip_among Q [] (b ∷ ys) weaker zip = absurd zip
  zip_among Q (a ∷ xs) [] weaker zip = absurd zip
  zip_among Q (a ∷ xs) (b ∷ ys) weaker zip = (
    weaker a b (contains_head b ys) zip.0,
    zip_among Q xs ys (λ x y there r. weaker x y (contains_next b ys y there) r) zip.1,
  )

  -- two relations
  pub zip_both : (Q : A → B → Type 0) (xs : List A) (ys : List B) → AllZip R xs ys
      → AllZip Q xs ys → AllZip (λ x y. R x y × Q x y) xs ys
  zip_both Q [] [] zip more = tt
  zip_both Q [] (b ∷ ys) zip more = absurd zip
  zip_both Q (a ∷ xs) [] zip more = absurd zip
  zip_both Q (a ∷ xs) (b ∷ ys) zip more = ((zip.0, more.0), zip_both Q xs ys zip.1 more.1)

  -- one relation behind another
  pub zip_through : {C : Type 0} (Q : B → C → Type 0) (S : A → C → Type 0) (xs : List A)
      (ys : List B) (zs : List C) → ((x : A) (y : B) (z : C) → R x y → Q y z → S x z)
      → AllZip R xs ys → AllZip Q ys zs → AllZip S xs zs
  zip_through Q S [] [] [] join zip more = tt
  zip_through Q S [] [] (c ∷ zs) join zip more = absurd more
  zip_through Q S [] (b ∷ ys) zs join zip more = absurd zip
  zip_through Q S (a ∷ xs) [] zs join zip more = absurd zip
  zip_through Q S (a ∷ xs) (b ∷ ys) [] join zip more = absurd more
  zip_through Q S (a ∷ xs) (b ∷ ys) (c ∷ zs) join zip more =
      (join a b c zip.0 more.0, zip_through Q S xs ys zs join zip.1 more.1)

-- what stands beside what a list is mapped to stands beside the list
pub zip_mapped : {A B C : Type 0} (R : C → B → Type 0) (f : A → C) (xs : List A) (ys : List B)
    → AllZip R (map f xs) ys → AllZip (λ x y. R (f x) y) xs ys
zip_mapped R f [] [] zip = tt
zip_mapped R f [] (b ∷ ys) zip = absurd zip
zip_mapped R f (a ∷ xs) [] zip = absurd zip
zip_mapped R f (a ∷ xs) (b ∷ ys) zip = (zip.0, zip_mapped R f xs ys zip.1)
