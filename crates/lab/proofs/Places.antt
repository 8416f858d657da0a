-- Frames by their places.
use Rattle.std.proofs.Common.{◌≡◌, ℕ, zero, suc, ◌<◌, ◌≤◌, List, [], ◌∷◌, length}
use Rattle.std.proofs.Common.{Some, None, refl, sym, ap, subst, ◌∙◌}
use Rattle.std.specs.Prelude.{All, slice_get}
use Rattle.std.specs.List.{AllZip, HoldsAt}
use Rattle.std.proofs.lemmas.Option.{slice_get_past, slice_get_within, slice_get-get_or}
use Rattle.std.proofs.lemmas.Option.{get_or_from_slice_get}
use Rattle.std.proofs.lemmas.List.Elements.{All-get_or}
use Rattle.kv_types.specs.{Edits, place}
use Rattle.chain_model.specs.{Message as ModelFrame}
use Rattle.lab.specs.declared.delivery.Posted.{Posted}
use Rattle.lab.specs.Worlds.{PostedRefines}

-- there is no place 0
pub place_zero : {A : Type 0} (l : List A) → place l 0 ≡ None
place_zero [] = refl
place_zero (x ∷ l) = refl

-- each other place is that of the index one less
place_index : {A : Type 0} (l : List A) (i : ℕ) → place l (suc i) ≡ slice_get l i
place_index [] i = refl
place_index (x ∷ l) zero = refl
place_index (x ∷ l) (suc i) = place_index l i

-- what holds of each element holds of what a place has
pub place_each : {A : Type 0} (P : A → Type 0) (l : List A) (p : ℕ) (x : A) → All P l →
    place l p ≡ Some x → P x
place_each P l zero x all is = absurd (none_some (sym (place_zero l) ∙ is))
  where
    none_some : None ≡ Some x → ⊥
    none_some e = cc
place_each P l (suc i) x all is =
    let got = sym (place_index l i) ∙ is in
    subst P (get_or_from_slice_get l i x x got)
    (All-get_or P l i x (slice_get_within l i x got) all)

-- what an index behind the end has, and what one within it has
pub place_past : {A : Type 0} (l : List A) (p i : ℕ) → p ≡ suc i → length l ≤ i → place l p ≡ None
place_past l p i at past =
    ap (place l) at ∙ place_index l i ∙ slice_get_past l i past

pub place_at : {A : Type 0} (l : List A) (p i : ℕ) (x : A) → p ≡ suc i → i < length l →
    HoldsAt (λ y. x ≡ y) l i → place l p ≡ Some x
place_at l p i x at within is =
    ap (place l) at ∙ place_index l i ∙ slice_get-get_or l i x within
    ∙ ap (λ y. Some y) (sym (is x))

-- where nothing is posted the model has no frame
pub none_kept : (posted : List Posted) (frames : List (ModelFrame Edits)) (p : ℕ) →
    AllZip PostedRefines posted frames → place posted p ≡ None → place frames p ≡ None
none_kept [] [] p each none = refl
none_kept [] (f ∷ frames) p each none = absurd each
none_kept (x ∷ posted) [] p each none = absurd each
none_kept (x ∷ posted) (f ∷ frames) zero each none = refl
none_kept (x ∷ posted) (f ∷ frames) (suc zero) each none = absurd (some_none none)
  where
    some_none : Some x ≡ None → ⊥
    some_none e = cc
none_kept (x ∷ posted) (f ∷ frames) (suc (suc p)) each none =
    none_kept posted frames (suc p) each.1 none

-- a frame of the model that this posted one refines
pub record Has (frames : List (ModelFrame Edits)) (p : ℕ) (posted : Posted) : Type 0 where
  pub frame : ModelFrame Edits
  pub there : place frames p ≡ Some frame
  pub kept : PostedRefines posted frame

-- the posted frame in a place refines a frame of the model in that place
pub some_kept : (posted : List Posted) (frames : List (ModelFrame Edits)) (p : ℕ)
    (x : Posted) → AllZip PostedRefines posted frames → place posted p ≡ Some x → Has frames p x
some_kept [] frames p x each is = absurd (none_some is)
  where
    none_some : None ≡ Some x → ⊥
    none_some e = cc
some_kept (y ∷ posted) [] p x each is = absurd each
some_kept (y ∷ posted) (f ∷ frames) zero x each is = absurd (none_some is)
  where
    none_some : None ≡ Some x → ⊥
    none_some e = cc
some_kept (y ∷ posted) (f ∷ frames) (suc zero) x each is = record {
  frame = f;
  there = refl;
  kept = subst (λ (z : Posted). PostedRefines z f) (same is) each.0;
}
  where
    same : Some y ≡ Some x → y ≡ x
    same e = cc
some_kept (y ∷ posted) (f ∷ frames) (suc (suc p)) x each is =
    let later = some_kept posted frames (suc p) x each.1 is in
    record { frame = later.frame; there = later.there; kept = later.kept }
