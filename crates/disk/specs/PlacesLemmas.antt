-- Contents compared place by place.
use Rattle.std.proofs.Common.{◌≡◌, ℕ, zero, suc, ◌+◌, ◌-◌, ◌<◌, ◌≤◌}
use Rattle.std.proofs.Common.{List, [], ◌∷◌, ◌++◌, length, take, drop, Some, None}
use Rattle.std.proofs.Common.{refl, sym, ap, ◌∙◌, arith}
use Rattle.std.specs.Prelude.{slice_get}
use Rattle.std.proofs.lemmas.Grind.{common_steps}
use Rattle.std.proofs.lemmas.Option.{gets}
use Rattle.disk.specs.States.{overwritten}

-- contents with the same bytes in all places are the same
pub same_bytes : (a b : List ℕ) → ((place : ℕ) → slice_get a place ≡ slice_get b place) → a ≡ b
same_bytes [] [] same = refl
same_bytes [] (y ∷ b) same = let h : None ≡ Some y = same 0 in absurd cc
same_bytes (x ∷ a) [] same = let h : Some x ≡ None = same 0 in absurd cc
same_bytes (x ∷ a) (y ∷ b) same =
    let h : Some x ≡ Some y = same 0 in
    let t : a ≡ b = same_bytes a b (λ place. same (suc place)) in
    cc

-- contents that agree before a place have one beginning up to it
pub take_same : (n : ℕ) (a b : List ℕ)
    → ((place : ℕ) → place < n → slice_get a place ≡ slice_get b place) → take n a ≡ take n b
take_same zero a b same = refl
take_same (suc n) [] [] same = refl
take_same (suc n) [] (y ∷ b) same =
    let h : None ≡ Some y = same 0 (omega arith) in absurd cc
take_same (suc n) (x ∷ a) [] same =
    let h : Some x ≡ None = same 0 (omega arith) in absurd cc
take_same (suc n) (x ∷ a) (y ∷ b) same =
    let h : Some x ≡ Some y = same 0 (omega arith) in
    let t : take n a ≡ take n b = take_same n a b (λ place lt. same (suc place) (omega arith)) in
    cc

-- nothing is behind the end of nothing
drop_nil : (k : ℕ) → drop {A = ℕ} k [] ≡ []
drop_nil zero = refl
drop_nil (suc k) = refl

-- contents that agree in a window have the same bytes there
pub window_same : (k n : ℕ) (a b : List ℕ)
    → ((place : ℕ) → k ≤ place → place < k + n → slice_get a place ≡ slice_get b place)
    → take n (drop k a) ≡ take n (drop k b)
window_same zero n a b same =
    take_same n a b (λ place lt. same place (omega arith) (omega arith))
window_same (suc k) n [] [] same = refl
window_same (suc k) n [] (y ∷ b) same =
    ap (take n) (sym (drop_nil k))
    ∙ window_same k n [] b (λ place le lt. same (suc place) (omega arith) (omega arith))
window_same (suc k) n (x ∷ a) [] same =
    window_same k n a [] (λ place le lt. same (suc place) (omega arith) (omega arith))
    ∙ ap (take n) (drop_nil k)
window_same (suc k) n (x ∷ a) (y ∷ b) same =
    window_same k n a b (λ place le lt. same (suc place) (omega arith) (omega arith))

-- ---- a place of a part

-- a place before the end of a beginning
pub get-take : (n : ℕ) (a : List ℕ) (place : ℕ) → place < n
    → slice_get (take n a) place ≡ slice_get a place
get-take n a place lt = grind (arith, common_steps, gets)

-- a place past it
pub get-take_past : (n : ℕ) (a : List ℕ) (place : ℕ) → n ≤ place
    → slice_get (take n a) place ≡ None
get-take_past n a place le = grind (arith, common_steps, gets)

-- a place past the end
pub get-past : (a : List ℕ) (place : ℕ) → length a ≤ place → slice_get a place ≡ None
get-past a place le = grind (arith, common_steps, gets)

-- a place of what is behind a beginning
pub get-drop : (n : ℕ) (a : List ℕ) (place : ℕ)
    → slice_get (drop n a) place ≡ slice_get a (n + place)
get-drop n a place = grind (arith, common_steps, gets)

-- a place of the first of two parts
pub get-append_left : (a b : List ℕ) (place : ℕ) → place < length a
    → slice_get (a ++ b) place ≡ slice_get a place
get-append_left a b place lt = grind (arith, common_steps, gets)

-- a place of the second
pub get-append_right : (a b : List ℕ) (place : ℕ) → length a ≤ place
    → slice_get (a ++ b) place ≡ slice_get b (place - length a)
get-append_right a b place le = grind (arith, common_steps, gets)

-- ---- the content after a write, place by place

-- a write changes no place before it
pub overwritten_before : (old : List ℕ) (at : ℕ) (bytes : List ℕ) (place : ℕ)
    → at ≤ length old → place < at
    → slice_get (overwritten old at bytes) place ≡ slice_get old place
overwritten_before old at bytes place le lt = grind (arith, common_steps, gets)

-- it puts its bytes from its place on
pub overwritten_inside : (old : List ℕ) (at : ℕ) (bytes : List ℕ) (place : ℕ)
    → at ≤ length old → at ≤ place → place < at + length bytes
    → slice_get (overwritten old at bytes) place ≡ slice_get bytes (place - at)
overwritten_inside old at bytes place le from lt = grind (arith, common_steps, gets)

-- a write changes no place behind its bytes
pub overwritten_after : (old : List ℕ) (at : ℕ) (bytes : List ℕ) (place : ℕ)
    → at ≤ length old → at + length bytes ≤ place
    → slice_get (overwritten old at bytes) place ≡ slice_get old place
overwritten_after old at bytes place le past = grind (arith, common_steps, gets)
