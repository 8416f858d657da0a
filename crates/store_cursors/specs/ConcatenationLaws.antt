-- A concatenation of cursors keeps what every cursor keeps.
use Rattle.std.proofs.Common.{◌≡◌, ◌<◌, ◌≤◌, ◌*◌, ◌-◌, Bool, ℕ, zero, suc, List, length, Option}
use Rattle.std.proofs.Common.{[], ◌∷◌, None, Some, arith, refl, subst, ap, ◌⊎◌, inl, inr}
use Rattle.std.specs.List.{slice_get, sum_by}
use Rattle.std.proofs.lemmas.List.Sums.{sum_by-cons}
use Rattle.std.proofs.lemmas.Nat.{row_fits}
use Rattle.std.proofs.lemmas.Option.{slice_get_within}
use Rattle.kv_types.specs.{Entry}
use Rattle.merge_iter.specs.{AreCursorLaws, EachChild, IfOn, IsAlike}
use Rattle.merge_iter.specs.{IsApart, IsTableEntry, Off, On, Broken, Position, UnionHolds}
use Rattle.merge_iter.specs.{entry_cmp}
use Rattle.merge_iter.specs.EntryOrder.{equal_apart, equal_back}
use Rattle.merge_iter.specs.Unions.{one}
use Rattle.merge_iter.specs.Merging.{child_position}
use Rattle.merge_iter.specs.declared.Direction.{Direction}
use Rattle.merge_iter.specs.declared.Direction.TheVariants.{Forward, Backward}
use Rattle.std.specs.declared.cmp.Ordering.TheVariants.{Equal}
use Rattle.store_cursors.specs.declared.child_place.ChildPlace.{ChildPlace}
use Rattle.store_cursors.specs.declared.child_place.ChildPlace.TheVariants as place
use Rattle.store_cursors.specs.Concatenation.{AreConcatenated, IsConcatenation, IsOwnEntry}
use Rattle.store_cursors.specs.Concatenation.{concatenated_left, concatenated_most}
use Rattle.store_cursors.specs.Concatenation.{concatenated_position, left_from, rank}

-- ---- steps

-- one of the numbers is no more than their sum
pub one_of_sum : {C : Type 0} (f : C → ℕ) (xs : List C) (k : ℕ) (c : C) → slice_get xs k ≡ Some c
    → f c ≤ sum_by f xs
one_of_sum f [] k c at = absurd cc
one_of_sum f (x ∷ xs) zero c at =
    let same : x ≡ c = cc in
    let f_same : f x ≡ f c = ap f same in
    let all = sum_by-cons f x xs in
    omega (arith, f_same, all)
one_of_sum f (x ∷ xs) (suc k) c at =
    let less = one_of_sum f xs k c at in
    let all = sum_by-cons f x xs in
    omega (arith, less, all)

-- the rank of a child is below their number
pub rank_within : (way : Direction) (n k : ℕ) → k < n → rank way n k < n
rank_within Forward n k lt = lt
rank_within Backward n k lt = omega (arith, lt)

sides : (i j : ℕ) → (i < j) ⊎ ((i ≡ j) ⊎ (j < i))
sides i j = grind arith

module _ {C : Type 0} (left : C → Direction → ℕ) (most : C → ℕ)
    (within : (c : C) (way : Direction) → left c way ≤ most c) where
  -- the steps from a child on are within those of the children that a walk has not skipped
  pub left_bound : (xs : List C) (k skipped : ℕ) (way : Direction) (c : C)
      → slice_get xs k ≡ Some c → skipped ≤ rank way (length xs) k
      → left_from left most xs k way (Some c) ≤ (length xs - skipped) * sum_by most xs
  left_bound xs k skipped way c at le =
      let n = length xs in
      let r = rank way n k in
      let lt = rank_within way n k (slice_get_within xs k c at) in
      let a = within c way in
      let b = one_of_sum most xs k c at in
      let d = row_fits (n - r - 1) (sum_by most xs) (n - skipped) (sum_by most xs)
      (omega (arith, lt, le)) (omega arith) in
      omega (arith, a, b, d)

  left_all : (xs : List C) (k : ℕ) (way : Direction) (o : Option C) → slice_get xs k ≡ o
      → left_from left most xs k way o ≤ concatenated_most most xs
  left_all xs k way None at = omega arith
  left_all xs k way (Some c) at =
      let n = length xs in
      let less = left_bound xs k 0 way c at (omega arith) in
      let same : (n - 0) * sum_by most xs ≡ n * sum_by most xs =
      ap (λ (m : ℕ). m * sum_by most xs) (omega arith) in
      omega (arith, less, same)

  -- no more steps are left than from end to end
  pub concatenated_within : (xs : List C) (at : ChildPlace) (way : Direction)
      → concatenated_left left most xs at way ≤ concatenated_most most xs
  concatenated_within xs (place.On k) way = left_all xs k way (slice_get xs k) refl
  concatenated_within xs place.Off way = omega arith
  concatenated_within xs place.Broken way = omega arith

-- ---- entries

-- an entry at a position stays one of a set that has the same entries
pub own_on : (s : Position) (P Q : Entry → Type 0) → IsAlike Q P → IfOn s P → IfOn s Q
own_on (On entry) P Q same here = (same entry).1 here
own_on Off P Q same here = tt
own_on Broken P Q same here = tt

module _ {C : Type 0} (position : C → Position) (xs : List C) (at : ChildPlace)
    (before now : C → Entry → Type 0) (sound sound_now : C → Type 0)
    (stays : (i : ℕ) (c : C) → slice_get xs i ≡ Some c → sound c
    → sound_now c × IsAlike (now c) (before c)) where
  own_there : (at : ChildPlace) → EachChild sound xs → IsOwnEntry before position xs at
      → IsOwnEntry now position xs at
  own_there (place.On k) each own = λ c is.
      own_on (position c) (before c) (now c) (stays k c is (each k c is)).1 (own c is)
  own_there place.Off each own = tt
  own_there place.Broken each own = tt

  -- where its children stay so, the concatenation stays sound
  pub stays_on : IsConcatenation before position sound xs at → IsConcatenation now position
      sound_now xs at
  stays_on whole = record {
    each = λ i c is. (stays i c is (whole.each i c is)).0;
    ordered = λ i j c d a b lt is_c is_d in_c in_d. whole.ordered i j c d a b lt is_c is_d
        (((stays i c is_c (whole.each i c is_c)).1 a).0 in_c)
        (((stays j d is_d (whole.each j d is_d)).1 b).0 in_d);
    own = own_there at whole.each whole.own;
  }

  -- with the same entries
  pub alike_on : EachChild sound xs → IsAlike (UnionHolds now xs) (UnionHolds before xs)
  alike_on each entry = (
    λ h. (h.0, h.1, h.2, ((stays h.0 h.1 h.2 (each h.0 h.1 h.2)).1 entry).0 h.3),
    λ h. (h.0, h.1, h.2, ((stays h.0 h.1 h.2 (each h.0 h.1 h.2)).1 entry).1 h.3),
  )

-- entries that are equal in order are of one child
same_child : {C : Type 0} (holds : C → Entry → Type 0) (xs : List C) → AreConcatenated holds xs
    → (i j : ℕ) (c d : C) (a b : Entry) → slice_get xs i ≡ Some c → slice_get xs j ≡ Some d
    → holds c a → holds d b → entry_cmp a b ≡ Equal → i ≡ j
same_child holds xs ordered i j c d a b is_c is_d in_c in_d same = elim (sides i j) [
  | inl lt ↦ absurd (equal_apart Forward a b same (ordered i j c d a b lt is_c is_d in_c in_d))
  | inr m ↦ elim m [
    | inl is ↦ is
    | inr gt ↦ absurd (equal_apart Forward b a (equal_back a b same)
        (ordered j i d c b a gt is_d is_c in_d in_c))
  ]
]

module _ {C S K : Type 0} {as_is : S → K} {is_intact : K → S → Type 0}
    (holds : K → C → S → Entry → Type 0) (sound : K → C → S → Type 0) (suits : C → S → S → Type 0)
    (keeps : S → S → Type 0) (most : C → ℕ) (left : C → Direction → ℕ) (position : C → Position)
    {makes : Bool → S → S → Type 0}
    (laws : AreCursorLaws as_is is_intact holds sound suits keeps makes left most) where
  apart_all : (meant : K) (xs : List C) (at : ChildPlace) (a : S)
      → IsConcatenation (λ c. holds meant c a) position (λ c. sound meant c a) xs at
      → IsApart (UnionHolds (λ c. holds meant c a) xs)
  apart_all meant xs at a whole p q in_p in_q same =
      let i = same_child (λ c. holds meant c a) xs whole.ordered in_p.0 in_q.0 in_p.1 in_q.1 p q
      in_p.2 in_q.2 in_p.3 in_q.3 same in
      let c : in_p.1 ≡ in_q.1 = one xs in_q.0 in_q.1 in_p.1 in_q.2
      (subst (λ n. slice_get xs n ≡ Some in_p.1) i in_p.2) in
      laws.apart meant in_q.1 a (whole.each in_q.0 in_q.1 in_q.2) p q
      (subst (λ d. holds meant d a p) c in_p.3) in_q.3 same

  -- the laws of a cursor hold of a concatenation
  pub concatenated_laws : {M : Type 0} (children : M → List C) (at : M → ChildPlace)
      → AreCursorLaws {C = M} as_is is_intact (λ w m s. UnionHolds (λ c. holds w c s) (children m))
      (λ w m s. IsConcatenation (λ c. holds w c s) position (λ c. sound w c s) (children m) (at m))
      (λ m a b. EachChild (λ c. suits c a b) (children m)) keeps makes
      (λ m. concatenated_left left most (children m) (at m))
      (λ m. concatenated_most most (children m))
  concatenated_laws children at = record {
    itself = laws.itself;
    through = laws.through;
    makes_itself = laws.makes_itself;
    makes_through = laws.makes_through;
    lasts = laws.lasts;
    whole = laws.whole;
    stays = λ w m a b k whole. (
        let stay : (i : ℕ) (c : C) → slice_get (children m) i ≡ Some c → sound w c a
        → sound w c b × IsAlike (holds w c b) (holds w c a) =
        λ i c is had. let it = laws.stays w c a b k had in (it.0, it.1) in (
          stays_on position (children m) (at m) (λ c. holds w c a) (λ c. holds w c b)
              (λ c. sound w c a) (λ c. sound w c b) stay whole,
          alike_on position (children m) (at m) (λ c. holds w c a) (λ c. holds w c b)
              (λ c. sound w c a) (λ c. sound w c b) stay whole.each,
          λ v z all. all,
        ));
    suited = λ w m a b all whole. (
        let stay : (i : ℕ) (c : C) → slice_get (children m) i ≡ Some c → sound w c a
        → sound w c b × IsAlike (holds w c b) (holds w c a) =
        λ i c is had. let it = laws.suited w c a b (all i c is) had in (it.0, it.1) in (
          stays_on position (children m) (at m) (λ c. holds w c a) (λ c. holds w c b)
              (λ c. sound w c a) (λ c. sound w c b) stay whole,
          alike_on position (children m) (at m) (λ c. holds w c a) (λ c. holds w c b)
              (λ c. sound w c a) (λ c. sound w c b) stay whole.each,
          λ v z has. has,
        ));
    apart = λ w m a whole. apart_all w (children m) (at m) a whole;
    within = λ m way. concatenated_within left most laws.within (children m) (at m) way;
  }

-- ---- the entry of a concatenation

module _ {C : Type 0} (position : C → Position)
    (fits : (c : C) → IfOn (position c) IsTableEntry) where
  child_fits : (o : Option C) → IfOn (child_position position o) IsTableEntry
  child_fits None = tt
  child_fits (Some c) = fits c

  -- the one on which they stand together keeps its limits
  pub concatenated_fits : (xs : List C) (at : ChildPlace)
      → IfOn (concatenated_position position xs at) IsTableEntry
  concatenated_fits xs (place.On k) = child_fits (slice_get xs k)
  concatenated_fits xs place.Off = tt
  concatenated_fits xs place.Broken = tt
