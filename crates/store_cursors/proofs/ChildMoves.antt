-- What moves of the children of a concatenation keep, and what they find.
use Rattle.std.proofs.Common.{◌≡◌, ◌<◌, ◌≤◌, ◌+◌, ◌-◌, ◌⊎◌, inl, inr, ℕ, zero, suc, refl, sym}
use Rattle.std.proofs.Common.{◌∙◌, ap, subst, List, [], ◌∷◌, slice_set, Some, None, Result}
use Rattle.std.proofs.Common.{arith, length, length-set, ◌/◌}
use Rattle.std.specs.List.{slice_get, sum_by}
use Rattle.std.proofs.lemmas.List.Sums.{sum_by-cons}
use Rattle.std.proofs.lemmas.Option.{slice_get_within}
use Rattle.disk.specs.{RisesByOne}
use Rattle.byte_fields.specs.{StoredKey}
use Rattle.kv_types.specs.{Entry}
use Rattle.merge_iter.specs.{Broken, EntriesStay, EntryPrecedes, ErrorCauses, IfOn, IsAlike}
use Rattle.merge_iter.specs.{IsFirst, IsLawful, IsOn, MoveKeeps, Off, On, Position}
use Rattle.merge_iter.specs.{UnionHolds, WalkMeets, WalkStart, chain, never, spot}
use Rattle.sorted_table.specs.{EndsBefore}
use Rattle.merge_iter.specs.Merging.{ChildrenKeep}
use Rattle.merge_iter.specs.Unions.{one, same_first, stays_same, stays_through, there}
use Rattle.merge_iter.specs.declared.CursorError.{CursorError}
use Rattle.merge_iter.specs.declared.Direction.{Direction}
use Rattle.merge_iter.specs.declared.Direction.TheVariants.{Forward, Backward}
use Rattle.store_cursors.specs.Concatenation.{AreConcatenated, NoneMet, rank}
use Rattle.store_cursors.specs.ConcatenationLaws.{rank_within}

-- ---- one child of several

-- a sum after one term was changed
sum_set : {C : Type 0} (f : C → ℕ) (xs : List C) (i : ℕ) (x v : C) → slice_get xs i ≡ Some x
    → sum_by f (slice_set xs i v) + f x ≡ sum_by f xs + f v
sum_set f [] i x v e = absurd (let h : None ≡ Some x = e in cc)
sum_set f (y ∷ xs) zero x v e =
    let h : Some y ≡ Some x = e in
    let s : y ≡ x = cc in
    let t : f y ≡ f x = ap f s in
    let a = sum_by-cons f y xs in
    let b : sum_by f (slice_set (y ∷ xs) zero v) ≡ f v + sum_by f xs = sum_by-cons f v xs in
    omega (arith, a, b, t)
sum_set f (y ∷ xs) (suc i) x v e =
    let h = sum_set f xs i x v e in
    let a = sum_by-cons f y xs in
    let b : sum_by f (slice_set (y ∷ xs) (suc i) v) ≡ f y + sum_by f (slice_set xs i v) =
    sum_by-cons f y (slice_set xs i v) in
    omega (arith, h, a, b)

-- what stands where one element was set
get_set : {C : Type 0} (xs : List C) (i : ℕ) (v : C) (j : ℕ) (c : C) → slice_get
    (slice_set xs i v) j ≡ Some c → ((j ≡ i) × (c ≡ v)) ⊎ ((j ≡ i → ⊥) × (slice_get xs j ≡ Some c))
get_set [] i v j c e = absurd (let h : None ≡ Some c = e in cc)
get_set (x ∷ xs) zero v zero c e = inl (refl, cc)
get_set (x ∷ xs) zero v (suc j) c e = inr ((λ z. omega arith), e)
get_set (x ∷ xs) (suc i) v zero c e = inr ((λ z. omega arith), e)
get_set (x ∷ xs) (suc i) v (suc j) c e = elim (get_set xs i v j c e)
    [ inl p ↦ inl (ap suc p.0, p.1) | inr q ↦ inr ((λ z. q.0 (omega arith)), q.1) ]

-- the one that was set
pub set_there : {C : Type 0} (xs : List C) (i : ℕ) (x v : C) → slice_get xs i ≡ Some x
    → slice_get (slice_set xs i v) i ≡ Some v
set_there [] i x v e = absurd (let h : None ≡ Some x = e in cc)
set_there (y ∷ xs) zero x v e = refl
set_there (y ∷ xs) (suc i) x v e = set_there xs i x v e

module _ {C S : Type 0} (holds : C → S → Entry → Type 0) (sound : C → S → Type 0)
    (suits : C → S → S → Type 0) (keeps : S → S → Type 0) (left : C → Direction → ℕ)
    (most : C → ℕ) where
  -- no child was moved
  pub keep_none : IsLawful holds sound suits keeps left most → (old : List C) (before : S)
      → ChildrenKeep holds sound suits keeps most old before old before
  keep_none laws old before = record {
    source = laws.itself before;
    len = refl;
    size = refl;
    each = λ i c d p q. subst (λ x. EntriesStay holds sound suits c before x before)
        (sym (one old i c d p q)) (stays_same holds sound suits c before);
  }

  -- one child more was moved
  pub keep_one : IsLawful holds sound suits keeps left most
      → (old new : List C) (before now later : S) (i : ℕ) (x v : C) → slice_get new i ≡ Some x
      → ChildrenKeep holds sound suits keeps most old before new now
      → MoveKeeps holds sound suits keeps most x now v later
      → ChildrenKeep holds sound suits keeps most old before (slice_set new i v) later
  keep_one laws old new before now later i x v at m step = record {
    source = laws.through before now later m.source step.source;
    len = length-set new i v ∙ m.len;
    size = let s = sum_set most new i x v at in let t = step.size in let u = m.size in
        omega (arith, s, t, u);
    each = λ j a b p e. elim (get_set new i v j b e) [
      | inl z ↦
          let q : slice_get old i ≡ Some a = subst (λ k. slice_get old k ≡ Some a) z.0 p in
          subst (λ y. EntriesStay holds sound suits a before y later) (sym z.1)
          (stays_through holds sound suits a x v before now later (m.each i a x q at) step.stays)
      | inr q ↦ stays_through holds sound suits a b b before now later (m.each j a b p q.1)
          (laws.stays b now later step.source)
    ];
  }

  -- children were moved twice
  pub keep_through : IsLawful holds sound suits keeps left most → (old mid new : List C)
      (before then now : S) → ChildrenKeep holds sound suits keeps most old before mid then
      → ChildrenKeep holds sound suits keeps most mid then new now
      → ChildrenKeep holds sound suits keeps most old before new now
  keep_through laws old mid new before then now m n = record {
    source = laws.through before then now m.source n.source;
    len = n.len ∙ m.len;
    size = n.size ∙ m.size;
    each = λ i c e p q.
        let d = there mid new i e n.len q in
        stays_through holds sound suits c d.0 e before then now (m.each i c d.0 p d.1)
        (n.each i d.0 e d.1 q);
  }

-- ---- refusals

-- a refusal after moves in which nothing failed
pub tells_from : {R A B : Type 0} (S T : Type 0) (f g h : ℕ) (r : Result R CursorError) → g ≡ f
    → (T → S) → ErrorCauses S B A g h r → ErrorCauses T B A f h r
tells_from S T f g h r e to t = record {
  disk = λ i. subst (λ x. RisesByOne x h) e (t.disk i);
  others = λ i. t.others i ∙ e;
  damaged = λ i s. t.damaged i (to s);
  memory = t.memory;
  failed = t.failed;
}

-- ---- the first entry

-- a child is behind another in a walk, or that one, or ahead of it
beside : (way : Direction) (n i k : ℕ) → i < n → k < n → (rank way n i < rank way n k)
    ⊎ ((i ≡ k) ⊎ (rank way n k < rank way n i))
beside Forward n i k lt_i lt_k = grind arith
beside Backward n i k lt_i lt_k = grind (arith, lt_i, lt_k)

-- entries of a child come before those of the children ahead of it
pub in_way : {C : Type 0} (holds : C → Entry → Type 0) (xs : List C) → AreConcatenated holds xs
    → (way : Direction) (i j : ℕ) (c d : C) (a b : Entry) → slice_get xs i ≡ Some c
    → slice_get xs j ≡ Some d → rank way (length xs) i < rank way (length xs) j → holds c a
    → holds d b → EntryPrecedes way a b
in_way holds xs ordered Forward i j c d a b is_c is_d lt in_c in_d =
    ordered i j c d a b lt is_c is_d in_c in_d
in_way holds xs ordered Backward i j c d a b is_c is_d lt in_c in_d =
    let within = slice_get_within xs j d is_d in
    ordered j i d c b a (omega (arith, lt, within)) is_d is_c in_d in_c

module _ {C : Type 0} (H : C → Entry → Type 0) (xs : List C) (way : Direction)
    (from : WalkStart) (k : ℕ) (c : C) (is_c : slice_get xs k ≡ Some c) where
  -- where a walk meets nothing of the children behind, what it meets first of a child it meets
  -- first
  first_of : AreConcatenated H xs → NoneMet H way from (rank way (length xs) k) xs → (e : Entry)
      → IsFirst way (λ p. H c p × WalkMeets way from p) (On e)
      → IsFirst way (λ p. UnionHolds H xs p × WalkMeets way from p) (On e)
  first_of ordered none e first = (
    ((k, c, is_c, first.0.0), first.0.1),
    λ other met precedes.
        let j = met.0.0 in
        let d = met.0.1 in
        let is_d = met.0.2 in
        let in_d = met.0.3 in
        elim (beside way (length xs) j k (slice_get_within xs j d is_d)
        (slice_get_within xs k c is_c)) [
          | inl behind ↦ none j d other is_d behind in_d met.1
          | inr more ↦ elim more [
            | inl same ↦
                let is : c ≡ d = one xs k d c
                (subst (λ (i : ℕ). slice_get xs i ≡ Some d) same is_d) is_c in
                first.1 other (subst (λ (x : C). H x other) (sym is) in_d, met.1) precedes
            | inr ahead ↦ never way e (chain way e other e
                (in_way H xs ordered way k j c d e other is_c is_d ahead first.0.0 in_d) precedes)
          ]
        ],
  )

  -- where it stands on one
  pub found_first : AreConcatenated H xs → NoneMet H way from (rank way (length xs) k) xs
      → (s : Position) → IsOn s → IsFirst way (λ p. H c p × WalkMeets way from p) s
      → IsFirst way (λ p. UnionHolds H xs p × WalkMeets way from p) s × IfOn s (H c)
  found_first ordered none (On e) on first = (first_of ordered none e first, first.0.0)
  found_first ordered none Off on first = absurd on
  found_first ordered none Broken on first = absurd on

  none_here : (s : Position) → (IsOn s → ⊥) → IsFirst way (λ p. H c p × WalkMeets way from p) s
      → (p : Entry) → H c p → WalkMeets way from p → ⊥
  none_here (On e) off first p held meets = off tt
  none_here Off off first p held meets = first p (held, meets)
  none_here Broken off first p held meets = first

  -- and where it stands on none, it meets nothing of this child either
  pub none_met : NoneMet H way from (rank way (length xs) k) xs → (s : Position) → (IsOn s → ⊥)
      → IsFirst way (λ p. H c p × WalkMeets way from p) s
      → NoneMet H way from (rank way (length xs) k + 1) xs
  none_met none s off first i d entry is_d lt held meets =
      elim (beside way (length xs) i k (slice_get_within xs i d is_d)
      (slice_get_within xs k c is_c)) [
        | inl behind ↦ none i d entry is_d behind held meets
        | inr more ↦ elim more [
          | inl same ↦
              let is : c ≡ d = one xs k d c
              (subst (λ (i : ℕ). slice_get xs i ≡ Some d) same is_d) is_c in
              none_here s off first entry (subst (λ (x : C). H x entry) (sym is) held) meets
          | inr ahead ↦ absurd (omega (arith, lt, ahead))
        ]
      ]

-- where a walk has skipped all children, it meets nothing
pub all_skipped : {C : Type 0} (H : C → Entry → Type 0) (xs : List C) (way : Direction)
    (from : WalkStart) (skipped : ℕ) → length xs ≤ skipped → NoneMet H way from skipped xs
    → IsFirst way (λ p. UnionHolds H xs p × WalkMeets way from p) Off
all_skipped H xs way from skipped le none p met =
    let within = slice_get_within xs met.0.0 met.0.1 met.0.2 in
    let lt = rank_within way (length xs) met.0.0 within in
    none met.0.0 met.0.1 p met.0.2 (omega (arith, lt, le)) met.0.3 met.1

-- the first entry that one walk meets of a child is that of another that meets its entries alike
pub first_alike : (way : Direction) (from other : WalkStart) (P Q : Entry → Type 0)
    (s : Position) → IsAlike P Q → ((p : Entry) → Q p → (WalkMeets way from p
    → WalkMeets way other p) × (WalkMeets way other p → WalkMeets way from p))
    → IsFirst way (λ p. P p × WalkMeets way from p) s
    → IsFirst way (λ p. Q p × WalkMeets way other p) s
first_alike way from other P Q s same meets =
    same_first way (λ p. P p × WalkMeets way from p) (λ p. Q p × WalkMeets way other p) s
    (λ p. (
      λ h. let held = (same p).0 h.0 in (held, (meets p held).0 h.1),
      λ h. ((same p).1 h.0, (meets p h.0).1 h.1),
    ))

-- ---- searches by halves

up_to : (i mid : ℕ) → i < mid + 1 → (i < mid) ⊎ (i ≡ mid)
up_to i mid lt = grind arith

-- the middle is below the upper bound
pub half : (low high : ℕ) → low < high → low + (high - low) / 2 < high
half low high lt = omega (arith, lt)

-- children in front of one that ends before the key do so too
pub ended_more : {C : Type 0} (H : C → Entry → Type 0) (xs : List C) → AreConcatenated H xs
    → (key : StoredKey) (mid : ℕ) (x : C) → slice_get xs mid ≡ Some x → EndsBefore (H x) key
    → (i : ℕ) (c : C) → i < mid + 1 → slice_get xs i ≡ Some c → (entry : Entry) → H c entry
    → (number : ℕ) → EntryPrecedes Forward entry (spot key number)
ended_more H xs ordered key mid x at ends i c lt is entry held number =
    elim (up_to i mid lt) [
      | inl less ↦ chain Forward entry ends.some (spot key number)
          (ordered i mid c x entry ends.some less is at held ends.held)
          (ends.each ends.some ends.held number)
      | inr same ↦
          let eq : x ≡ c = one xs mid c x (subst (λ n. slice_get xs n ≡ Some c) same is) at in
          ends.each entry (subst (λ (y : _). H y entry) (sym eq) held) number
    ]
