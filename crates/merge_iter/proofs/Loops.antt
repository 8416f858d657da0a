-- What a loop over the children keeps.
use Rattle.std.proofs.Common.{◌≡◌, ◌<◌, ◌≤◌, ◌+◌, ℕ, ◌⊎◌, inl, inr, refl, sym, ◌∙◌, ap, subst, zero}
use Rattle.std.proofs.Common.{suc}
use Rattle.std.proofs.Common.{List, [], ◌∷◌, slice_set, Some, None, Result, Ok, Err, OnOk, arith}
use Rattle.std.proofs.Common.{length-set}
use Rattle.std.specs.List.{slice_get, sum_by}
use Rattle.std.proofs.lemmas.List.Sums.{sum_by-cons}
use Rattle.merge_iter.specs.declared.direction.Direction.{Direction}
use Rattle.merge_iter.specs.declared.error.CursorError.{CursorError}
use Rattle.kv_types.specs.{Entry}
use Rattle.merge_iter.specs.Order.{EntryPrecedes}
use Rattle.merge_iter.specs.Positions.{Position, On, Off, Broken, IsOn, IsBroken, IsFirst, IfOn}
use Rattle.merge_iter.specs.Positions.{WalkStart, At, After, WalkMeets}
use Rattle.merge_iter.specs.Merging.{EachChild, ChildrenKeep, ChildrenAreFirst, AreApart}
use Rattle.merge_iter.specs.Merging.{left_along, merged_most}
use Rattle.merge_iter.specs.declared.direction.Direction.TheVariants.{Forward, Backward}
use Rattle.disk.specs.{RisesByOne}
use Rattle.merge_iter.specs.Moves.{EntriesStay, MoveKeeps, MoveFinds, ErrorCauses, IsLawful}
use Rattle.merge_iter.proofs.Merges.{get_set, past_others}
use Rattle.merge_iter.specs.Unions.{one, stays_same, stays_through, all_sound, first_kept}

-- a sum after one term was changed
pub sum_set : {C : Type 0} (f : C → ℕ) (xs : List C) (i : ℕ) (x v : C) → slice_get xs i ≡ Some x
    → sum_by f (slice_set xs i v) + f x ≡ sum_by f xs + f v
sum_set f [] i x v e = absurd (let h : None ≡ Some x = e in cc)
sum_set f (y ∷ xs) zero x v e =
    let h : Some y ≡ Some x = e in
    let s : y ≡ x = cc in
    let t : f y ≡ f x = ap f s in
    let a = sum_by-cons f y xs in
    let b : sum_by f (slice_set (y ∷ xs) zero v) ≡ f v + sum_by f xs = sum_by-cons f v xs in
    omega (arith, a, b, t)
sum_set f (y ∷ xs) (suc i) x v e =
    let h = sum_set f xs i x v e in
    let a = sum_by-cons f y xs in
    let b : sum_by f (slice_set (y ∷ xs) (suc i) v) ≡ f y + sum_by f (slice_set xs i v) =
    sum_by-cons f y (slice_set xs i v) in
    omega (arith, h, a, b)

up_to : (j i : ℕ) → j < i + 1 → (j < i) ⊎ (j ≡ i)
up_to j i l = grind arith

module _ {C S : Type 0} (holds : C → S → Entry → Type 0) (sound : C → S → Type 0) (suits : C → S → S
    → Type 0)
    (keeps : S → S → Type 0) (left : C → Direction → ℕ) (most : C → ℕ) where
  -- the first i children were moved
  pub record Passed (i : ℕ) (old : List C) (before : S) (new : List C) (now : S) : Type 0 where
    pub moved : ChildrenKeep holds sound suits keeps most old before new now
    pub rest : (j : ℕ) (c : C) → i ≤ j → slice_get new j ≡ Some c → slice_get old j ≡ Some c

  pub none_moved : IsLawful holds sound suits keeps left most → (old : List C) (before : S)
      → ChildrenKeep
      holds sound suits keeps most old before old before
  none_moved laws old before = record {
    source = laws.itself before;
    len = refl;
    size = refl;
    each = λ i c d p q. subst (λ x. EntriesStay holds sound suits c before x before)
        (sym (one old i c d p q)) (stays_same holds sound suits c before);
  }

  pub begins : IsLawful holds sound suits keeps left most → (old : List C) (before : S)
      → Passed 0 old
      before old before
  begins laws old before = record { moved = none_moved laws old before; rest = λ j c l h. h }

  pub move_one : IsLawful holds sound suits keeps left most
      → (old new : List C) (before now later : S)
      (i : ℕ) (x v : C) → slice_get new i ≡ Some x
      → ChildrenKeep holds sound suits keeps most old before new now
      → MoveKeeps holds sound suits keeps most x
      now v later → ChildrenKeep holds sound suits keeps most old before (slice_set new i v) later
  move_one laws old new before now later i x v at m step = record {
    source = laws.through before now later m.source step.source;
    len = length-set new i v ∙ m.len;
    size = let s = sum_set most new i x v at in let t = step.size in let u = m.size in
        omega (arith, s, t, u);
    each = λ j a b p e. elim (get_set new i v j b e) [
      | inl z ↦
          let q : slice_get old i ≡ Some a = subst (λ k. slice_get old k ≡ Some a) z.0 p in
          subst (λ y. EntriesStay holds sound suits a before y later) (sym z.1)
          (stays_through holds sound suits a x v before now later (m.each i a x q at) step.stays)
      | inr q ↦ stays_through holds sound suits a b b before now later (m.each j a b p q.1)
          (laws.stays b now later step.source)
    ];
  }

  pub passes : IsLawful holds sound suits keeps left most
      → (old new : List C) (before now later : S)
      (i : ℕ) (x v : C) → slice_get new i ≡ Some x
      → Passed i old before new now → MoveKeeps holds sound suits keeps most x now v later
      → Passed (i + 1) old before (slice_set new i v) later
  passes laws old new before now later i x v at p step = record {
    moved = move_one laws old new before now later i x v at p.moved step;
    rest = λ j c l e. elim (get_set new i v j c e) [
      | inl z ↦ absurd (let q : j ≡ i = z.0 in omega arith)
      | inr q ↦ p.rest j c (omega arith) q.1
    ];
  }

  module _ (position : C → Position) where
    -- the first i children stand where they are wanted
    abbrev pub Brought : Direction → WalkStart → Type 0 → ℕ → List C → S → Type 0
    Brought way start Given i new now = Given → (j : ℕ) (c : C) → j < i → slice_get new j ≡ Some c
        → IsFirst way (λ p. holds c now p × WalkMeets way start p) (position c)

    pub brings : IsLawful holds sound suits keeps left most → (way : Direction) (start : WalkStart)
        (Given : Type 0) (old new : List C) (before now later : S) (i : ℕ) (x v : C)
        (r : Result (Unit {0}) CursorError) → slice_get new i ≡ Some x
        → ChildrenKeep holds sound suits keeps most old before new now
        → MoveKeeps holds sound suits keeps most
        x now v later → r ≡ Ok tt
        → (Given → EachChild (λ c. sound c before) old)
        → (Given → sound x now → MoveFinds way start (holds x now) r (position v))
        → Brought way start Given i new now → Brought way start Given (i + 1) (slice_set new i v)
        later
    brings laws way start Given old new before now later i x v r at m step ok each finds done given
        j c l e =
        let all = all_sound holds sound suits keeps most old new before now m (each given) in
        elim (get_set new i v j c e) [
          | inl z ↦
              let here : IsFirst way (λ p. holds x now p × WalkMeets way start p) (position v) =
              subst (λ (q : Result (Unit {0}) CursorError). MoveFinds way start (holds x now) q
              (position v)) ok (finds given (all i x at)) in
              subst (λ y. IsFirst way (λ p. holds y later p × WalkMeets way start p) (position y))
              (sym z.1)
              (first_kept way start (position v) (holds x now) (holds v later)
              (step.stays (all i x at)).1 here)
          | inr q ↦ elim (up_to j i l) [
            | inl k ↦ first_kept way start (position c) (holds c now) (holds c later)
                (laws.stays c now later step.source (all j c q.1)).1 (done given j c k q.1)
            | inr k ↦ absurd (q.0 k)
          ]
        ]

    -- one step of child k, on an entry that no other child holds, brings all past the entry
    pub stepped : IsLawful holds sound suits keeps left most → (way : Direction) (xs : List C)
        (before later : S) (k : ℕ) (y x v : C) (entry : Entry) (r : Result (Unit {0}) CursorError)
        → slice_get xs k ≡ Some x → slice_get xs k ≡ Some y → position y ≡ On entry
        → AreApart (λ c. holds c before) xs → EachChild (λ c. sound c before) xs → ChildrenAreFirst
        (λ c. holds c before) position way (At entry) xs
        → MoveKeeps holds sound suits keeps most x before v later → IfOn (position x)
        (λ q. MoveFinds way (After q) (holds x before) r (position v))
        → OnOk r (ChildrenAreFirst (λ c. holds c later) position way (After entry)
        (slice_set xs k v))
    stepped laws way xs before later k y x v entry (Err e) at aty on apart each first step finds =
        tt
    stepped laws way xs before later k y x v entry (Ok u) at aty on apart each first step finds =
        let onx : position x ≡ On entry = ap position (one xs k y x aty at) ∙ on in
        let here : IsFirst way (λ p. holds x before p × (EntryPrecedes way p entry → ⊥))
        (On entry) = subst (λ s. IsFirst way (λ p. holds x before p
        × (EntryPrecedes way p entry → ⊥)) s) onx (first k x at) in
        let next : IsFirst way (λ p. holds x before p × EntryPrecedes way entry p) (position v) =
        subst (λ s. IfOn s (λ q. MoveFinds {R = Unit {0}} way (After q) (holds x before) (Ok u)
        (position v))) onx finds in
        λ j c e. elim (get_set xs k v j c e) [
          | inl z ↦ subst (λ w. IsFirst way (λ p. holds w later p × EntryPrecedes way entry p)
              (position w)) (sym z.1)
              (first_kept way (After entry) (position v) (holds x before) (holds v later)
              (step.stays (each k x at)).1 next)
          | inr q ↦ first_kept way (After entry) (position c) (holds c before) (holds c later)
              (laws.stays c before later step.source (each j c q.1)).1
              (past_others way (holds c before) entry (position c)
              (λ p h eq. q.0 (apart j k c x p entry q.1 at h here.0.0 eq)) (first j c q.1))
        ]

-- a step from an entry
pub tells_on : {A : Type 0} (S T : Type 0) (s : Position) (f h : ℕ)
    (r : Result (Unit {0}) CursorError) → IsOn s → (T → S) → ErrorCauses S (IsBroken s) A f h r
    → ErrorCauses T ⊥ A f h r
tells_on S T (On entry) f h r on to t = record {
  disk = t.disk;
  others = t.others;
  damaged =
      λ i s. t.damaged i (to s);
  memory = t.memory;
  failed = t.failed;
}
tells_on S T Off f h r on to t = absurd on
tells_on S T Broken f h r on to t = absurd on

-- a refusal after calls in which nothing failed
pub tells_from : {A : Type 0} (S T : Type 0) (f g h : ℕ) (r : Result (Unit {0}) CursorError) → g ≡ f
    → (T → S) → ErrorCauses S ⊥ A g h r → ErrorCauses T ⊥ A f h r
tells_from S T f g h r e to t = record {
  disk = λ i. subst (λ x. RisesByOne x h) e (t.disk i);
  others = λ i. t.others i ∙ e;
  damaged = λ i s. t.damaged i (to s);
  memory = t.memory;
  failed = t.failed;
}

pub always_ok : {P : Type 0} (r : Result (Unit {0}) CursorError) → P → OnOk r P
always_ok (Ok u) p = p
always_ok (Err e) p = tt

-- the steps left ahead, and those left when the children stand ahead the other way
module _ {C : Type 0} (left : C → Direction → ℕ) (most : C → ℕ) where
  -- a step of one child leaves fewer
  pub fewer : (way : Direction) (xs : List C) (k : ℕ) (x v : C) (r : Result (Unit {0}) CursorError)
      → slice_get xs k ≡ Some x → OnOk r (left v way < left x way)
      → OnOk r (sum_by (λ c. left c way) (slice_set xs k v) < left_along left most xs way way)
  fewer way xs k x v (Err e) at less = tt
  fewer Forward xs k x v (Ok u) at less =
      let s = sum_set (λ c. left c Forward) xs k x v at in omega (arith, s, less)
  fewer Backward xs k x v (Ok u) at less =
      let s = sum_set (λ c. left c Backward) xs k x v at in omega (arith, s, less)

  pub across : (was way : Direction) (xs : List C) → (was ≡ way → ⊥) → left_along left most xs was
      way ≡ merged_most most xs
  across Forward Forward xs e = absurd (e refl)
  across Forward Backward xs e = refl
  across Backward Forward xs e = refl
  across Backward Backward xs e = absurd (e refl)
