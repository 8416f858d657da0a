-- From moves of the children to those of their union.
use Rattle.std.proofs.Common.{◌≡◌, ◌+◌, ℕ, ap, ◌∙◌, refl, subst, inl, inr, length, get_or, List}
use Rattle.std.proofs.Common.{Option, Some, Result}
use Rattle.std.specs.List.{slice_get}
use Rattle.merge_iter.specs.declared.direction.Direction.{Direction}
use Rattle.merge_iter.specs.declared.error.CursorError.{CursorError}
use Rattle.merge_iter.specs.declared.place.Place.{Place}
use Rattle.merge_iter.specs.declared.place.Place.TheVariants as place
use Rattle.std.proofs.lemmas.Option.{slice_get_cases, slice_get_read}
use Rattle.kv_types.specs.{Entry}
use Rattle.merge_iter.specs.Order.{IsAlike}
use Rattle.merge_iter.specs.Positions.{Position, On, Off, Broken, IsOn, IsBroken, IsFirst}
use Rattle.merge_iter.specs.Positions.{WalkStart, WalkMeets}
use Rattle.merge_iter.specs.Merging.{EachChild, ChildrenKeep, UnionHolds, IsPlaced, IsMerge}
use Rattle.merge_iter.specs.Merging.{merged_most, child_position, union_position}
use Rattle.merge_iter.specs.Moves.{MoveKeeps, ErrorCauses, CanStep}
use Rattle.merge_iter.specs.Unions.{all_sound, children_apart, all_suited, any_alike, first_kept}

-- a refusal to a union that stood on an entry
pub tells_merged : {A : Type 0} (S T : Type 0) (s : Position) (f h : ℕ)
    (r : Result (Unit {0}) CursorError) → IsOn s → (T → S) → ErrorCauses S ⊥ A f h r
    → ErrorCauses T (IsBroken s) A f h r
tells_merged S T (On entry) f h r on to t = record {
  disk = t.disk;
  others = t.others;
  damaged =
      λ i s. t.damaged i (to s);
  memory = t.memory;
  failed = t.failed;
}
tells_merged S T Off f h r on to t = absurd on
tells_merged S T Broken f h r on to t = absurd on

-- the child that the union stands on, where it can step
pub child_at : {C : Type 0} (position : C → Position) (xs : List C) (at : Place) (was : Direction)
    (k : ℕ) (second : Option ℕ) (x : C) → at ≡ place.On was k second
    → CanStep (union_position position xs at) → x ≡ get_or xs k x
    → (slice_get xs k ≡ Some x) × (union_position position xs at ≡ position x)
child_at position xs at was k second x e can is =
    let h : CanStep (child_position position (slice_get xs k)) =
    subst (λ p. CanStep (union_position position xs p)) e can in
    elim (slice_get_cases xs k).1 [
      | inl (y, within, found, at_) ↦
          let f = slice_get_read xs (length xs) k x refl within is in
          (f, ap (union_position position xs) e ∙ ap (child_position position) f)
      | inr (past, none) ↦ absurd (subst (λ o. CanStep (child_position position o)) none h)
    ]

flip : (P Q : Entry → Type 0) → IsAlike P Q → IsAlike Q P
flip P Q same entry = ((same entry).1, (same entry).0)

module _ {C S : Type 0} (holds : C → S → Entry → Type 0) (sound : C → S → Type 0) (suits : C → S → S
    → Type 0)
    (keeps : S → S → Type 0) (most : C → ℕ) (position : C → Position) where
  pub merge_after : (old new : List C) (before now : S) (was at : Place)
      → ChildrenKeep holds sound suits
      keeps most old before new now → IsPlaced (λ c. holds c now) position new at
      → IsMerge (λ c. holds c before) position (λ c. sound c before) old was
      → IsMerge (λ c. holds c now) position (λ c. sound c now) new at
  merge_after old new before now was at m placed merge = record {
    each = all_sound holds sound suits keeps most old new before now m merge.each;
    apart = children_apart holds sound suits keeps most old new before now m merge.each merge.apart;
    placed = placed;
  }

  pub finds_after : (old new : List C) (before now : S)
      → ChildrenKeep holds sound suits keeps most old
      before new now → EachChild (λ c. sound c before) old
      → (way : Direction) (start : WalkStart) (s : Position) → IsFirst way
      (λ p. UnionHolds (λ c. holds c now) new p × WalkMeets way start p) s → IsFirst way
      (λ p. UnionHolds (λ c. holds c before) old p × WalkMeets way start p) s
  finds_after old new before now m each way start s =
      first_kept way start s (UnionHolds (λ c. holds c now) new)
      (UnionHolds (λ c. holds c before) old)
      (flip _ _ (any_alike holds sound suits keeps most old new before now m each))

  -- what a move of the union keeps
  pub union_moves : {M : Type 0} (children : M → List C) (at : M → Place) (old new : M)
      (before now : S) → ChildrenKeep holds sound suits keeps most (children old) before
      (children new)
      now
      → (IsMerge (λ c. holds c before) position (λ c. sound c before) (children old) (at old)
      → IsMerge (λ c. holds c now) position (λ c. sound c now) (children new) (at new))
      → MoveKeeps {C = M} (λ m s. UnionHolds (λ c. holds c s) (children m))
      (λ m s. IsMerge (λ c. holds c s) position (λ c. sound c s) (children m) (at m))
      (λ m a b. EachChild (λ c. suits c a b) (children m)) keeps
      (λ m. merged_most most (children m)) old before new now
  union_moves children at old new before now m sound_after = record {
    source = m.source;
    stays = λ merge. (
      sound_after merge,
      any_alike holds sound suits keeps most (children old)
          (children new) before now m merge.each,
      all_suited holds sound suits keeps most (children old)
          (children new) before now m merge.each,
    );
    size = ap (λ n. n + 1) m.size;
  }
