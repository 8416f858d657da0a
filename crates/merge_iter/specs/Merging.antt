-- Cursors side by side: the entries that they hold together, and where their union stands.
use Rattle.std.specs.Prelude.{◌≡◌, ◌↔◌, ℕ, ◌+◌, ◌<◌, List, length, Option, Some, None}
use Rattle.std.specs.List.{slice_get, sum_by}
use Rattle.std.specs.declared.cmp.Ordering.TheVariants.{Equal}
use Rattle.merge_iter.specs.declared.direction.Direction.{Direction}
use Rattle.merge_iter.specs.declared.direction.Direction.TheVariants.{Forward, Backward}
use Rattle.merge_iter.specs.declared.place.Place.{Place}
use Rattle.merge_iter.specs.declared.place.Place.TheVariants as place
use Rattle.kv_types.specs.{Entry}
use Rattle.merge_iter.specs.Order.{entry_cmp, EntryPrecedes}
use Rattle.merge_iter.specs.Positions.{Position, On, Off, Broken, WalkStart, At, WalkMeets}
use Rattle.merge_iter.specs.Positions.{IsFirst, IsOn}
use Rattle.merge_iter.specs.Moves.{EntriesStay}

-- one direction is the other turned round
abbrev pub IsOpposite : Direction → Direction → Type 0
IsOpposite one other = (a b : Entry) → EntryPrecedes one a b ↔ EntryPrecedes other b a

module _ {C : Type 0} where
  -- this is true of each child
  abbrev pub EachChild : (C → Type 0) → List C → Type 0
  EachChild P children = (i : ℕ) (c : C) → slice_get children i ≡ Some c → P c

  -- one of the children holds the entry
  abbrev pub UnionHolds : (C → Entry → Type 0) → List C → Entry → Type 0
  UnionHolds holds children entry =
      (i : ℕ) × (c : C) × (slice_get children i ≡ Some c) × holds c entry

  -- no two children hold entries of one key and number
  abbrev pub AreApart : (C → Entry → Type 0) → List C → Type 0
  AreApart holds children =
      (i j : ℕ) (c d : C) (a b : Entry) → slice_get children i ≡ Some c →
      slice_get children j ≡ Some d → holds c a → holds d b → entry_cmp a b ≡ Equal → i ≡ j

  -- of the first n children without one, child k stands on the entry that is met first
  pub record IsBest (position : C → Position) (way : Direction) (children : List C) (but n k : ℕ)
      : Type 0 where
    pub within : k < length children
    pub apart : k ≡ but → ⊥
    pub child : C
    pub entry : Entry
    pub found : slice_get children k ≡ Some child
    pub on : position child ≡ On entry
    pub best : (j : ℕ) (d : C) (q : Entry) → j < n → (j ≡ but → ⊥) →
        slice_get children j ≡ Some d → position d ≡ On q → EntryPrecedes way q entry → ⊥

  -- the child of the first n without one whose entry is met first; none where none stands on an
  -- entry
  abbrev pub IsNearest : (C → Position) → Direction → List C → ℕ → ℕ → Option ℕ → Type 0
  IsNearest position way children but n None =
      (j : ℕ) (d : C) → j < n → (j ≡ but → ⊥) → slice_get children j ≡ Some d → IsOn (position d)
      → ⊥
  IsNearest position way children but n (Some k) = IsBest position way children but n k

  -- the second child is the nearest of all but child k
  abbrev pub IsSecond : (C → Position) → Direction → List C → ℕ → Option ℕ → Type 0
  IsSecond position way children k second =
      IsNearest position way children k (length children) second

  -- all children but child k are as they were
  abbrev pub OthersStay : ℕ → List C → List C → Type 0
  OthersStay k old new = (j : ℕ) → (j ≡ k → ⊥) → slice_get new j ≡ slice_get old j

  -- each child stands on the first of its entries that a walk from there meets
  abbrev pub ChildrenAreFirst : (C → Entry → Type 0) → (C → Position) → Direction → WalkStart
      → List C → Type 0
  ChildrenAreFirst holds position way start children =
      EachChild (λ c. IsFirst way (λ entry. holds c entry × WalkMeets way start entry) (position c))
      children

  -- where this child stands, if there is one
  abbrev pub child_position : (C → Position) → Option C → Position
  child_position position None = Off
  child_position position (Some c) = position c

  -- where the union stands
  abbrev pub union_position : (C → Position) → List C → Place → Position
  union_position position children (place.On way k second) =
      child_position position (slice_get children k)
  union_position position children place.Off = Off
  union_position position children place.Broken = Broken

  -- the union is on child k: each child stands on its first entry from there on, and the second one
  -- is the nearest of the others
  abbrev pub IsPlaced : (C → Entry → Type 0) → (C → Position) → List C → Place → Type 0
  IsPlaced holds position children (place.On way k second) =
      (c : C) × (entry : Entry) × (slice_get children k ≡ Some c) × (position c ≡ On entry)
      × ChildrenAreFirst holds position way (At entry) children
      × IsSecond position way children k second
  IsPlaced holds position children place.Off = Unit {0}
  IsPlaced holds position children place.Broken = Unit {0}

  -- the children are sound, no two share key and number, and the union's place is so
  pub record IsMerge (holds : C → Entry → Type 0) (position : C → Position) (sound : C → Type 0)
      (children : List C) (at : Place) : Type 0 where
    pub each : EachChild sound children
    pub apart : AreApart holds children
    pub placed : IsPlaced holds position children at

  -- all steps that the children have from one end to the other, and one to turn round
  abbrev pub merged_most : (C → ℕ) → List C → ℕ
  merged_most most children = sum_by most children + 1

  -- the steps left in a direction: the children's, if they stand ahead in it, and else all
  abbrev pub left_along : (C → Direction → ℕ) → (C → ℕ) → List C → Direction → Direction → ℕ
  left_along left most children Forward Forward = sum_by (λ c. left c Forward) children
  left_along left most children Forward Backward = merged_most most children
  left_along left most children Backward Forward = merged_most most children
  left_along left most children Backward Backward = sum_by (λ c. left c Backward) children

  -- the steps that a union has left, by its place
  abbrev pub merged_left : (C → Direction → ℕ) → (C → ℕ) → List C → Place → Direction → ℕ
  merged_left left most children (place.On was k second) way = left_along left most children was way
  merged_left left most children place.Off way = 0
  merged_left left most children place.Broken way = 0

-- the effect of a move of several children
pub record ChildrenKeep {C S : Type 0} (holds : C → S → Entry → Type 0) (is_sound : C → S → Type 0)
    (suits : C → S → S → Type 0)
    (keeps : S → S → Type 0) (most : C → ℕ) (old : List C) (before : S) (new : List C) (now : S)
    : Type 0 where
  pub source : keeps before now
  pub len : length new ≡ length old
  pub each : (i : ℕ) (c d : C) → slice_get old i ≡ Some c → slice_get new i ≡ Some d →
      EntriesStay holds is_sound suits c before d now
  pub size : sum_by most new ≡ sum_by most old
