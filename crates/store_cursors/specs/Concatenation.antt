-- Cursors one after another: the entries that they hold together, and where they stand together.
use Rattle.std.specs.Prelude.{◌≡◌, ℕ, ◌+◌, ◌-◌, ◌*◌, ◌<◌, ◌≤◌, List, length, Option, Some, None}
use Rattle.std.specs.Prelude.{IfOk, Result}
use Rattle.std.specs.List.{slice_get, sum_by}
use Rattle.byte_fields.specs.{lent_key}
use Rattle.kv_types.specs.{Entry}
use Rattle.merge_iter.specs.{After, At, AtEnd, Broken, EachChild, EntryPrecedes, IfOn, IsBroken}
use Rattle.merge_iter.specs.{IsFirst, Off, Position, RefusesMove, WalkMeets, WalkStart, reports}
use Rattle.merge_iter.specs.{spot, union_of, AreSound}
use Rattle.merge_iter.specs.LentCursors.{AreIntact, KeepsChildren}
use Rattle.merge_iter.specs.Merging.{child_position}
use Rattle.merge_iter.specs.declared.Cursor.{Ghosts}
use Rattle.merge_iter.specs.declared.CursorError.{CursorError}
use Rattle.merge_iter.specs.declared.Direction.{Direction}
use Rattle.merge_iter.specs.declared.Direction.TheVariants.{Forward, Backward}
use Rattle.store_cursors.specs.declared.child_place.ChildPlace.{ChildPlace}
use Rattle.store_cursors.specs.declared.child_place.ChildPlace.TheVariants as place
use Rattle.store_cursors.specs.declared.start.Start.{Start}
use Rattle.store_cursors.specs.declared.start.Start.TheVariants as start

-- ---- walks over the children

-- how many of n children a walk in this direction meets before child k
abbrev pub rank : Direction → ℕ → ℕ → ℕ
rank Forward n k = k
rank Backward n k = n - 1 - k

-- the direction of a walk that starts so
abbrev pub walk_way : Start → Direction
walk_way start.First = Forward
walk_way start.Last = Backward
walk_way (start.At key number) = Forward

-- at the end of the entries where a walk in this direction begins
abbrev pub start_at_end : Direction → Start
start_at_end Forward = start.First
start_at_end Backward = start.Last

-- where in the entries it starts
abbrev pub walk_start : Start → WalkStart
walk_start start.First = AtEnd
walk_start start.Last = AtEnd
walk_start (start.At key number) = At (spot (lent_key key) number)

module _ {C : Type 0} where
  -- each entry of a child comes before each one of the children behind it
  abbrev pub AreConcatenated : (C → Entry → Type 0) → List C → Type 0
  AreConcatenated holds children =
      (i j : ℕ) (c d : C) (a b : Entry) → i < j → slice_get children i ≡ Some c →
      slice_get children j ≡ Some d → holds c a → holds d b → EntryPrecedes Forward a b

  -- where they stand together
  abbrev pub concatenated_position : (C → Position) → List C → ChildPlace → Position
  concatenated_position position children (place.On k) =
      child_position position (slice_get children k)
  concatenated_position position children place.Off = Off
  concatenated_position position children place.Broken = Broken

  -- the entry on which they stand together is one of the child's
  abbrev pub IsOwnEntry : (C → Entry → Type 0) → (C → Position) → List C → ChildPlace → Type 0
  IsOwnEntry holds position children (place.On k) =
      (c : C) → slice_get children k ≡ Some c → IfOn (position c) (holds c)
  IsOwnEntry holds position children place.Off = Unit {0}
  IsOwnEntry holds position children place.Broken = Unit {0}

  -- the children are sound, and the entries of each come before those of the next
  pub record IsConcatenation (holds : C → Entry → Type 0) (position : C → Position)
      (sound : C → Type 0) (children : List C) (at : ChildPlace) : Type 0 where
    pub each : EachChild sound children
    pub ordered : AreConcatenated holds children
    pub own : IsOwnEntry holds position children at

  -- as many steps for each child as all have from one end to the other
  abbrev pub concatenated_most : (C → ℕ) → List C → ℕ
  concatenated_most most children = length children * sum_by most children

  -- the steps that this child has left, and those of the children that a walk meets after it
  abbrev pub left_from : (C → Direction → ℕ) → (C → ℕ) → List C → ℕ → Direction → Option C → ℕ
  left_from left most children k way None = 0
  left_from left most children k way (Some c) =
      left c way + (length children - rank way (length children) k - 1) * sum_by most children

  -- the steps that are left, by the place
  abbrev pub concatenated_left : (C → Direction → ℕ) → (C → ℕ) → List C → ChildPlace → Direction → ℕ
  concatenated_left left most children (place.On k) way =
      left_from left most children k way (slice_get children k)
  concatenated_left left most children place.Off way = 0
  concatenated_left left most children place.Broken way = 0

  -- the children that a walk has behind it when it has skipped so many have no entry that it meets
  abbrev pub NoneMet : (C → Entry → Type 0) → Direction → WalkStart → ℕ → List C → Type 0
  NoneMet holds way begins skipped children =
      (i : ℕ) (c : C) (entry : Entry) → slice_get children i ≡ Some c →
      rank way (length children) i < skipped → holds c entry → WalkMeets way begins entry → ⊥

  -- of the other children's entries the second walk meets those that the first one meets
  abbrev pub MeetAlike : (C → Entry → Type 0) → Direction → WalkStart → WalkStart → ℕ → List C
      → Type 0
  MeetAlike holds way begins other skipped children =
      (i : ℕ) (c : C) (entry : Entry) → slice_get children i ≡ Some c →
      skipped ≤ rank way (length children) i → holds c entry →
      (WalkMeets way begins entry → WalkMeets way other entry)
      × (WalkMeets way other entry → WalkMeets way begins entry)

module _ {C S : Type 0} (g : Ghosts C S) where
  -- whether such a start may allocate memory
  abbrev pub may_allocate : Start → Type 0
  may_allocate start.First = g.steps_allocate
  may_allocate start.Last = g.steps_allocate
  may_allocate (start.At key number) = g.seeks_allocate

  -- the concatenation is sound and stands at the place
  abbrev pub IsConcatenationOf : g.Meant → List C → ChildPlace → S → Type 0
  IsConcatenationOf meant children at source =
      IsConcatenation (λ c. g.holds meant c source) g.position (λ c. g.is_sound meant c source)
      children at

  -- A walk entered children in turn, all but those that it skipped, up to one with an entry that it
  -- meets.
  pub record EntersChildren (begins : Start) (skipped : ℕ) (old : List C) (before : S)
      (new : List C) (now : S) (result : Result ChildPlace CursorError) : Type 0 where
    pub moves : (meant : g.Meant) → KeepsChildren g meant old before new now
    pub device : g.makes (reports result) before now
    pub causes : RefusesMove g (AreIntact g old before) ⊥ (may_allocate begins) before now result
    pub unbroken : IfOk result (λ at. IsBroken (concatenated_position g.position new at) → ⊥)
    pub ends : IfOk result (λ at. concatenated_left g.left g.most new at (walk_way begins)
        ≤ (length old - skipped) * sum_by g.most old)
    pub finds : (meant : g.Meant) (from : WalkStart) → AreSound g meant old before →
        AreConcatenated (λ c. g.holds meant c before) old →
        NoneMet (λ c. g.holds meant c before) (walk_way begins) from skipped old →
        MeetAlike (λ c. g.holds meant c before) (walk_way begins) (walk_start begins) from
        skipped old →
        IfOk result (λ at. IsFirst (walk_way begins) (λ p. union_of g meant old before p
        × WalkMeets (walk_way begins) from p) (concatenated_position g.position new at)
        × IsOwnEntry (λ c. g.holds meant c now) g.position new at)

  -- The child on which they stand together took a step, and where it has no entry there, those
  -- after it were entered.
  pub record StepsFrom (way : Direction) (k : ℕ) (old : List C) (before : S) (new : List C)
      (now : S) (result : Result ChildPlace CursorError) : Type 0 where
    pub moves : (meant : g.Meant) → KeepsChildren g meant old before new now
    pub device : g.makes (reports result) before now
    pub causes : RefusesMove g (AreIntact g old before)
        (IsBroken (concatenated_position g.position old (place.On k))) g.steps_allocate before now
        result
    pub unbroken : IfOk result (λ at. IsBroken (concatenated_position g.position new at) → ⊥)
    pub ends : IfOk result (λ at. concatenated_left g.left g.most new at way
        < concatenated_left g.left g.most old (place.On k) way)
    pub finds : (meant : g.Meant) → IsConcatenationOf meant old (place.On k) before →
        IfOn (concatenated_position g.position old (place.On k)) (λ entry. IfOk result
        (λ at. IsFirst way (λ p. union_of g meant old before p × WalkMeets way (After entry) p)
        (concatenated_position g.position new at) × IsOwnEntry (λ c. g.holds meant c now) g.position
        new at))
