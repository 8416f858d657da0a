-- What a function promises of a cursor that it is lent, or of several.
use Rattle.merge_iter.specs.declared.cursor.Cursor.{Ghosts}
use Rattle.std.specs.Prelude.{◌≡◌, ◌<◌, ℕ, List, Result, IfOk, OnOk, Some}
use Rattle.std.specs.List.{slice_get, sum_by}
use Rattle.kv_types.specs.{Entry}
use Rattle.merge_iter.specs.declared.direction.Direction.{Direction}
use Rattle.merge_iter.specs.declared.error.CursorError.{CursorError}
use Rattle.merge_iter.specs.declared.mode.Mode.{Mode}
use Rattle.merge_iter.specs.declared.place.Place.{Place}
use Rattle.merge_iter.specs.Positions.{On, WalkStart, At, After, IsBroken}
use Rattle.merge_iter.specs.ShownEntries.{IfKept, IsFound, IsSettled, left_in, view_position}
use Rattle.merge_iter.specs.TableEntries.{IsTableEntry}
use Rattle.merge_iter.specs.Moves.{ErrorCauses, Moved, MovesBy, StepsBy, reports}
use Rattle.merge_iter.specs.Merging.{AreApart, ChildrenAreFirst, ChildrenKeep, EachChild, IsMerge}
use Rattle.merge_iter.specs.Merging.{UnionHolds, left_along}

module _ {C S : Type 0} (g : Ghosts C S) where
  -- the cursor was moved, wherever to
  abbrev pub KeepsCursor : (old : C) (before : S) (new : C) (now : S) → Type 0
  KeepsCursor = Moved g.holds g.is_sound g.suits g.keeps g.most

  -- the cursor is sound over a source that has all that it was meant to hold
  abbrev pub IsIntact : C → S → Type 0
  IsIntact cursor source =
      (meant : g.Meant) × g.is_sound meant cursor source × g.is_intact meant source

  -- why the move was refused, of a cursor that was sound or not, and broken or not, where the move
  -- may allocate or not
  abbrev pub RefusesMove : {R : Type 0} → (was_sound was_broken may_allocate : Type 0)
      (before now : S) → Result R CursorError → Type 0
  RefusesMove was_sound was_broken may_allocate before now =
      ErrorCauses was_sound was_broken may_allocate (g.failures before) (g.failures now)

  -- the cursor went to the first entry that a walk with this start meets, as by `first` and `last`
  abbrev pub MovesCursor : Direction → WalkStart → (old : C) (before : S) (new : C) (now : S)
      → Result (Unit {0}) CursorError → Type 0
  MovesCursor = MovesBy g.is_intact g.holds g.is_sound g.suits g.keeps g.makes g.failures g.position
      g.most g.steps_allocate

  -- the cursor took a step, as by `next` and `prev`
  abbrev pub StepsCursor : Direction → (old : C) (before : S) (new : C) (now : S)
      → Result (Unit {0}) CursorError → Type 0
  StepsCursor = StepsBy g.is_intact g.holds g.is_sound g.suits g.keeps g.makes g.failures g.position
      g.most g.left g.steps_allocate

  -- the cursor, which was not broken, was moved, wherever to, by calls that may allocate or not
  pub record ShiftsCursor {R : Type 0} (may_allocate : Type 0) (old : C) (before : S) (new : C)
      (now : S) (result : Result R CursorError) : Type 0 where
    pub moves : KeepsCursor old before new now
    pub device : g.makes (reports result) before now
    pub causes : RefusesMove (IsIntact old before) ⊥ may_allocate before now result

  -- ---- searches for an entry that is shown

  -- A search moved the cursor, wherever to. It answers no broken place, and an entry that it keeps
  -- fits into a table.
  pub record SearchesCursor (old : C) (before : S) (new : C) (now : S) (kept : Entry)
      (result : Result Mode CursorError) : Type 0 where
    pub moves : KeepsCursor old before new now
    pub device : g.makes (reports result) before now
    pub causes : RefusesMove (IsIntact old before) ⊥ (Unit {0}) before now result
    pub unbroken : IfOk result (λ mode. IsBroken (view_position mode (g.position new) kept) → ⊥)
    pub fits : IfOk result (λ mode. IfKept mode (IsTableEntry kept))

  -- the search ended on the first entry that is shown and that a walk with this start meets
  pub record FindsShown (at : ℕ) (way : Direction) (start : WalkStart) (old : C) (before : S)
      (new : C) (now : S) (kept : Entry) (result : Result Mode CursorError) : Type 0 where
    pub moved : SearchesCursor old before new now kept result
    pub finds : (meant : g.Meant) → g.is_sound meant old before →
        IsFound way at (g.holds meant old before) start result (g.position new) kept

  -- the search ended on the entry that is shown next, behind the one that was found or kept before
  pub record FindsNext (at : ℕ) (way : Direction) (mode : Mode) (was : Entry) (old : C) (before : S)
      (new : C) (now : S) (kept : Entry) (result : Result Mode CursorError) : Type 0 where
    pub moved : SearchesCursor old before new now kept result
    -- fewer steps are left
    pub left : IfOk result (λ found. left_in (g.left new) (g.most new) found way
        < left_in (g.left old) (g.most old) mode way)
    pub finds : (meant : g.Meant) → (entry : Entry) → g.is_sound meant old before →
        IsSettled at (g.holds meant old before) mode (g.position old) was →
        view_position mode (g.position old) was ≡ On entry →
        IsFound way at (g.holds meant old before) (After entry) result (g.position new) kept

  -- ---- several cursors

  -- the children were moved, wherever to
  abbrev pub KeepsChildren : g.Meant → (old : List C) (before : S) (new : List C) (now : S)
      → Type 0
  KeepsChildren meant = ChildrenKeep (g.holds meant) (g.is_sound meant) g.suits g.keeps g.most

  -- each child is sound
  abbrev pub AreSound : g.Meant → List C → S → Type 0
  AreSound meant children source = EachChild (λ c. g.is_sound meant c source) children

  -- each child is sound over a source that has all that it was meant to hold
  abbrev pub AreIntact : List C → S → Type 0
  AreIntact children source =
      (meant : g.Meant) × AreSound meant children source × g.is_intact meant source

  -- no two children hold entries of one key and number
  abbrev pub AreDisjoint : g.Meant → List C → S → Type 0
  AreDisjoint meant children source = AreApart (λ c. g.holds meant c source) children

  -- the entries of all children
  abbrev pub union_of : g.Meant → List C → S → Entry → Type 0
  union_of meant children source = UnionHolds (λ c. g.holds meant c source) children

  -- each child stands on the first of its entries that a walk from there meets
  abbrev pub AreFirst : g.Meant → Direction → WalkStart → List C → S → Type 0
  AreFirst meant way start children source =
      ChildrenAreFirst (λ c. g.holds meant c source) g.position way start children

  -- the union of the children is sound and stands at the place
  abbrev pub IsUnion : g.Meant → List C → Place → S → Type 0
  IsUnion meant children place source =
      IsMerge (λ c. g.holds meant c source) g.position (λ c. g.is_sound meant c source) children
      place

  -- it is so over a source that has all that it was meant to hold
  abbrev pub IsIntactUnion : List C → Place → S → Type 0
  IsIntactUnion children place source =
      (meant : g.Meant) × IsUnion meant children place source × g.is_intact meant source

  -- ---- moves of several cursors

  -- the children, of which none was broken, were moved, wherever to, by calls that may allocate or
  -- not
  pub record MovesChildren (may_allocate : Type 0) (old : List C) (before : S) (new : List C)
      (now : S) (result : Result (Unit {0}) CursorError) : Type 0 where
    pub moves : (meant : g.Meant) → KeepsChildren meant old before new now
    pub device : g.makes (reports result) before now
    pub causes : RefusesMove (AreIntact old before) ⊥ may_allocate before now result

  -- each child stood on its first entry at or ahead of that of child k in one direction, and was
  -- moved to its first one ahead of that in the other
  pub record StepsChildren (was way : Direction) (k : ℕ) (old : List C) (before : S) (new : List C)
      (now : S) (result : Result (Unit {0}) CursorError) : Type 0 where
    pub moved : MovesChildren g.steps_allocate old before new now result
    -- fewer steps are left
    pub ends : OnOk result
        (sum_by (λ c. g.left c way) new < left_along g.left g.most old was way)
    pub ahead : (meant : g.Meant) → (c : C) (entry : Entry) → slice_get old k ≡ Some c →
        g.position c ≡ On entry → AreDisjoint meant old before → AreSound meant old before →
        AreFirst meant was (At entry) old before →
        OnOk result (AreFirst meant way (After entry) new now)
