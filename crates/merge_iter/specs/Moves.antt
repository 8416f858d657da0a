-- What a cursor's moves do.
use Rattle.std.specs.Prelude.{◌≡◌, ◌↔◌, ℕ, ◌<◌, ◌≤◌, Result, Ok, Err, OnOk, IsErr, IsErrOf, Bool}
use Rattle.std.specs.Prelude.{true, false}
use Rattle.merge_iter.specs.declared.direction.Direction.{Direction}
use Rattle.merge_iter.specs.declared.error.CursorError.{CursorError}
use Rattle.merge_iter.specs.declared.error.CursorError.TheVariants.{Disk, Damaged, Memory, Failed}
use Rattle.disk.specs.{RisesByOne}
use Rattle.kv_types.specs.{Entry}
use Rattle.merge_iter.specs.Positions.{WalkStart, After, WalkMeets, Position, On, Off, Broken}
use Rattle.merge_iter.specs.Positions.{IfOn, IsBroken, IsFirst}
use Rattle.merge_iter.specs.Order.{IsAlike, IsApart}

-- `next` and `prev` may be called on an entry, and behind a refusal
abbrev pub CanStep : Position → Type 0
CanStep (On entry) = Unit {0}
CanStep Off = ⊥
CanStep Broken = Unit {0}

-- after Ok the cursor stands on the entry of the set that a walk with this start meets first
abbrev pub MoveFinds : {R : Type 0} → Direction → WalkStart → (Entry → Type 0) →
    Result R CursorError → Position → Type 0
MoveFinds way start entries result new =
    OnOk result (IsFirst way (λ entry. entries entry × WalkMeets way start entry) new)

-- Why a move is refused, of a cursor that was sound or not, and broken or not, where the move may
-- allocate or not. The numbers are the source's counts of failures before and after.
pub record ErrorCauses {R : Type 0} (was_sound was_broken may_allocate : Type 0) (before now : ℕ)
    (result : Result R CursorError) : Type 0 where
  -- `Disk` is reported only where the count of failures rises in this call
  pub disk : IsErrOf result Disk → RisesByOne before now
  -- otherwise the count stays
  pub others : (IsErrOf result Disk → ⊥) → now ≡ before
  -- `Damaged` is reported only of a source that is not what the cursor was made for
  pub damaged : IsErrOf result Damaged → was_sound → ⊥
  -- `Memory` is reported only of a move that may allocate
  pub memory : IsErrOf result Memory → may_allocate
  -- `Failed` is reported exactly where the cursor was broken
  pub failed : IsErrOf result Failed ↔ was_broken

module _ {C S : Type 0} (holds : C → S → Entry → Type 0) (is_sound : C → S → Type 0)
    (suits : C → S → S → Type 0) where
  -- A cursor that was sound is so, and has the same entries. What served it as the first source did
  -- still does.
  abbrev pub EntriesStay : C → S → C → S → Type 0
  EntriesStay old before new now =
      is_sound old before → is_sound new now × IsAlike (holds new now) (holds old before)
      × ((a b : S) → suits old a b → suits new a b)

  -- what all cursors of a kind have in common
  pub record IsLawful (keeps : S → S → Type 0) (left : C → Direction → ℕ) (most : C → ℕ)
      : Type 0 where
    -- moves may be none, and moves may follow moves
    pub itself : (a : S) → keeps a a
    pub through : (a b c : S) → keeps a b → keeps b c → keeps a c
    -- moves of other cursors leave a cursor sound, with the same entries
    pub stays : (c : C) (a b : S) → keeps a b → EntriesStay c a c b
    -- a source that serves a cursor as another does leaves it sound, with the same entries
    pub suited : (c : C) (a b : S) → suits c a b → EntriesStay c a c b
    -- no two entries share key and number
    pub apart : (c : C) (a : S) → is_sound c a → IsApart (holds c a)
    -- no cursor has more steps left than from end to end
    pub within : (c : C) (way : Direction) → left c way ≤ most c

  -- the effect of every move, wherever it leads
  pub record MoveKeeps (keeps : S → S → Type 0) (most : C → ℕ) (old : C) (before : S) (new : C)
      (now : S) : Type 0 where
    pub source : keeps before now
    pub stays : EntriesStay old before new now
    pub size : most new ≡ most old

-- what all cursors of a kind have in common, whatever their source was meant to hold
pub record AreCursorLaws {C S K : Type 0} (as_is : S → K) (is_intact : K → S → Type 0)
    (holds : K → C → S → Entry → Type 0) (is_sound : K → C → S → Type 0) (suits : C → S → S → Type
    0)
    (keeps : S → S → Type 0) (makes : Bool → S → S → Type 0) (left : C → Direction → ℕ)
    (most : C → ℕ) : Type 0 where
  -- moves may be none, and moves may follow moves
  pub itself : (a : S) → keeps a a
  pub through : (a b c : S) → keeps a b → keeps b c → keeps a c
  -- a move may follow those that report nothing
  pub makes_itself : (a : S) → makes false a a
  pub makes_through : (reported : Bool) (a b c : S) → makes false a b → makes reported b c
      → makes reported a c
  -- moves leave an intact source intact, and each source is intact as it is
  pub lasts : (meant : K) (a b : S) → keeps a b → is_intact meant a → is_intact meant b
  pub whole : (a : S) → is_intact (as_is a) a
  -- moves of other cursors leave a cursor sound, with the same entries
  pub stays : (meant : K) (c : C) (a b : S) → keeps a b
      → EntriesStay (holds meant) (is_sound meant) suits c a c b
  -- and so does what suits it
  pub suited : (meant : K) (c : C) (a b : S) → suits c a b
      → EntriesStay (holds meant) (is_sound meant) suits c a c b
  -- no two entries share key and number
  pub apart : (meant : K) (c : C) (a : S) → is_sound meant c a → IsApart (holds meant c a)
  -- no cursor has more steps left than from end to end
  pub within : (c : C) (way : Direction) → left c way ≤ most c

module _ {C S K : Type 0} {as_is : S → K} {is_intact : K → S → Type 0}
    {holds : K → C → S → Entry → Type 0} {is_sound : K → C → S → Type 0} {suits : C → S → S → Type
    0}
    {keeps : S → S → Type 0} {makes : Bool → S → S → Type 0} {left : C → Direction → ℕ}
    {most : C → ℕ} where
  -- what they have in common for one content that was meant
  pub law_at : AreCursorLaws as_is is_intact holds is_sound suits keeps makes left most
      → (meant : K)
      → IsLawful (holds meant) (is_sound meant) suits keeps left most
  law_at laws meant = record {
    itself = laws.itself;
    through = laws.through;
    stays = laws.stays meant;
    suited = laws.suited meant;
    apart = laws.apart meant;
    within = laws.within;
  }

-- the effect of every move, wherever it leads, whatever the source was meant to hold
pub record Moved {C S K : Type 0} (holds : K → C → S → Entry → Type 0)
    (is_sound : K → C → S → Type 0) (suits : C → S → S → Type 0) (keeps : S → S → Type 0)
    (most : C → ℕ) (old : C) (before : S) (new : C) (now : S) : Type 0 where
  pub source : keeps before now
  pub stays : (meant : K) → EntriesStay (holds meant) (is_sound meant) suits old before new now
  pub size : most new ≡ most old

module _ {C S K : Type 0} {holds : K → C → S → Entry → Type 0} {is_sound : K → C → S → Type 0}
    {suits : C → S → S → Type 0} {keeps : S → S → Type 0} {most : C → ℕ} {old : C} {before : S}
    {new : C} {now : S} where
  -- the effect of a move for one content that was meant
  pub one_move : Moved holds is_sound suits keeps most old before new now → (meant : K)
      → MoveKeeps (holds meant) (is_sound meant) suits keeps most old before new now
  one_move m meant = record { source = m.source; stays = m.stays meant; size = m.size }

  -- the effect of a move, from its effect for each content that was meant
  pub all_moves : K → ((meant : K) → MoveKeeps (holds meant) (is_sound meant) suits keeps most old
      before new now) → Moved holds is_sound suits keeps most old before new now
  all_moves here f = record {
    source = (f here).source;
    stays = λ meant. (f meant).stays;
    size = (f here).size;
  }

-- whether the move reports the device
abbrev pub reports : {R : Type 0} → Result R CursorError → Bool
reports (Ok x) = false
reports (Err Disk) = true
reports (Err Damaged) = false
reports (Err Memory) = false
reports (Err Failed) = false

-- what a move of a cursor with these ghost members promises
module _ {C S K : Type 0} (is_intact : K → S → Type 0) (holds : K → C → S → Entry → Type 0)
    (is_sound : K → C → S → Type 0) (suits : C → S → S → Type 0) (keeps : S → S → Type 0)
    (makes : Bool → S → S → Type 0) (failures : S → ℕ) (position : C → Position)
    (most : C → ℕ) where
  -- `seek`, `first` and `last`: a move to the first entry that a walk from this start meets
  pub record MovesBy (may_allocate : Type 0) (way : Direction) (start : WalkStart) (old : C)
      (before : S) (new : C) (now : S) (result : Result (Unit {0}) CursorError) : Type 0 where
    -- the cursor has the entries that it had
    pub moves : Moved holds is_sound suits keeps most old before new now
    -- the effect on the source
    pub device : makes (reports result) before now
    -- why it is refused
    pub causes : ErrorCauses ((meant : K) × is_sound meant old before × is_intact meant before) ⊥
        may_allocate (failures before) (failures now) result
    -- the cursor is broken exactly after a refusal
    pub broken : IsErr result ↔ IsBroken (position new)
    -- after Ok it stands on the first entry that the walk meets
    pub finds : (meant : K) → is_sound meant old before →
        MoveFinds way start (holds meant old before) result (position new)

  -- `next` and `prev`: a step from the entry on which the cursor stands
  pub record StepsBy (left : C → Direction → ℕ) (may_allocate : Type 0) (way : Direction) (old : C)
      (before : S) (new : C) (now : S) (result : Result (Unit {0}) CursorError) : Type 0 where
    pub moves : Moved holds is_sound suits keeps most old before new now
    pub device : makes (reports result) before now
    -- a cursor that was broken refuses
    pub causes : ErrorCauses ((meant : K) × is_sound meant old before × is_intact meant before)
        (IsBroken (position old)) may_allocate (failures before) (failures now) result
    pub broken : IsErr result ↔ IsBroken (position new)
    -- fewer steps are left
    pub ends : OnOk result (left new way < left old way)
    -- after Ok it stands on the entry that the walk meets next
    pub finds : (meant : K) → is_sound meant old before → IfOn (position old)
        (λ entry. MoveFinds way (After entry) (holds meant old before) result (position new))
