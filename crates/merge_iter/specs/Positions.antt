-- Where a walk over a set of entries starts, and where a cursor stands.
use Rattle.kv_types.specs.{Entry}
use Rattle.merge_iter.specs.declared.direction.Direction.{Direction}
use Rattle.merge_iter.specs.Order.{EntryPrecedes}

-- a walk starts at its end of the set, at a spot of the order, or behind an entry
pub data WalkStart : Type 0 where
  AtEnd : WalkStart
  At : (place : Entry) → WalkStart
  After : (entry : Entry) → WalkStart

-- a walk with this start meets the entry
abbrev pub WalkMeets : Direction → WalkStart → Entry → Type 0
WalkMeets way AtEnd entry = Unit {0}
WalkMeets way (At place) entry = EntryPrecedes way entry place → ⊥
WalkMeets way (After other) entry = EntryPrecedes way other entry

-- a cursor stands on an entry, on none, or on none since a refusal
pub data Position : Type 0 where
  On : (entry : Entry) → Position
  Off : Position
  Broken : Position

-- the position is the entry of the set that a walk in this direction meets first, or `Off` where
-- the set is empty
abbrev pub IsFirst : Direction → (Entry → Type 0) → Position → Type 0
IsFirst way P (On entry) =
    P entry × ((other : Entry) → P other → EntryPrecedes way other entry → ⊥)
IsFirst way P Off = (other : Entry) → P other → ⊥
IsFirst way P Broken = ⊥

-- the position is an entry
abbrev pub IsOn : Position → Type 0
IsOn (On entry) = Unit {0}
IsOn Off = ⊥
IsOn Broken = ⊥

-- a refusal left this position
abbrev pub IsBroken : Position → Type 0
IsBroken (On entry) = ⊥
IsBroken Off = ⊥
IsBroken Broken = Unit {0}

-- this is true of the entry at the position, if there is one
abbrev pub IfOn : Position → (Entry → Type 0) → Type 0
IfOn (On entry) P = P entry
IfOn Off P = Unit {0}
IfOn Broken P = Unit {0}
