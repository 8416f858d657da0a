-- Where a walk over a range begins, and where it stands.
use Rattle.std.specs.Prelude.{◌≡◌, ◌⊎◌, ◌≤◌, ◌++◌, ℕ, List, [], ◌∷◌, Bool, true, false, IfSome}
use Rattle.byte_fields.specs.Order.{IsBelow}
use Rattle.kv_types.specs.{Row}
use Rattle.kv_types.specs.declared.bounds.TheConstants.{MAX_NUMBER, MAX_PAGE}
use Rattle.kv_types.specs.Pages.{IsWithin}
use Rattle.kv_types.specs.{Entry, KeepsLimits, Span, stored_span}
use Rattle.merge_iter.specs.declared.Direction.{Direction}
use Rattle.merge_iter.specs.declared.Direction.TheVariants.{Forward, Backward}
use Rattle.merge_iter.specs.{Broken, Off, On, Position}
use Rattle.row_pages.specs.Rows.{row_entry}

-- the direction of a walk that may be backward
abbrev pub way_of : Bool → Direction
way_of false = Forward
way_of true = Backward

-- a walk in this direction meets the first key before the second
abbrev pub KeyIsBefore : Direction → List ℕ → List ℕ → Type 0
KeyIsBefore Forward a b = IsBelow a b
KeyIsBefore Backward a b = IsBelow b a

-- the key is not before the bound of the range at which a walk in this direction begins
abbrev pub HasBegun : Direction → Span → List ℕ → Type 0
HasBegun Forward range key = (range.from ≡ key) ⊎ IsBelow range.from key
HasBegun Backward range key = IfSome range.to (λ to. IsBelow key to)

-- no entry has a greater number than a batch may have
abbrev pub AreNumbered : (Entry → Type 0) → Type 0
AreNumbered entries = (entry : Entry) → entries entry → entry.number ≤ MAX_NUMBER

-- the position is the entry of a row in the range
abbrev pub StandsWithin : Span → Position → Type 0
StandsWithin range (On entry) = IsWithin (stored_span range) entry.key
StandsWithin range Off = ⊥
StandsWithin range Broken = ⊥

-- the position is the entry of the first of these rows; where there is none it is beyond the range
abbrev pub StandsAt : Span → (Entry → Type 0) → List Row → Position → Type 0
StandsAt range entries [] (On entry) = IsWithin (stored_span range) entry.key → ⊥
StandsAt range entries [] Off = Unit {0}
StandsAt range entries [] Broken = ⊥
StandsAt range entries (row ∷ left) (On entry) =
    entries entry × (entry ≡ row_entry row entry.number)
StandsAt range entries (row ∷ left) Off = ⊥
StandsAt range entries (row ∷ left) Broken = ⊥

-- the rows so far are the beginning of the walk, and the position is the entry of the next row
pub record ReadsUpTo (range : Span) (entries : Entry → Type 0) (walk rows : List Row)
    (position : Position) : Type 0 where
  pub left : List Row
  pub parts : walk ≡ rows ++ left
  pub stands : StandsAt range entries left position
  pub fits : KeepsLimits range.limit MAX_PAGE rows
