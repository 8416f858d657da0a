-- What a merge leaves of the entries of its inputs, in order.
use Rattle.std.specs.Prelude.{◌≡◌, ◌↔◌, ◌⊎◌, ℕ, suc, ◌<◌, ◌&&◌, ◌||◌, nat_le, not, if◌then◌else◌}
use Rattle.std.specs.Prelude.{Bool}
use Rattle.std.specs.Prelude.{false, List, [], ◌∷◌, Option, Some, None, bytes_eq, is_none, Contains}
use Rattle.std.specs.List.{list_any}
use Rattle.std.specs.Ordering.{is_lt}
use Rattle.byte_fields.specs.{StoredKey, stored_cmp}
use Rattle.kv_types.specs.{Entry}
use Rattle.version_edits.specs.declared.TableLine.{TableLine}
use Rattle.store_model.specs.{IsDropped, KeyRange, LevelTable, MergePlan, tables_entries}
use Rattle.table_format.specs.{AreRising}

-- ---- the two rules

-- the entry right before this one has the same key, and each number from the floor on sees it
abbrev pub is_overwritten : ℕ → Option Entry → Entry → Bool
is_overwritten floor None entry = false
is_overwritten floor (Some before) entry =
    bytes_eq before.key entry.key && nat_le before.number floor

-- the range of the line holds the key
abbrev pub line_holds : StoredKey → TableLine → Bool
line_holds key line = not (is_lt (stored_cmp key line.least))
    && not (is_lt (stored_cmp line.greatest key))

-- a deletion that each number from the floor on sees, of a key that no deeper table can have
abbrev pub is_spent : ℕ → List TableLine → Entry → Bool
is_spent floor deeper entry =
    is_none entry.value
    && (nat_le entry.number floor && not (list_any (line_holds entry.key) deeper))

-- a merge at this floor drops the entry behind this one
abbrev pub is_dropped : ℕ → List TableLine → Option Entry → Entry → Bool
is_dropped floor deeper before entry =
    is_overwritten floor before entry || is_spent floor deeper entry

-- ---- what is left

-- the entries that a merge leaves of these, which stand in order behind another
abbrev pub survivors_behind : ℕ → List TableLine → Option Entry → List Entry → List Entry
survivors_behind floor deeper before [] = []
survivors_behind floor deeper before (entry ∷ entries) =
    if is_dropped floor deeper before entry
    then survivors_behind floor deeper (Some entry) entries
    else entry ∷ survivors_behind floor deeper (Some entry) entries

-- the entries that a merge leaves of these, which stand in order
abbrev pub survivors : ℕ → List TableLine → List Entry → List Entry
survivors floor deeper entries = survivors_behind floor deeper None entries

-- ---- the theorem

-- the range of a line, from its least key to its greatest
abbrev pub key_range : TableLine → KeyRange
key_range line = record { least = line.least; greatest = line.greatest }

-- the lines have the ranges of those tables of the plan that are deeper than its outputs
pub record AreDeeperLines (plan : MergePlan) (deeper : List TableLine) : Type 0 where
  pub named : (t : LevelTable) → Contains plan.tables t → suc plan.level < t.level →
      (line : TableLine) × Contains deeper line × (t.range ≡ key_range line)
  pub real : (line : TableLine) → Contains deeper line →
      (t : LevelTable) × Contains plan.tables t × (suc plan.level < t.level)
      × (t.range ≡ key_range line)

-- the list has the entries of the inputs, in order
pub record IsSortedUnion (inputs : List LevelTable) (entries : List Entry) : Type 0 where
  pub rising : AreRising entries
  pub alike : (entry : Entry) → Contains entries entry ↔ tables_entries inputs entry

-- a merge of the plan at this floor leaves these entries: those of its inputs, less exactly those
-- that the two rules drop
pub record AreSurvivors (floor : ℕ) (plan : MergePlan) (left : List Entry) : Type 0 where
  pub only : (entry : Entry) → Contains left entry →
      tables_entries plan.inputs entry × (IsDropped floor plan entry → ⊥)
  pub all : (entry : Entry) → tables_entries plan.inputs entry →
      Contains left entry ⊎ IsDropped floor plan entry

-- a merge leaves the survivors of the sorted union of its inputs
abbrev pub SurvivorsAreLeft : Type 0
SurvivorsAreLeft =
    (floor : ℕ) (plan : MergePlan) (deeper : List TableLine) (entries : List Entry) →
    AreDeeperLines plan deeper → IsSortedUnion plan.inputs entries →
    AreSurvivors floor plan (survivors floor deeper entries)
