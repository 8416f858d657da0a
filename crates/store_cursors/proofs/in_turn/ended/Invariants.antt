use Rattle.std.proofs.Common.{◌-◌, ◌≡◌, ◌<◌, ◌≤◌, ℕ, vec_len, Some}
use Rattle.std.specs.List.{slice_get}
use Rattle.byte_fields.specs.{lent_key}
use Rattle.kv_types.specs.{Entry}
use Rattle.merge_iter.specs.{EachChild, EntryPrecedes, spot}
use Rattle.merge_iter.specs.declared.Direction.TheVariants.{Forward}
use Rattle.store_cursors.specs.Concatenation.{AreConcatenated}
use Rattle.store_cursors.proofs.in_turn.ended.Given as goal

-- the children in front of the lower bound end before the key
abbrev pub invariant-loop-low : goal.invariant-loop-low
invariant-loop-low g l = record {
  order : l.low ≤ l.high;
  within : l.high ≤ vec_len l.children;
  ended : (meant : g.C.Cursor.Meant) (source : g.row.C-Source.Denot)
      → EachChild (λ c. g.C.Cursor.is_sound meant c source) l.children.items
      → AreConcatenated (λ c. g.C.Cursor.holds meant c source) l.children.items
      → (i : ℕ) (c : _) → i < l.low → slice_get l.children.items i ≡ Some c
      → (entry : Entry) → g.C.Cursor.holds meant c source entry → (number : ℕ)
      → EntryPrecedes Forward entry (spot (lent_key l.key) number);
}

abbrev pub decreases-loop-low : goal.decreases-loop-low
decreases-loop-low g l = l.high - l.low
