-- Where a cursor over a memtable or tables stands, and over which entries.
use Rattle.std.specs.Prelude.{ℕ}
use Rattle.kv_types.specs.{Entry}
use Rattle.memtable.specs.declared.MemCursor.{MemCursor}
use Rattle.merge_iter.specs.{IsAlike, Position}
use Rattle.merge_iter.specs.declared.Cursor.{Ghosts}
use Rattle.merge_iter.specs.declared.Direction.{Direction}
use Rattle.sorted_table.specs.declared.TableCursor.{TableCursor}
use Rattle.store_cursors.specs.declared.concatenated.Concatenated.{Concatenated}
use Rattle.store_cursors.specs.declared.store_cursor.StoreCursor.{StoreCursor}
use Rattle.store_cursors.specs.declared.store_cursor.StoreCursor.TheVariants.{Memory, Tables}

module _ {D S : Type 0} (m : Ghosts MemCursor (Unit {0}))
    (t : Ghosts (Concatenated (TableCursor D)) S) where
  -- where it stands
  abbrev pub store_position : StoreCursor D → Position
  store_position (Memory cursor) = m.position cursor
  store_position (Tables cursor) = t.position cursor

  -- the entries that it goes through: those of the memtable, or those that its files were meant to
  -- have
  abbrev pub StoreCursorHolds : t.Meant → StoreCursor D → S → Entry → Type 0
  StoreCursorHolds meant (Memory cursor) source = m.holds (m.as_is tt) cursor tt
  StoreCursorHolds meant (Tables cursor) source = t.holds meant cursor source

  -- it is sound: over a memtable whatever the files are
  abbrev pub StoreCursorIsSound : t.Meant → StoreCursor D → S → Type 0
  StoreCursorIsSound meant (Memory cursor) source = m.is_sound (m.as_is tt) cursor tt
  StoreCursorIsSound meant (Tables cursor) source = t.is_sound meant cursor source

  -- the second source serves it as the first does: over a memtable every source
  abbrev pub StoreCursorSuits : StoreCursor D → S → S → Type 0
  StoreCursorSuits (Memory cursor) a b = m.suits cursor tt tt
  StoreCursorSuits (Tables cursor) a b = t.suits cursor a b

  -- the steps that are left in a direction
  abbrev pub store_left : StoreCursor D → Direction → ℕ
  store_left (Memory cursor) way = m.left cursor way
  store_left (Tables cursor) way = t.left cursor way

  -- the steps from one end to the other
  abbrev pub store_most : StoreCursor D → ℕ
  store_most (Memory cursor) = m.most cursor
  store_most (Tables cursor) = t.most cursor

-- what a cursor goes through, where its source serves it as it was meant
pub record HasEntries {C S : Type 0} (g : Ghosts C S) (meant : g.Meant) (source : S) (cursor : C)
    (has : Entry → Type 0) : Type 0 where
  -- it is sound
  pub sound : g.is_sound meant cursor source
  -- it has exactly the entries of this set
  pub holds : IsAlike (g.holds meant cursor source) has
