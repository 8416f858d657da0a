-- A cursor over a memtable or tables keeps what every cursor keeps.
use Rattle.std.specs.Prelude.{◌≤◌}
use Rattle.memtable.specs.declared.MemCursor.{MemCursor}
use Rattle.merge_iter.specs.{AreCursorLaws, EntriesStay, IfOn, IsApart, IsTableEntry}
use Rattle.merge_iter.specs.declared.Cursor.{Ghosts}
use Rattle.merge_iter.specs.declared.Direction.{Direction}
use Rattle.sorted_table.specs.declared.TableCursor.{TableCursor}
use Rattle.store_cursors.specs.declared.concatenated.Concatenated.{Concatenated}
use Rattle.store_cursors.specs.declared.store_cursor.StoreCursor.{StoreCursor}
use Rattle.store_cursors.specs.declared.store_cursor.StoreCursor.TheVariants.{Memory, Tables}
use Rattle.store_cursors.specs.StoreCursors.{StoreCursorHolds, StoreCursorIsSound}
use Rattle.store_cursors.specs.StoreCursors.{StoreCursorSuits, store_left, store_most}
use Rattle.store_cursors.specs.StoreCursors.{store_position}

module _ {C S : Type 0} (g : Ghosts C S) where
  -- what all cursors with these ghost members have in common
  abbrev pub HasCursorLaws : Type 0
  HasCursorLaws = AreCursorLaws g.as_is g.is_intact g.holds g.is_sound g.suits g.keeps g.makes
      g.left g.most

module _ {D S : Type 0} (m : Ghosts MemCursor (Unit {0}))
    (t : Ghosts (Concatenated (TableCursor D)) S)
    (memory : HasCursorLaws m) (table : HasCursorLaws t) where
  -- moves of other cursors leave it sound, with the same entries
  stays : (meant : t.Meant) (c : StoreCursor D) (a b : S) → t.keeps a b
      → EntriesStay (StoreCursorHolds m t meant) (StoreCursorIsSound m t meant)
      (StoreCursorSuits m t) c a c b
  stays meant (Memory cursor) a b keeps sound =
      let s = memory.stays (m.as_is tt) cursor tt tt (memory.itself tt) sound in
      (s.0, s.1, λ v w z. z)
  stays meant (Tables cursor) a b keeps sound = table.stays meant cursor a b keeps sound

  -- and so does what suits it
  suited : (meant : t.Meant) (c : StoreCursor D) (a b : S) → StoreCursorSuits m t c a b
      → EntriesStay (StoreCursorHolds m t meant) (StoreCursorIsSound m t meant)
      (StoreCursorSuits m t) c a c b
  suited meant (Memory cursor) a b suits sound =
      let s = memory.suited (m.as_is tt) cursor tt tt suits sound in
      (s.0, s.1, λ v w z. z)
  suited meant (Tables cursor) a b suits sound = table.suited meant cursor a b suits sound

  -- no two entries share key and number
  apart : (meant : t.Meant) (c : StoreCursor D) (a : S) → StoreCursorIsSound m t meant c a
      → IsApart (StoreCursorHolds m t meant c a)
  apart meant (Memory cursor) a sound = memory.apart (m.as_is tt) cursor tt sound
  apart meant (Tables cursor) a sound = table.apart meant cursor a sound

  -- no more steps are left than from end to end
  within : (c : StoreCursor D) (way : Direction) → store_left m t c way ≤ store_most m t c
  within (Memory cursor) way = memory.within cursor way
  within (Tables cursor) way = table.within cursor way

  -- the laws of a cursor hold of one over a memtable or tables
  pub store_laws : AreCursorLaws t.as_is t.is_intact (StoreCursorHolds m t)
      (StoreCursorIsSound m t) (StoreCursorSuits m t) t.keeps t.makes (store_left m t)
      (store_most m t)
  store_laws = record {
    itself = table.itself;
    through = table.through;
    makes_itself = table.makes_itself;
    makes_through = table.makes_through;
    lasts = table.lasts;
    whole = table.whole;
    stays = stays;
    suited = suited;
    apart = apart;
    within = within;
  }

-- the entry on which it stands keeps its limits
pub store_fits : {D S : Type 0} (m : Ghosts MemCursor (Unit {0}))
    (t : Ghosts (Concatenated (TableCursor D)) S)
    → ((c : MemCursor) → IfOn (m.position c) IsTableEntry)
    → ((c : Concatenated (TableCursor D)) → IfOn (t.position c) IsTableEntry)
    → (c : StoreCursor D) → IfOn (store_position m t c) IsTableEntry
store_fits m t memory table (Memory cursor) = memory cursor
store_fits m t memory table (Tables cursor) = table cursor
