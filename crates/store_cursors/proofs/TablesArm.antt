-- A move of a cursor over tables, as one of a cursor over a memtable or tables.
use Rattle.std.proofs.Common.{◌≡◌, sym, subst, Result}
use Rattle.memtable.specs.declared.MemCursor.{MemCursor}
use Rattle.merge_iter.specs.{Moved, MovesBy, StepsBy, WalkStart}
use Rattle.merge_iter.specs.declared.Cursor.{Ghosts}
use Rattle.merge_iter.specs.declared.CursorError.{CursorError}
use Rattle.merge_iter.specs.declared.Direction.{Direction}
use Rattle.sorted_table.specs.declared.TableCursor.{TableCursor}
use Rattle.store_cursors.specs.declared.concatenated.Concatenated.{Concatenated}
use Rattle.store_cursors.specs.declared.store_cursor.StoreCursor.{StoreCursor}
use Rattle.store_cursors.specs.declared.store_cursor.StoreCursor.TheVariants.{Tables}
use Rattle.store_cursors.specs.StoreCursors.{StoreCursorHolds, StoreCursorIsSound}
use Rattle.store_cursors.specs.StoreCursors.{StoreCursorSuits, store_left, store_most}
use Rattle.store_cursors.specs.StoreCursors.{store_position}

module _ {D S : Type 0} (m : Ghosts MemCursor (Unit {0}))
    (t : Ghosts (Concatenated (TableCursor D)) S) where
  -- the effect of a move over tables
  moved : (old new : Concatenated (TableCursor D)) (before after : S)
      → Moved t.holds t.is_sound t.suits t.keeps t.most old before new after
      → Moved (StoreCursorHolds m t) (StoreCursorIsSound m t) (StoreCursorSuits m t) t.keeps
      (store_most m t) (Tables old) before (Tables new) after
  moved old new before after it = record {
    source = it.source;
    stays = it.stays;
    size = it.size;
  }

  -- a step over tables
  pub tables_steps : (way : Direction) (now : StoreCursor D) (old new : Concatenated (TableCursor
      D))
      (before after : S) (result : Result (Unit {0}) CursorError) → now ≡ Tables old
      → StepsBy t.is_intact t.holds t.is_sound t.suits t.keeps t.makes t.failures t.position t.most
      t.left t.steps_allocate way old before new after result
      → StepsBy t.is_intact (StoreCursorHolds m t) (StoreCursorIsSound m t) (StoreCursorSuits m t)
      t.keeps t.makes t.failures (store_position m t) (store_most m t) (store_left m t)
      t.steps_allocate way now before (Tables new) after result
  tables_steps way now old new before after result is it =
      subst (λ (c : StoreCursor D). StepsBy t.is_intact (StoreCursorHolds m t)
      (StoreCursorIsSound m t) (StoreCursorSuits m t)
      t.keeps t.makes t.failures (store_position m t) (store_most m t) (store_left m t)
      t.steps_allocate way c before (Tables new) after result) (sym is)
      (record {
        moves = moved old new before after it.moves;
        device = it.device;
        causes = it.causes;
        broken = it.broken;
        ends = it.ends;
        finds = it.finds;
      })

  -- a move over tables
  pub tables_moves : (may : Type 0) (way : Direction) (start : WalkStart) (now : StoreCursor D)
      (old new : Concatenated (TableCursor D)) (before after : S)
      (result : Result (Unit {0}) CursorError)
      → now ≡ Tables old
      → MovesBy t.is_intact t.holds t.is_sound t.suits t.keeps t.makes t.failures t.position t.most
      may way start old before new after result
      → MovesBy t.is_intact (StoreCursorHolds m t) (StoreCursorIsSound m t) (StoreCursorSuits m t)
      t.keeps t.makes t.failures (store_position m t) (store_most m t)
      may way start now before (Tables new) after result
  tables_moves may way start now old new before after result is it =
      subst (λ (c : StoreCursor D). MovesBy t.is_intact (StoreCursorHolds m t)
      (StoreCursorIsSound m t) (StoreCursorSuits m t)
      t.keeps t.makes t.failures (store_position m t) (store_most m t)
      may way start c before (Tables new) after result) (sym is)
      (record {
        moves = moved old new before after it.moves;
        device = it.device;
        causes = it.causes;
        broken = it.broken;
        finds = it.finds;
      })
