-- A move of a cursor over a memtable, as one of a cursor over a memtable or tables.
use Rattle.std.proofs.Common.{◌≡◌, ℕ, refl, sym, subst, false, Result, Ok, Err, arith}
use Rattle.std.specs.Prelude.{IsErrOf}
use Rattle.disk.specs.{RisesByOne}
use Rattle.memtable.specs.declared.MemCursor.{MemCursor}
use Rattle.merge_iter.specs.{ErrorCauses, IsBroken, Moved, MovesBy, StepsBy, WalkStart, reports}
use Rattle.merge_iter.specs.declared.Cursor.{Ghosts}
use Rattle.merge_iter.specs.declared.CursorError.{CursorError}
use Rattle.merge_iter.specs.declared.CursorError.TheVariants.{Disk, Damaged, Failed}
use Rattle.merge_iter.specs.declared.CursorError.TheVariants.{Memory as memory}
use Rattle.merge_iter.specs.declared.Direction.{Direction}
use Rattle.sorted_table.specs.declared.TableCursor.{TableCursor}
use Rattle.store_cursors.specs.declared.concatenated.Concatenated.{Concatenated}
use Rattle.store_cursors.specs.declared.store_cursor.StoreCursor.{StoreCursor}
use Rattle.store_cursors.specs.declared.store_cursor.StoreCursor.TheVariants.{Memory}
use Rattle.store_cursors.specs.StoreCursors.{StoreCursorHolds, StoreCursorIsSound}
use Rattle.store_cursors.specs.StoreCursors.{StoreCursorSuits, store_left, store_most}
use Rattle.store_cursors.specs.StoreCursors.{store_position}

-- a count that is none has not risen
unrisen : RisesByOne 0 0 → ⊥
unrisen rises = absurd (omega (arith, rises.below (omega arith)))

-- a move that reports no device
reports_none : {R : Type 0} (result : Result R CursorError) → (IsErrOf result Disk → ⊥)
    → reports result ≡ false
reports_none (Ok x) none = refl
reports_none (Err Disk) none = absurd (none refl)
reports_none (Err Damaged) none = refl
reports_none (Err memory) none = refl
reports_none (Err Failed) none = refl

-- the causes of a refusal are those of one over a source whose count of failures stays
causes_there : {R sound there broken may might : Type 0} (count : ℕ) (result : Result R CursorError)
    → (there → sound) → (may → might) → ErrorCauses sound broken may 0 0 result
    → ErrorCauses there broken might count count result
causes_there count result were allocates causes = record {
  disk = λ e. absurd (unrisen (causes.disk e));
  others = λ e. refl;
  damaged = λ e was. causes.damaged e (were was);
  memory = λ e. allocates (causes.memory e);
  failed = causes.failed;
}

module _ {D S : Type 0} (m : Ghosts MemCursor (Unit {0}))
    (t : Ghosts (Concatenated (TableCursor D)) S) where
  -- What a move over a memtable needs of both: its steps may allocate where those over a table may,
  -- its own source is intact and has not failed, and no move at all leaves the other as it is.
  pub record ServesMemory (source : S) : Type 0 where
    pub keeps : t.keeps source source
    pub makes : t.makes false source source
    pub intact : m.is_intact (m.as_is tt) tt
    pub unfailed : m.failures tt ≡ 0
    pub allocates : m.steps_allocate → t.steps_allocate

  -- the cursor was sound over the files, so it was in memory
  were : (old : MemCursor) (source : S) → ServesMemory source
      → (meant : t.Meant) × m.is_sound (m.as_is tt) old tt × t.is_intact meant source
      → (meant : m.Meant) × m.is_sound meant old tt × m.is_intact meant tt
  were old source served it = (m.as_is tt, it.1, served.intact)

  -- the effect of a move over a memtable
  moved : (old new : MemCursor) (source : S) → ServesMemory source
      → Moved m.holds m.is_sound m.suits m.keeps m.most old tt new tt
      → Moved (StoreCursorHolds m t) (StoreCursorIsSound m t) (StoreCursorSuits m t) t.keeps
      (store_most m t) (Memory old) source (Memory new) source
  moved old new source served it = record {
    source = served.keeps;
    stays = λ meant sound.
        let s = it.stays (m.as_is tt) sound in
        (s.0, s.1, λ v w z. s.2 tt tt z);
    size = it.size;
  }

  -- it makes nothing of the files
  makes_none : (result : Result (Unit {0}) CursorError) (source : S) → ServesMemory source
      → (IsErrOf result Disk → RisesByOne (m.failures tt) (m.failures tt))
      → t.makes (reports result) source source
  makes_none result source served disk =
      subst (λ b. t.makes b source source) (sym (reports_none result (λ e.
      unrisen (subst (λ n. RisesByOne n n) served.unfailed (disk e))))) served.makes

  -- a step over a memtable
  pub memory_steps : (way : Direction) (now : StoreCursor D) (old new : MemCursor) (source : S)
      (result : Result (Unit {0}) CursorError) → ServesMemory source → now ≡ Memory old
      → StepsBy m.is_intact m.holds m.is_sound m.suits m.keeps m.makes m.failures m.position m.most
      m.left m.steps_allocate way old tt new tt result
      → StepsBy t.is_intact (StoreCursorHolds m t) (StoreCursorIsSound m t) (StoreCursorSuits m t)
      t.keeps t.makes t.failures (store_position m t) (store_most m t) (store_left m t)
      t.steps_allocate way now source (Memory new) source result
  memory_steps way now old new source result served is it =
      subst (λ (c : StoreCursor D). StepsBy t.is_intact (StoreCursorHolds m t)
      (StoreCursorIsSound m t) (StoreCursorSuits m t)
      t.keeps t.makes t.failures (store_position m t) (store_most m t) (store_left m t)
      t.steps_allocate way c source (Memory new) source result) (sym is)
      (record {
        moves = moved old new source served it.moves;
        device = makes_none result source served it.causes.disk;
        causes = causes_there (t.failures source) result (were old source served) served.allocates
            (subst (λ n. ErrorCauses ((meant : m.Meant) × m.is_sound meant old tt
            × m.is_intact meant tt) (IsBroken (m.position old)) m.steps_allocate n n result)
            served.unfailed it.causes);
        broken = it.broken;
        ends = it.ends;
        finds = λ meant sound. it.finds (m.as_is tt) sound;
      })

  -- a move over a memtable, where such moves may allocate if those over a table may
  pub memory_moves : (may might : Type 0) (way : Direction) (start : WalkStart)
      (now : StoreCursor D) (old new : MemCursor) (source : S)
      (result : Result (Unit {0}) CursorError) → (may → might) → ServesMemory source
      → now ≡ Memory old
      → MovesBy m.is_intact m.holds m.is_sound m.suits m.keeps m.makes m.failures m.position m.most
      may way start old tt new tt result
      → MovesBy t.is_intact (StoreCursorHolds m t) (StoreCursorIsSound m t) (StoreCursorSuits m t)
      t.keeps t.makes t.failures (store_position m t) (store_most m t)
      might way start now source (Memory new) source result
  memory_moves may might way start now old new source result allocates served is it =
      subst (λ (c : StoreCursor D). MovesBy t.is_intact (StoreCursorHolds m t)
      (StoreCursorIsSound m t) (StoreCursorSuits m t)
      t.keeps t.makes t.failures (store_position m t) (store_most m t)
      might way start c source (Memory new) source result) (sym is)
      (record {
        moves = moved old new source served it.moves;
        device = makes_none result source served it.causes.disk;
        causes = causes_there (t.failures source) result (were old source served) allocates
            (subst (λ n. ErrorCauses ((meant : m.Meant) × m.is_sound meant old tt
            × m.is_intact meant tt) ⊥ may n n result) served.unfailed it.causes);
        broken = it.broken;
        finds = λ meant sound. it.finds (m.as_is tt) sound;
      })
