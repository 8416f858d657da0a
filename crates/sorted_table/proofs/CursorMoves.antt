-- What every move of a cursor over a table keeps.
use Rattle.std.proofs.Common.{◌≡◌, ◌↔◌, ℕ, List, Option, Some, None, IfSome, sym, ap, subst, ◌∙◌}
use Rattle.std.proofs.Common.{refl}
use Rattle.std.proofs.Common.{Result, Ok, Err, OnOk, OnErr, Bool, true, false, IsTrue}
use Rattle.std.specs.Prelude.{IsErr}
use Rattle.disk.specs.declared.Disk.{Ghosts}
use Rattle.kv_types.specs.{Entry}
use Rattle.merge_iter.specs.{ErrorCauses, IsBroken, Moved}
use Rattle.merge_iter.specs.declared.CursorError.{CursorError}
use Rattle.byte_fields.specs.declared.format.Format.{Format}
use Rattle.table_format.specs.declared.IndexLine.{IndexLine}
use Rattle.table_format.specs.declared.FileError.{FileError}
use Rattle.table_format.specs.declared.FileError.TheVariants as reading
use Rattle.table_files.specs.{KeepsFiles, keeps_files_after}
use Rattle.sorted_table.specs.declared.block_place.BlockPlace.{BlockPlace}
use Rattle.sorted_table.specs.LineSizes.{blocks_size}
use Rattle.sorted_table.specs.Meant.{AreAsMeant}
use Rattle.sorted_table.specs.TableCursors.{CursorServes, FileHolds, HasLines, IsPlaceIn}
use Rattle.sorted_table.specs.TableCursors.{entry_position, move_error, table_position}
use Rattle.sorted_table.specs.TableReads.{EntersBlock, ReadsDisk}
use Rattle.sorted_table.specs.TableCursorLaws.{AreIntactFiles, FileSuits, ServesMeant}
use Rattle.disk.specs.{Slot, State}
use Rattle.sorted_table.proofs.KeptDisk.{kept_alike}

-- what follows where a test fails
pub when_false : (b : Bool) (P : Type 0) → b ≡ false → ((IsTrue b → ⊥) → P) → P
when_false true P is f = absurd cc
when_false false P is f = f (λ h. absurd cc)

-- a place that was entered, or none after a refusal
pub entered_or_none : {A B : Type 0} {E : Type 0} (P : B → Type 0) (o : Option B) (Q : Type 0)
    (result : Result A E) → OnOk result (IfSome o P) → OnErr result ((o ≡ None) × Q) → IfSome o P
entered_or_none P o Q (Ok x) entered refused = entered
entered_or_none P o Q (Err e) entered refused = subst (λ p. IfSome p P) (sym refused.0) tt

-- a refusal leaves a cursor broken
pub refused_broken : {A E : Type 0} (result : Result A E) (failed : Bool)
    (place : Option BlockPlace) → IsErr result → (place ≡ None) × (failed ≡ true)
    → IsErr result ↔ IsBroken (table_position failed place)
refused_broken result failed place is refused = (
  λ _. subst (λ p. IsBroken (table_position failed p)) (sym refused.0)
      (subst (λ f. IsBroken (table_position f None)) (sym refused.1) tt),
  λ _. is,
)

-- a cursor that no refusal left on no entry is not broken
pub off_unbroken : (failed : Bool) (place : Option BlockPlace) → failed ≡ false → place ≡ None
    → IsBroken (table_position failed place) → ⊥
off_unbroken failed place works off is =
    subst (λ f. IsBroken (table_position f None)) works
    (subst (λ p. IsBroken (table_position failed p)) off is)

-- nor is one at a place in a block
pub entry_unbroken : (entry : Option Entry) → IsBroken (entry_position entry) → ⊥
entry_unbroken None is = is
entry_unbroken (Some e) is = is

-- what an answer that is no refusal says of causes does not depend on its value
pub causes_of_ok : {A B : Type 0} {sound broken allocates : Type 0} {before now : ℕ} (x : A) (y : B)
    → ErrorCauses sound broken allocates before now (Ok x)
    → ErrorCauses sound broken allocates before now (Ok y)
causes_of_ok x y c = record {
  disk = λ is. absurd cc;
  others = λ works. c.others (λ is. cc);
  damaged = λ is sound. absurd cc;
  memory = λ is. absurd cc;
  failed = (λ is. absurd cc, λ was. let is = c.failed.1 was in absurd cc);
}

module _ {D : Type 0} (g : Ghosts D) {T : Type 0} (file : ℕ) (format : Format)
    (lines : List IndexLine) (a b : D) (read : Result T FileError)
  where
    -- a block that was not read is not entered
    pub enters_none : (e : FileError) → read ≡ Err e → ReadsDisk g a b read
        → (read ≡ Err reading.Damaged → g.is_honest a → HasLines format (g.state a file) lines → ⊥)
        → EntersBlock g file format lines a b None true (Err (move_error e))
    enters_none reading.Disk is reads damaged = record {
      keeps = keeps_files_after g a b read reads.kept reads.still;
      device = record {
        disk = kept_alike a b (λ fails. refl) (λ told. is) reads.kept;
        still = reads.still;
      };
      causes = record {
        disk = λ told. reads.kept.failed is;
        others = λ works. absurd (works refl);
        damaged = λ told sound. absurd cc;
        memory = λ told. tt;
        failed = (λ told. absurd cc, λ none. absurd none);
      };
      refused = (refl, refl);
    }
    enters_none reading.Damaged is reads damaged =
        let works : read ≡ Err reading.Disk → ⊥ = λ fails. cc in
        record {
          keeps = keeps_files_after g a b read reads.kept reads.still;
          device = record {
            disk = kept_alike a b (λ fails. absurd (works fails)) (λ told. absurd cc) reads.kept;
            still = reads.still;
          };
          causes = record {
            disk = λ told. absurd cc;
            others = λ _. reads.kept.count works;
            damaged = λ told sound. damaged is sound.0 sound.1;
            memory = λ told. tt;
            failed = (λ told. absurd cc, λ none. absurd none);
          };
          refused = (refl, refl);
        }
    enters_none reading.Memory is reads damaged =
        let works : read ≡ Err reading.Disk → ⊥ = λ fails. cc in
        record {
          keeps = keeps_files_after g a b read reads.kept reads.still;
          device = record {
            disk = kept_alike a b (λ fails. absurd (works fails)) (λ told. absurd cc) reads.kept;
            still = reads.still;
          };
          causes = record {
            disk = λ told. absurd cc;
            others = λ _. reads.kept.count works;
            damaged = λ told sound. absurd cc;
            memory = λ told. tt;
            failed = (λ told. absurd cc, λ none. absurd none);
          };
          refused = (refl, refl);
        }

    -- a block that was read is
    pub enters_some : (x : T) (at : Option BlockPlace) (failed : Bool) → read ≡ Ok x
        → ReadsDisk g a b read → EntersBlock g file format lines a b at failed (Ok tt)
    enters_some x at failed is reads =
        let works : read ≡ Err reading.Disk → ⊥ = λ fails. cc in
        record {
          keeps = keeps_files_after g a b read reads.kept reads.still;
          device = record {
            disk = kept_alike a b (λ fails. absurd (works fails)) (λ told. absurd cc) reads.kept;
            still = reads.still;
          };
          causes = record {
            disk = λ told. absurd cc;
            others = λ _. reads.kept.count works;
            damaged = λ told sound. absurd cc;
            memory = λ told. absurd cc;
            failed = (λ told. absurd cc, λ none. absurd none);
          };
          refused = tt;
        }

module _ {C S : Type 0} (g : Ghosts S) (file : C → ℕ) (format : C → Format)
    (lines : C → List IndexLine) (place : C → Option BlockPlace) where
  -- the table stays, and the place is one of its blocks, if the one before was
  pub cursor_moves : (old new : C) (a b : S) → KeepsFiles g a b → file new ≡ file old
      → lines new ≡ lines old → format new ≡ format old
      → ((m : Slot) → g.is_honest a → AreAsMeant (format old) (g.state a (file old)) m (lines old)
      → (t : HasLines (format old) m (lines old))
      → IfSome (place old) (IsPlaceIn t.represents.blocks)
      → IfSome (place new) (IsPlaceIn t.represents.blocks))
      → Moved {C = C} {S = S} {K = State} (λ m c s. FileHolds (m (file c)))
      (ServesMeant g file format lines place) (FileSuits g file format lines place)
      (KeepsFiles g) (λ c. blocks_size (lines c)) old a new b
  cursor_moves old new a b keeps same_file same_lines same_format moves = record {
    source = keeps;
    stays = λ m s.
        let slot : g.state a (file old) ≡ g.state b (file new) =
        sym (keeps.same s.0 (file old)) ∙ ap (g.state b) (sym same_file) in
        let meant : m (file old) ≡ m (file new) = ap m (sym same_file) in (
          (
            keeps.honest.1 s.0,
            subst (λ z. CursorServes (format new) z (lines new) (place new)) meant
                (subst (λ f. CursorServes f (m (file old)) (lines new) (place new))
                (sym same_format)
                (subst (λ l. CursorServes (format old) (m (file old)) l (place new))
                (sym same_lines)
                (record {
                  table = s.1.table;
                  here = moves (m (file old)) s.0 s.2 s.1.table s.1.here;
                }))),
            subst (λ z. AreAsMeant (format new) z (m (file new)) (lines new)) slot
                (subst (λ z. AreAsMeant (format new) (g.state a (file old)) z (lines new)) meant
                (subst (λ f. AreAsMeant f (g.state a (file old)) (m (file old)) (lines new))
                (sym same_format)
                (subst (AreAsMeant (format old) (g.state a (file old)) (m (file old)))
                (sym same_lines) s.2))),
          ),
          λ entry. subst (λ z. FileHolds z entry ↔ FileHolds (m (file old)) entry) meant
              ((λ h. h), (λ h. h)),
          λ v w z h. let it = z h in
              (it.0, subst (λ f. g.state w f ≡ g.state v f) (sym same_file) it.1),
        );
    size = ap blocks_size same_lines;
  }

  -- why a move is refused that enters a block
  pub move_causes : (old : C) (a b : S) (at : Option BlockPlace) (failed : Bool)
      (result : Result (Unit {0}) CursorError)
      → EntersBlock g (file old) (format old) (lines old) a b at failed result
      → ErrorCauses ((m : State) × ServesMeant g file format lines place m old a
      × AreIntactFiles g m a) ⊥
      (Unit {0}) (g.failures a) (g.failures b) result
  move_causes old a b at failed result moved = record {
    disk = moved.causes.disk;
    others = moved.causes.others;
    damaged = λ is w.
        moved.causes.damaged is (
          w.1.0,
          subst (λ z. HasLines (format old) z (lines old)) (sym (w.2 w.1.0 (file old))) w.1.1.table,
        );
    memory = moved.causes.memory;
    failed = moved.causes.failed;
  }
