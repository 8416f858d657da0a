-- Calls that move one cursor, one behind another.
use Rattle.std.proofs.Common.{◌≡◌, ◌∙◌, subst, Result, Ok, Err, IfOk}
use Rattle.merge_iter.specs.declared.cursor.Cursor.{Ghosts}
use Rattle.merge_iter.specs.declared.error.CursorError.{CursorError}
use Rattle.merge_iter.specs.declared.mode.Mode.{Mode}
use Rattle.merge_iter.specs.declared.mode.Mode.TheVariants as mode
use Rattle.disk.specs.{RisesByOne}
use Rattle.merge_iter.specs.LentCursors.{SearchesCursor, ShiftsCursor}
use Rattle.merge_iter.specs.Moves.{AreCursorLaws, reports}
use Rattle.merge_iter.specs.ShownEntries.{IfKept, IsForward}
use Rattle.merge_iter.proofs.Walked.{all_through}

-- a search forward keeps no entry
pub forward_fits : (r : Result Mode CursorError) (P : Type 0) → IfOk r IsForward
    → IfOk r (λ m. IfKept m P)
forward_fits (Ok mode.Inner) P f = λ e. let z : mode.Inner ≡ mode.Kept = e in absurd cc
forward_fits (Ok mode.Kept) P f = absurd f
forward_fits (Ok mode.Off) P f = λ e. let z : mode.Off ≡ mode.Kept = e in absurd cc
forward_fits (Ok mode.Broken) P f = absurd f
forward_fits (Err e) P f = tt

module _ {C S : Type 0} (g : Ghosts C S) where
  -- what a search does, beside what it finds
  pub shifts_of : {old new : C} {before now : S} {kept : _} {r : Result Mode CursorError}
      → SearchesCursor g old before new now kept r
      → ShiftsCursor g (Unit {0}) old before new now r
  shifts_of s = record { moves = s.moves; device = s.device; causes = s.causes }

module _ {C S : Type 0} (g : Ghosts C S) (laws : AreCursorLaws g.as_is g.is_intact g.holds
    g.is_sound g.suits g.keeps g.makes g.left g.most) where
  -- a call that was answered, and one behind it
  pub shifts_behind : {R T A B : Type 0} {c d e : C} {a b z : S} {called : Result R CursorError}
      {result : Result T CursorError} {x : R} → called ≡ Ok x
      → ShiftsCursor g A c a d b called → ShiftsCursor g B d b e z result
      → ShiftsCursor g (Unit {0}) c a e z result
  shifts_behind {c = c} {a = a} {b = b} {z = z} is first then =
      let count = first.causes.others (λ fails. cc) in
      record {
        moves = all_through g.holds g.is_sound g.suits g.keeps g.left g.most laws _ _ _ _ _ _
            first.moves then.moves;
        device = laws.makes_through _ _ _ _ (subst (λ r. g.makes (reports r) a b) is first.device)
            then.device;
        causes = record {
          disk = λ fails. subst (λ n. RisesByOne n (g.failures z)) count (then.causes.disk fails);
          others = λ works. then.causes.others works ∙ count;
          damaged = λ fails intact. then.causes.damaged fails (
            intact.0,
            (first.moves.stays intact.0 intact.1).0,
            laws.lasts intact.0 a b first.moves.source intact.2,
          );
          memory = λ fails. tt;
          failed = then.causes.failed;
        };
      }
