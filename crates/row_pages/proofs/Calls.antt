-- Calls that move one cursor, one behind another.
use Rattle.std.proofs.Common.{◌≡◌, ◌∙◌, ap, refl, subst, sym, false, Result, Ok, Err}
use Rattle.std.specs.Prelude.{IsErrAnd}
use Rattle.merge_iter.specs.declared.cursor.Cursor.{Ghosts}
use Rattle.merge_iter.specs.declared.CursorError.{CursorError}
use Rattle.disk.specs.{RisesByOne}
use Rattle.merge_iter.specs.declared.CursorError.TheVariants.{Disk, Damaged, Memory, Failed}
use Rattle.merge_iter.specs.LentCursors.{ShiftsCursor, StepsCursor}
use Rattle.merge_iter.specs.Unions.{stays_through}
use Rattle.merge_iter.specs.{AreCursorLaws, KeepsCursor, IsBroken}
use Rattle.merge_iter.specs.{reports}

-- whatever the answer is, a refusal reports the device or not
reports_same : (R T : Type 0) (e : CursorError)
    → reports {R = R} (Err e) ≡ reports {R = T} (Err e)
reports_same R T Disk = refl
reports_same R T Damaged = refl
reports_same R T Memory = refl
reports_same R T Failed = refl

-- an answer is one refusal
one_refusal : {T : Type 0} (result : Result T CursorError) (e v : CursorError) → result ≡ Err e
    → result ≡ Err v → e ≡ v
one_refusal (Ok x) e v p q = absurd cc
one_refusal (Err s) e v p q = let a : s ≡ e = cc in let b : s ≡ v = cc in sym a ∙ b

module _ {C S : Type 0} (g : Ghosts C S) (laws : AreCursorLaws g.as_is g.is_intact g.holds
    g.is_sound g.suits g.keeps g.makes g.left g.most) where
  -- what moves that were answered have made of the cursor and its source
  pub record HasMoved (old : C) (before : S) (new : C) (now : S) : Type 0 where
    pub moves : KeepsCursor g old before new now
    pub device : g.makes false before now
    pub count : g.failures now ≡ g.failures before

  -- a call that was answered
  pub has_moved : {R A : Type 0} {c d : C} {a b : S} {result : Result R CursorError} {x : R}
      → result ≡ Ok x → ShiftsCursor g A c a d b result → HasMoved c a d b
  has_moved {a = a} {b = b} is call = record {
    moves = call.moves;
    device = subst (λ r. g.makes (reports r) a b) is call.device;
    count = call.causes.others (λ fails. cc);
  }

  -- a call behind moves that were answered
  pub shifts_behind : {R A : Type 0} {c d e : C} {a b z : S} {result : Result R CursorError}
      → HasMoved c a d b → ShiftsCursor g A d b e z result
      → ShiftsCursor g (Unit {0}) c a e z result
  shifts_behind {c = c} {d = d} {e = e} {a = a} {b = b} {z = z} first then = record {
    moves = record {
      source = laws.through a b z first.moves.source then.moves.source;
      stays = λ k. stays_through (g.holds k) (g.is_sound k) g.suits c d e a b z
          (first.moves.stays k) (then.moves.stays k);
      size = then.moves.size ∙ first.moves.size;
    };
    device = laws.makes_through _ _ _ _ first.device then.device;
    causes = record {
      disk = λ fails. subst (λ n. RisesByOne n (g.failures z)) first.count
          (then.causes.disk fails);
      others = λ works. then.causes.others works ∙ first.count;
      damaged = λ fails intact. then.causes.damaged fails (
        intact.0,
        (first.moves.stays intact.0 intact.1).0,
        laws.lasts intact.0 a b first.moves.source intact.2,
      );
      memory = λ fails. tt;
      failed = then.causes.failed;
    };
  }

  -- a step of a cursor that is not broken
  pub step_shifts : {way : _} {c d : C} {a b : S} {result : Result (Unit {0}) CursorError}
      → (IsBroken (g.position c) → ⊥) → StepsCursor g way c a d b result
      → ShiftsCursor g g.steps_allocate c a d b result
  step_shifts unbroken s = record {
    moves = s.moves;
    device = s.device;
    causes = record {
      disk = s.causes.disk;
      others = s.causes.others;
      damaged = s.causes.damaged;
      memory = s.causes.memory;
      failed = ((λ fails. unbroken (s.causes.failed.0 fails)), (λ never. absurd never));
    };
  }

  -- a refusal that is passed on
  pub shifts_as : {R T A : Type 0} {c d : C} {a b : S} (called : Result R CursorError)
      (result : Result T CursorError) (e : CursorError) → called ≡ Err e
      → IsErrAnd result (λ s. s ≡ e) → ShiftsCursor g A c a d b called
      → ShiftsCursor g A c a d b result
  shifts_as {a = a} {b = b} called (Ok x) e is same call = absurd same
  shifts_as {R = R} {T = T} {a = a} {b = b} called (Err s) e is same call =
      let given : Result T CursorError = Err s in
      let to : (v : CursorError) → given ≡ Err v → called ≡ Err v =
      λ v h. is ∙ ap Err (sym same ∙ one_refusal given s v refl h) in
      let back : (v : CursorError) → called ≡ Err v → given ≡ Err v =
      λ v h. ap Err (same ∙ one_refusal called e v is h) in
      record {
        moves = call.moves;
        device = subst (λ r. g.makes r a b)
            (ap reports is ∙ reports_same R T e
            ∙ ap (λ (v : CursorError). reports {R = T} (Err v)) (sym same)) call.device;
        causes = record {
          disk = λ fails. call.causes.disk (to Disk fails);
          others = λ works. call.causes.others (λ fails. works (back Disk fails));
          damaged = λ fails. call.causes.damaged (to Damaged fails);
          memory = λ fails. call.causes.memory (to Memory fails);
          failed = (
            (λ fails. call.causes.failed.0 (to Failed fails)),
            (λ never. absurd never),
          );
        };
      }
