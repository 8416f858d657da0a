-- Whether a world goes on behind a step.
use Rattle.std.proofs.Common.{◌≡◌, ◌∙◌, Bool, Err, List, Ok, Result, ap, false, refl, sym, true}
use Rattle.std.specs.Prelude.{OnErr, OnOk}
use Rattle.std.specs.Result.{IsErrAnd}
use Rattle.std.proofs.lemmas.Bool.{false≢true}
use Rattle.disk.specs.declared.disk.Disk.{Ghosts}
use Rattle.events.specs.declared.EventContent.{EventContent}
use Rattle.lab.specs.declared.report.Line.{Line}
use Rattle.lab.specs.declared.world.World.{World}
use Rattle.lab.specs.LinesSoFar.{EndsIfRefused}
use Rattle.lab.specs.Worlds.{HasBegunEvent, HasKept, WorldHasEnded}
use Rattle.lab.proofs.WorldSteps.{ends_so, ends_with}

module _ {D C : Type 0} {g : Ghosts D} where
  -- it had ended, and is as it was
  pub ends_again : {T E : Type 0} (e : E) (world : World D C g) → world.ended ≡ true →
      EndsIfRefused {T = T} (Err e) world world
  ends_again e world ended =
      record { ends = ended; again = λ _. (refl, refl) }

  -- it goes on as it was
  pub ends_not : {T E : Type 0} (v : T) (world : World D C g) → world.ended ≡ false →
      EndsIfRefused {E = E} (Ok v) world world
  ends_not v world goes_on = record {
    ends = λ ends. false≢true (sym goes_on ∙ ends);
    again = λ ends. absurd (false≢true (sym goes_on ∙ ends));
  }

  -- it went on, and was refused a step
  pub ends_now : {T E : Type 0} (P : E → Type 0) (r : Result T E) (old new : World D C g) →
      IsErrAnd r P → old.ended ≡ false → new.ended ≡ true → EndsIfRefused r old new
  ends_now P r old new is goes_on ended = record {
    ends = ends_with P (λ _. WorldHasEnded new → ⊥) (WorldHasEnded new) r is ended;
    again = λ ends. absurd (false≢true (sym goes_on ∙ ends));
  }

  -- .. that of an event that it had begun
  pub ends_begun : {T E : Type 0} (P : E → Type 0) (r : Result T E)
      {old begun : World D C g} (new : World D C g) {event : EventContent} → IsErrAnd r P →
      old.ended ≡ false → HasBegunEvent old begun event → new.ended ≡ begun.ended →
      EndsIfRefused r old new
  ends_begun P r {old = old} new is goes_on begins same = ends_now P r old new is goes_on
      (same ∙ ap (λ (w : World D C g). w.ended) begins.others)

  -- it kept the lines of the event that it had begun, or could not
  pub ends_kept : {T E : Type 0} (r : Result T E) {old begun : World D C g}
      (mid new : World D C g) {event : EventContent} (lost : Bool) (lines : List Line) →
      old.ended ≡ false →
      HasBegunEvent old begun event → OnOk r (HasKept mid new lost lines) →
      OnErr r (new.ended ≡ mid.ended) → mid.ended ≡ begun.ended → EndsIfRefused r old new
  ends_kept r mid new lost lines goes_on begins keeps ends same = record {
    ends = ends_so r mid new lost lines
        (same ∙ ap (λ (w : World D C g). w.ended) begins.others) keeps ends;
    again = λ ended. absurd (false≢true (sym goes_on ∙ ended));
  }
