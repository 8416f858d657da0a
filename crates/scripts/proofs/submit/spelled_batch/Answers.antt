use Rattle.std.proofs.Common.{[], arith, refl, sym, ◌++◌, ◌∙◌, ◌∷◌}
use Rattle.std.proofs.lemmas.Grind.{common_steps}
use Rattle.std.proofs.lemmas.List.Elements.{All-push}
use Rattle.script_words.specs.Edits.{AreBytesIn, edit_of}
use Rattle.scripts.proofs.Submits.{error_after, error_kept, no_none}
use Rattle.scripts.proofs.submit.spelled_batch.Goals as goal
use Rattle.scripts.proofs.submit.spelled_batch.Goals.{in-Ok+in_ok-push-in-Ok, in-Err}

-- one edit more, which is made or has an error
pub loop-word-preserved : goal.loop-word-preserved
loop-word-preserved c =
    let was = c.loop-word.invariant in
    let one = rw c.in-Some.is at c.in_ok-change.ensures in
    let more = edit_of c.in-Some.change in
    record {
      each = grind (arith, common_steps, was.each, one.0);
      spelled = was.spelled ++ more ∷ [];
      each_bytes = All-push AreBytesIn was.spelled more was.each_bytes one.1;
      texts = grind (arith, common_steps, was.texts, one.2);
      error = elim c.match-edit.branch [
        | in-Ok+in_ok-push-in-Ok w ↦ error_kept was.spelled more c.loop-word.error
            c.match-edit.error was.error w.in-Ok.ensures.0 w.error-is
        | in-Err w ↦ error_after was.spelled more c.loop-word.error c.match-edit.error was.error
            (rw (w.in-Err.ensures, w.error-is) (sym w.or-error.ensures))
      ];
      made = elim c.match-edit.branch [
        | in-Ok+in_ok-push-in-Ok w ↦ λ none. rw (
          w.edits-is,
          w.in_ok-push-in-Ok.ensures.items,
          was.made (sym w.error-is ∙ none),
          w.in-Ok.ensures.1,
        ) refl
        | in-Err w ↦ λ none. absurd (no_none c.loop-word.error w.in-Err.e
            (sym w.or-error.ensures ∙ sym w.error-is ∙ none))
      ];
    }

pub returns-in_err-edits : goal.returns-in_err-edits
returns-in_err-edits c = grind (arith, common_steps)

pub returns-in_err-change : goal.returns-in_err-change
returns-in_err-change c = grind (arith, common_steps)

pub returns-in_default : goal.returns-in_default
returns-in_default c = grind (arith, common_steps)

pub returns-in_err-push-in-Ok : goal.returns-in_err-push-in-Ok
returns-in_err-push-in-Ok c = grind (arith, common_steps)

pub returns-in-None : goal.returns-in-None
returns-in-None c = grind (arith, common_steps)

pub returns-in-Some-error : goal.returns-in-Some-error
returns-in-Some-error c = grind (arith, common_steps)
