use Rattle.std.proofs.Common.{◌≡◌, ◌∙◌, Err, ap, rules, sym}
use Rattle.compaction.specs.declared.error.MergeError.TheVariants as merging
use Rattle.engine.specs.MergeParts.{progress_after}
use Rattle.engine.proofs.Advances.{refusal_is}
use Rattle.engine.proofs.merging.progress_of.Goals as goal

-- another refusal
pub returns-in-Err : goal.returns-in-Err
returns-in-Err c =
    let room : c.in-Err.e ≡ merging.Full → ⊥ = search rules in
    ap (λ e. Err e) c.refusal_of.ensures ∙ refusal_is c.in-Err.e room
    ∙ ap progress_after (sym c.in-Err.is)
