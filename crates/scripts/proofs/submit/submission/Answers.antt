use Rattle.std.proofs.Common.{ap, codes, refl, ◌∙◌, ◌∷◌}
use Rattle.std.specs.Fmt.{decimal}
use Rattle.kv_types.specs.{unmarked}
use Rattle.scripts.proofs.Places.{submit_fault, named}
use Rattle.scripts.proofs.submit.submission.Goals as goal

pub returns-in-None : goal.returns-in-None
returns-in-None c = λ _. rw (
  submit_fault c.args.args.now _ c.in-len1-up.len_at_least
      c.in-Some.ensures.0,
  rw c.in-None.is at c.in_ok-spelled_batch.ensures,
) refl

pub returns-in-Some-2 : goal.returns-in-Some-2
returns-in-Some-2 c =
    let e = rw c.in-Some-2.is at c.in_ok-spelled_batch.ensures in (
      rw (submit_fault c.args.args.now _ c.in-len1-up.len_at_least c.in-Some.ensures.0, e.0) refl,
      (
        unmarked e.1.0,
        (c.in-Some.ensures.1, e.1.1, tt),
        ap (λ words. codes "submit" ∷ words)
            (named c.args.args.now _ _ c.in-len1-up.len_at_least c.in-Some.ensures.2)
            ∙ ap (λ words. codes "submit" ∷ decimal c.in-Some.node ∷ words) e.1.2,
        e.1.3,
      ),
    )
