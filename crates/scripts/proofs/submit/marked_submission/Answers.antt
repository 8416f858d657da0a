use Rattle.std.proofs.Common.{Some, ap, codes, refl, ◌∙◌, ◌∷◌}
use Rattle.std.specs.Fmt.{decimal}
use Rattle.kv_types.specs.{BatchContent}
use Rattle.scripts.proofs.Places.{once_fault, three_named}
use Rattle.scripts.proofs.submit.marked_submission.Goals as goal

pub returns-in-None : goal.returns-in-None
returns-in-None c = λ _. rw (
  once_fault c.args.args.now _ c.in-len3-up.len_at_least c.in-Some-Some.ensures.0
      c.in-Some-Some.ensures'.0 c.in-Some-Some.ensures'.1,
  rw c.in-None.is at c.in_ok-spelled_batch.ensures,
) refl

pub returns-in-Some : goal.returns-in-Some
returns-in-Some c =
    let e = rw c.in-Some.is at c.in_ok-spelled_batch.ensures in
    let node = c.in-Some-Some.node in let mark = c.in-Some-Some.mark in
    let number = c.in-Some-Some.ensures in let numbers = c.in-Some-Some.ensures' in
    let asked : BatchContent = record { mark = Some mark; content = e.1.0 } in (
      rw (
        once_fault c.args.args.now _ c.in-len3-up.len_at_least number.0 numbers.0 numbers.1,
        e.0,
      ) refl,
      (
        asked,
        (number.1, e.1.1, numbers.2),
        ap (λ words. codes "once" ∷ words)
            (three_named c.args.args.now _ _ _ _ c.in-len3-up.len_at_least number.2 numbers.3
            numbers.4)
            ∙ ap (λ words. codes "once" ∷ decimal node ∷ decimal mark.client
            ∷ decimal mark.request ∷ words) e.1.2,
        e.1.3,
      ),
    )
