use Rattle.std.proofs.Common.{◌∙◌, sym}
use Rattle.std.proofs.lemmas.Bool.{false≢true}
use Rattle.configurations.proofs.Ids.{first_repeats, others_differ}
use Rattle.configurations.proofs.config.+has_repeated.Goals as goal

-- the first id stands again
pub returns-then-contains : goal.returns-then-contains
returns-then-contains t c =
    let again = sym c.contains.ensures.value ∙ c.if-contains.true in
    let repeats = first_repeats c.args.ids.now c.in-len1-up.len_at_least again in (
      λ f. absurd (false≢true (sym f ∙ c.if-contains.true)),
      λ d. absurd (repeats d),
    )

-- the first id does not
pub returns-else-contains : goal.returns-else-contains
returns-else-contains t c =
    let none = sym c.contains.ensures.value ∙ c.if-contains.false in
    let behind = others_differ c.args.ids.now c.in-len1-up.len_at_least none in (
      λ f. behind.0 (c.has_repeated.ensures.0 f),
      λ d. c.has_repeated.ensures.1 (behind.1 d),
    )
