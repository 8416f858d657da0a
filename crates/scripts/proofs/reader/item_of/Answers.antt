use Rattle.std.proofs.Common.{◌∙◌, ap, arith, map, subst, sym}
use Rattle.std.proofs.lemmas.Bool.Decides.{nat_tests}
use Rattle.scripts.specs.Reading.{ReadsWords}
use Rattle.scripts.proofs.Items.{line_read}
use Rattle.scripts.proofs.reader.item_of.Goals as goal

pub returns : goal.returns
returns c =
    line_read c.args.before.now c.args.line.now c.item_of_words.result
    (grind (arith, nat_tests, c.if-line-gt-LINE.false))
    (sym c.skips.ensures ∙ c.if-skips.false)
    (subst (λ ws. ReadsWords c.args.before.now ws c.item_of_words.result)
    (ap (λ ws. map (λ w. w.now) ws) c.deref.ensures.value ∙ c.in_ok-put_words.ensures)
    c.item_of_words.ensures)
