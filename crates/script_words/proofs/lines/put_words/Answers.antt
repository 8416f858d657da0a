use Rattle.std.proofs.Common.{rules, nat_eq, ◌∙◌}
use Rattle.std.proofs.lemmas.Iterator.Consumers.{YieldsList-end}
use Rattle.std.proofs.lemmas.Iterator.Splits.{YieldsList-from_slice_split}
use Rattle.script_words.proofs.lines.put_words.Goals as goal

-- what the iterator has yielded at its end are all words
pub returns : goal.returns
returns c =
    let ends = YieldsList-end (YieldsList-from_slice_split _ (λ b. nat_eq b 32) c.args.line.now
    (cc) (cc) (cc) (λ x b q h. search rules)) c.loop-word.yielded _ c.loop-word.yielded_by _ _
    c.in-None.is c.next.ensures.steps in
    c.loop-word.invariant ∙ ends.0
