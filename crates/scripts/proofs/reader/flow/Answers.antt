use Rattle.std.proofs.Common.{map, sym, refl, ◌∙◌, arith}
use Rattle.std.proofs.lemmas.Grind.{common_steps}
use Rattle.std.proofs.lemmas.Bool.Decides.{nat_tests}
use Rattle.scripts.proofs.Places.{no_word}
use Rattle.scripts.proofs.Placing.{flows}
use Rattle.scripts.proofs.reader.flow.Goals as goal

pub returns-clause-placed : goal.returns-clause-placed
returns-clause-placed c =
    let cut = c.split_fault.ensures in
    let empty = c.if-not-is_empty.ensures in
    let bare = c.if-not-is_empty-2.ensures in
    flows c.args.before.now (map (λ w. w.now) c.args.args.now)
    (sym (no_word c.split_fault.result.0.now (grind (arith, nat_tests, empty))) ∙ cut.before)
    (sym (no_word c.split_fault.result.1.now (grind (arith, nat_tests, bare))) ∙ cut.behind)
    (rw c.if-is_none.ensures refl)

pub returns-then-not-is_empty-clause-placed : goal.returns-then-not-is_empty-clause-placed
returns-then-not-is_empty-clause-placed c = grind (arith, common_steps)

pub returns-then-not-is_empty-2-clause-placed : goal.returns-then-not-is_empty-2-clause-placed
returns-then-not-is_empty-2-clause-placed c = grind (arith, common_steps)

pub returns-then-is_none-clause-placed : goal.returns-then-is_none-clause-placed
returns-then-is_none-clause-placed c = grind (arith, common_steps)
