use Rattle.std.proofs.lemmas.Grind.{common_steps}
use Rattle.std.proofs.Common.{◌≡◌, ◌∙◌, arith, false, map, refl, rules, sym}
use Rattle.std.proofs.lemmas.Bool.Decides.{nat_tests}
use Rattle.script_words.specs.Words.{has_fault}
use Rattle.script_words.specs.FaultWordsLemmas.{faultless_before}
use Rattle.scripts.proofs.LimitLines.{sets_one, two_words}
use Rattle.scripts.proofs.reader.limit.Goals as goal

-- two words, and none behind them
pub returns-in-Some-limit_of : goal.returns-in-Some-limit_of
returns-in-Some-limit_of c =
    let cut = c.split_fault.ensures in
    let args = map (λ w. w.now) c.args.args.now in
    let none : has_fault args ≡ false =
    grind (arith, nat_tests, cut.has, c.if-not-is_empty.ensures) in
    let front = sym (faultless_before args (sym none)) in
    let word = c.in-Some.ensures in
    sets_one c.args.before.now args _ c.in-Some-limit_of.limit c.in-Some.number
    (sym front ∙ sym cut.before ∙ two_words c.split_fault.result.0.now _ _ _
    (omega (arith, c.in-len2.len_at_least, c.in-len2.len_below)) refl word.2)
    front none word.1 (sym c.limit_of.ensures ∙ c.in-Some-limit_of.is)
    (sym c.allows.ensures ∙ c.if-allows.true) (search rules)

pub returns-in_default-2 : goal.returns-in_default-2
returns-in_default-2 c = grind (arith, common_steps)

pub returns-in_default-number : goal.returns-in_default-number
returns-in_default-number c = grind (arith, common_steps)

pub returns-then-not-is_empty : goal.returns-then-not-is_empty
returns-then-not-is_empty c = grind (arith, common_steps)

pub returns-then-is_some : goal.returns-then-is_some
returns-then-is_some c = grind (arith, common_steps)

pub returns-in_default-limit_of : goal.returns-in_default-limit_of
returns-in_default-limit_of c = grind (arith, common_steps)

pub returns-in_default-limit_of-2 : goal.returns-in_default-limit_of-2
returns-in_default-limit_of-2 c = grind (arith, common_steps)
