use Rattle.std.proofs.Common.{◌∙◌, sym, map}
use Rattle.script_words.proofs.FaultWords.{splits_at, others_at, has_none, has_others}
use Rattle.script_words.specs.FaultWordsLemmas.{faultless_before}
use Rattle.script_words.proofs.FaultWords.{none_behind}
use Rattle.script_words.proofs.Slices.{rest_is}
use Rattle.script_words.proofs.fault.split_fault.Goals as goal

pub returns-in-None-clause-before : goal.returns-in-None-clause-before
returns-in-None-clause-before c =
    faultless_before _ (has_none c.args.words.now (sym c.place_of_fault.ensures ∙ c.in-None.is))

pub returns-in-None-clause-behind : goal.returns-in-None-clause-behind
returns-in-None-clause-behind c =
    none_behind (map (λ w. w.now) c.args.words.now)
    (has_none c.args.words.now (sym c.place_of_fault.ensures ∙ c.in-None.is))

pub returns-in-None-clause-has : goal.returns-in-None-clause-has
returns-in-None-clause-has c =
    sym (has_none c.args.words.now (sym c.place_of_fault.ensures ∙ c.in-None.is))

pub returns-in-Some-clause-before : goal.returns-in-Some-clause-before
returns-in-Some-clause-before c =
    splits_at c.args.words.now c.in-Some.place (sym c.place_of_fault.ensures ∙ c.in-Some.is)

pub returns-in-Some-clause-behind : goal.returns-in-Some-clause-behind
returns-in-Some-clause-behind c = rw (rest_is c.in-Some.place c.args.words.now)
    (others_at c.args.words.now c.in-Some.place (sym c.place_of_fault.ensures ∙ c.in-Some.is))

pub returns-in-Some-clause-has : goal.returns-in-Some-clause-has
returns-in-Some-clause-has c = rw (rest_is c.in-Some.place c.args.words.now)
    (has_others c.args.words.now c.in-Some.place (sym c.place_of_fault.ensures ∙ c.in-Some.is))
