use Rattle.std.proofs.Common.{rules, arith}
use Rattle.std.proofs.lemmas.Grind.{common_steps}
use Rattle.script_words.proofs.Edits.{is_put}
use Rattle.script_words.proofs.edit.raw_edit_of.Goals as goal

pub returns : goal.returns
returns c = search (
  rules,
  is_put c.args.word.now c.in-Some-3.key.items c.in-Some-4.value.items
      c.in-Some-place_of_equals.place,
)

pub returns-in_default-3 : goal.returns-in_default-3
returns-in_default-3 c = grind (arith, common_steps)
