use Rattle.std.proofs.Common.{arith}
use Rattle.std.proofs.lemmas.Grind.{common_steps}
use Rattle.std.proofs.lemmas.Grind.{common_steps}
use Rattle.script_words.specs.Words.{is_number}
use Rattle.scripts.proofs.Places.{all_texts}
use Rattle.scripts.proofs.configuration.numbers.Goals as goal

pub returns-in_default : goal.returns-in_default
returns-in_default c = rw (all_texts is_number c.args.words.now) (grind (arith, common_steps))

pub returns : goal.returns
returns c = (
  rw (all_texts is_number c.args.words.now) (grind (arith, common_steps)),
  grind (arith, common_steps),
  grind (arith, common_steps),
)

pub loop-word-preserved : goal.loop-word-preserved
loop-word-preserved c = grind (arith, common_steps)
