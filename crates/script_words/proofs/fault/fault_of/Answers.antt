use Rattle.std.proofs.Common.{rules}
use Rattle.script_words.proofs.FaultWords.{too_few, too_many}
use Rattle.script_words.proofs.fault.fault_of.Goals as goal

pub returns-in_default : goal.returns-in_default
returns-in_default c = elim c.in_default.branch [
  | goal.in_default-via-then-words-lt2 w ↦ too_few c.args.words.now (search rules)
  | goal.in_default-via-else-words-lt2+else-words-lt3+else-words-lt4 w ↦
      too_many c.args.words.now (search rules)
]
