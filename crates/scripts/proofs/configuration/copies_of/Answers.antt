use Rattle.std.proofs.Common.{arith}
use Rattle.std.proofs.lemmas.Grind.{common_steps}
use Rattle.scripts.proofs.configuration.copies_of.Goals as goal

pub returns-in_default-clause-copies : goal.returns-in_default-clause-copies
returns-in_default-clause-copies c = grind (arith, common_steps)

pub returns-in_default-clause-lawful : goal.returns-in_default-clause-lawful
returns-in_default-clause-lawful c = grind (arith, common_steps)

pub returns-in_err-clone-clause-copies : goal.returns-in_err-clone-clause-copies
returns-in_err-clone-clause-copies c = grind (arith, common_steps)

pub returns-in_err-clone-clause-lawful : goal.returns-in_err-clone-clause-lawful
returns-in_err-clone-clause-lawful c = grind (arith, common_steps)

pub returns-in_err-push-clause-copies : goal.returns-in_err-push-clause-copies
returns-in_err-push-clause-copies c = grind (arith, common_steps)

pub returns-in_err-push-clause-lawful : goal.returns-in_err-push-clause-lawful
returns-in_err-push-clause-lawful c = grind (arith, common_steps)

pub returns-clause-copies : goal.returns-clause-copies
returns-clause-copies c = grind (arith, common_steps)

pub returns-clause-lawful : goal.returns-clause-lawful
returns-clause-lawful c = grind (arith, common_steps)
