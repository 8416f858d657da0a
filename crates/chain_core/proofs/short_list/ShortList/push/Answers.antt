use Rattle.std.proofs.Common.{arith}
use Rattle.std.proofs.lemmas.Grind.{common_steps}
use Rattle.chain_core.proofs.short_list.ShortList.push.Goals as goal

pub returns-in_err-all-in-One-clause-pushed : goal.returns-in_err-all-in-One-clause-pushed
returns-in_err-all-in-One-clause-pushed g c = grind (arith, common_steps)

pub returns-in_err-all-in-One-clause-refused : goal.returns-in_err-all-in-One-clause-refused
returns-in_err-all-in-One-clause-refused g c = grind (arith, common_steps)

pub returns-in_err-push-in-One-clause-pushed : goal.returns-in_err-push-in-One-clause-pushed
returns-in_err-push-in-One-clause-pushed g c = grind (arith, common_steps)

pub returns-in_err-push-in-One-clause-refused : goal.returns-in_err-push-in-One-clause-refused
returns-in_err-push-in-One-clause-refused g c = grind (arith, common_steps)

pub returns-in_err-push-in-One-2-clause-pushed : goal.returns-in_err-push-in-One-2-clause-pushed
returns-in_err-push-in-One-2-clause-pushed g c = grind (arith, common_steps)

pub returns-in_err-push-in-One-2-clause-refused : goal.returns-in_err-push-in-One-2-clause-refused
returns-in_err-push-in-One-2-clause-refused g c = grind (arith, common_steps)

pub returns-in_err-push-in-Many-clause-pushed : goal.returns-in_err-push-in-Many-clause-pushed
returns-in_err-push-in-Many-clause-pushed g c = grind (arith, common_steps)

pub returns-in_err-push-in-Many-clause-refused : goal.returns-in_err-push-in-Many-clause-refused
returns-in_err-push-in-Many-clause-refused g c = grind (arith, common_steps)

pub returns-in-None-clause-pushed : goal.returns-in-None-clause-pushed
returns-in-None-clause-pushed g c = grind (arith, common_steps)

pub returns-in-None-clause-refused : goal.returns-in-None-clause-refused
returns-in-None-clause-refused g c = grind (arith, common_steps)

pub returns-in_ok-push-in-One-2-clause-pushed : goal.returns-in_ok-push-in-One-2-clause-pushed
returns-in_ok-push-in-One-2-clause-pushed g c = grind (arith, common_steps)

pub returns-in_ok-push-in-One-2-clause-refused : goal.returns-in_ok-push-in-One-2-clause-refused
returns-in_ok-push-in-One-2-clause-refused g c = grind (arith, common_steps)

pub returns-in_ok-push-in-Many-clause-pushed : goal.returns-in_ok-push-in-Many-clause-pushed
returns-in_ok-push-in-Many-clause-pushed g c = grind (arith, common_steps)

pub returns-in_ok-push-in-Many-clause-refused : goal.returns-in_ok-push-in-Many-clause-refused
returns-in_ok-push-in-Many-clause-refused g c = grind (arith, common_steps)
