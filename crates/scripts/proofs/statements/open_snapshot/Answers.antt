use Rattle.std.proofs.Common.{arith}
use Rattle.std.proofs.lemmas.Grind.{common_steps}
use Rattle.scripts.proofs.statements.open_snapshot.Goals as goal

pub returns-in_default-clause-read : goal.returns-in_default-clause-read
returns-in_default-clause-read c = grind (arith, common_steps)

pub returns-in_default-clause-memory : goal.returns-in_default-clause-memory
returns-in_default-clause-memory c = grind (arith, common_steps)

pub returns-in_default-number-clause-read : goal.returns-in_default-number-clause-read
returns-in_default-number-clause-read c = grind (arith, common_steps)

pub returns-in_default-number-clause-memory : goal.returns-in_default-number-clause-memory
returns-in_default-number-clause-memory c = grind (arith, common_steps)

pub returns-in-None-clause-read : goal.returns-in-None-clause-read
returns-in-None-clause-read c = grind (arith, common_steps)

pub returns-in-None-clause-memory : goal.returns-in-None-clause-memory
returns-in-None-clause-memory c = grind (arith, common_steps)

pub returns-in-None-batch_number-clause-read : goal.returns-in-None-batch_number-clause-read
returns-in-None-batch_number-clause-read c = grind (arith, common_steps)

pub returns-in-None-batch_number-clause-memory : goal.returns-in-None-batch_number-clause-memory
returns-in-None-batch_number-clause-memory c = grind (arith, common_steps)

pub returns-in_default-batch_number-clause-read : goal.returns-in_default-batch_number-clause-read
returns-in_default-batch_number-clause-read c = grind (arith, common_steps)

pub returns-in_default-batch_number-clause-memory :
    goal.returns-in_default-batch_number-clause-memory
returns-in_default-batch_number-clause-memory c = grind (arith, common_steps)
