use Rattle.std.proofs.Common.{arith}
use Rattle.std.proofs.lemmas.Grind.{common_steps}
use Rattle.dir_disk.proofs.folder.DirDisk.lock.Goals as goal

pub returns-in_err-path-clause-count : goal.returns-in_err-path-clause-count
returns-in_err-path-clause-count g c = grind (arith, common_steps)

pub returns-in_err-path-clause-locked : goal.returns-in_err-path-clause-locked
returns-in_err-path-clause-locked g c = grind (arith, common_steps)

pub returns-in_err-path-clause-folder : goal.returns-in_err-path-clause-folder
returns-in_err-path-clause-folder g c = grind (arith, common_steps)

pub returns-in_err-path-clause-writes : goal.returns-in_err-path-clause-writes
returns-in_err-path-clause-writes g c = grind (arith, common_steps)

pub returns-in_err-path-clause-refused : goal.returns-in_err-path-clause-refused
returns-in_err-path-clause-refused g c = grind (arith, common_steps)

pub returns-in_err-path-clause-held : goal.returns-in_err-path-clause-held
returns-in_err-path-clause-held g c = grind (arith, common_steps)

pub returns-in_err-locked-clause-count : goal.returns-in_err-locked-clause-count
returns-in_err-locked-clause-count g c = grind (arith, common_steps)

pub returns-in_err-locked-clause-locked : goal.returns-in_err-locked-clause-locked
returns-in_err-locked-clause-locked g c = grind (arith, common_steps)

pub returns-in_err-locked-clause-folder : goal.returns-in_err-locked-clause-folder
returns-in_err-locked-clause-folder g c = grind (arith, common_steps)

pub returns-in_err-locked-clause-writes : goal.returns-in_err-locked-clause-writes
returns-in_err-locked-clause-writes g c = grind (arith, common_steps)

pub returns-in_err-locked-clause-refused : goal.returns-in_err-locked-clause-refused
returns-in_err-locked-clause-refused g c = grind (arith, common_steps)

pub returns-in_err-locked-clause-held : goal.returns-in_err-locked-clause-held
returns-in_err-locked-clause-held g c = grind (arith, common_steps)

pub returns-in_ok-locked-clause-count : goal.returns-in_ok-locked-clause-count
returns-in_ok-locked-clause-count g c = grind (arith, common_steps)

pub returns-in_ok-locked-clause-locked : goal.returns-in_ok-locked-clause-locked
returns-in_ok-locked-clause-locked g c = grind (arith, common_steps)

pub returns-in_ok-locked-clause-folder : goal.returns-in_ok-locked-clause-folder
returns-in_ok-locked-clause-folder g c = grind (arith, common_steps)

pub returns-in_ok-locked-clause-writes : goal.returns-in_ok-locked-clause-writes
returns-in_ok-locked-clause-writes g c = grind (arith, common_steps)

pub returns-in_ok-locked-clause-refused : goal.returns-in_ok-locked-clause-refused
returns-in_ok-locked-clause-refused g c = grind (arith, common_steps)

pub returns-in_ok-locked-clause-held : goal.returns-in_ok-locked-clause-held
returns-in_ok-locked-clause-held g c = grind (arith, common_steps)

pub returns-else-is_none-clause-count : goal.returns-else-is_none-clause-count
returns-else-is_none-clause-count g c = grind (arith, common_steps)

pub returns-else-is_none-clause-locked : goal.returns-else-is_none-clause-locked
returns-else-is_none-clause-locked g c = grind (arith, common_steps)

pub returns-else-is_none-clause-folder : goal.returns-else-is_none-clause-folder
returns-else-is_none-clause-folder g c = grind (arith, common_steps)

pub returns-else-is_none-clause-writes : goal.returns-else-is_none-clause-writes
returns-else-is_none-clause-writes g c = grind (arith, common_steps)

pub returns-else-is_none-clause-refused : goal.returns-else-is_none-clause-refused
returns-else-is_none-clause-refused g c = grind (arith, common_steps)

pub returns-else-is_none-clause-held : goal.returns-else-is_none-clause-held
returns-else-is_none-clause-held g c = grind (arith, common_steps)
