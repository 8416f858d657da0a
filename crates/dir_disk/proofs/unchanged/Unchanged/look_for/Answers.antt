use Rattle.std.proofs.Common.{arith}
use Rattle.std.proofs.lemmas.Grind.{common_steps}
use Rattle.dir_disk.proofs.unchanged.Unchanged.look_for.Goals as goal

pub returns-in_err-may_look-clause-counts : goal.returns-in_err-may_look-clause-counts
returns-in_err-may_look-clause-counts g c = grind (arith, common_steps)

pub returns-in_err-may_look-clause-same : goal.returns-in_err-may_look-clause-same
returns-in_err-may_look-clause-same g c = grind (arith, common_steps)

pub returns-in_err-may_look-clause-left_out : goal.returns-in_err-may_look-clause-left_out
returns-in_err-may_look-clause-left_out g c = grind (arith, common_steps)

pub returns-in_err-may_look-clause-memory : goal.returns-in_err-may_look-clause-memory
returns-in_err-may_look-clause-memory g c = grind (arith, common_steps)

pub returns-in_err-may_look-clause-found : goal.returns-in_err-may_look-clause-found
returns-in_err-may_look-clause-found g c = grind (arith, common_steps)

pub returns-in_err-length-clause-counts : goal.returns-in_err-length-clause-counts
returns-in_err-length-clause-counts g c = grind (arith, common_steps)

pub returns-in_err-length-clause-same : goal.returns-in_err-length-clause-same
returns-in_err-length-clause-same g c = grind (arith, common_steps)

pub returns-in_err-length-clause-once : goal.returns-in_err-length-clause-once
returns-in_err-length-clause-once g c = grind (arith, common_steps)

pub returns-in_err-length-clause-left_out : goal.returns-in_err-length-clause-left_out
returns-in_err-length-clause-left_out g c = grind (arith, common_steps)

pub returns-in_err-length-clause-memory : goal.returns-in_err-length-clause-memory
returns-in_err-length-clause-memory g c = grind (arith, common_steps)

pub returns-in_err-length-clause-found : goal.returns-in_err-length-clause-found
returns-in_err-length-clause-found g c = grind (arith, common_steps)

pub returns-clause-counts : goal.returns-clause-counts
returns-clause-counts g c = grind (arith, common_steps)

pub returns-clause-same : goal.returns-clause-same
returns-clause-same g c = grind (arith, common_steps)

pub returns-clause-once : goal.returns-clause-once
returns-clause-once g c = grind (arith, common_steps)

pub returns-clause-left_out : goal.returns-clause-left_out
returns-clause-left_out g c = grind (arith, common_steps)

pub returns-clause-memory : goal.returns-clause-memory
returns-clause-memory g c = grind (arith, common_steps)

pub returns-clause-found : goal.returns-clause-found
returns-clause-found g c = grind (arith, common_steps)
