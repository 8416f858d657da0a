use Rattle.std.proofs.Common.{arith}
use Rattle.std.proofs.lemmas.Grind.{common_steps}
use Rattle.link_messages.proofs.writing.write.Goals as goal

pub returns-in_err-out-clause-spelled : goal.returns-in_err-out-clause-spelled
returns-in_err-out-clause-spelled c = grind (arith, common_steps)

pub returns-in_err-out-clause-lawful : goal.returns-in_err-out-clause-lawful
returns-in_err-out-clause-lawful c = grind (arith, common_steps)

pub returns-in_err-extend_from_slice-clause-spelled :
    goal.returns-in_err-extend_from_slice-clause-spelled
returns-in_err-extend_from_slice-clause-spelled c = grind (arith, common_steps)

pub returns-in_err-extend_from_slice-clause-lawful :
    goal.returns-in_err-extend_from_slice-clause-lawful
returns-in_err-extend_from_slice-clause-lawful c = grind (arith, common_steps)

pub returns-in_err-push-clause-spelled : goal.returns-in_err-push-clause-spelled
returns-in_err-push-clause-spelled c = grind (arith, common_steps)

pub returns-in_err-push-clause-lawful : goal.returns-in_err-push-clause-lawful
returns-in_err-push-clause-lawful c = grind (arith, common_steps)

pub returns-in_err-put_fields-clause-spelled : goal.returns-in_err-put_fields-clause-spelled
returns-in_err-put_fields-clause-spelled c = grind (arith, common_steps)

pub returns-in_err-put_fields-clause-lawful : goal.returns-in_err-put_fields-clause-lawful
returns-in_err-put_fields-clause-lawful c = grind (arith, common_steps)

pub returns-clause-spelled : goal.returns-clause-spelled
returns-clause-spelled c = grind (arith, common_steps)

pub returns-clause-lawful : goal.returns-clause-lawful
returns-clause-lawful c = grind (arith, common_steps)
