use Rattle.std.proofs.Common.{arith}
use Rattle.std.proofs.lemmas.Grind.{common_steps}
use Rattle.link_messages.proofs.writing.put_reply.Goals as goal

pub returns-in_err-put_two-in-Value-clause-spelled :
    goal.returns-in_err-put_two-in-Value-clause-spelled
returns-in_err-put_two-in-Value-clause-spelled c = grind (arith, common_steps)

pub returns-in_err-put_two-in-Value-clause-lawful :
    goal.returns-in_err-put_two-in-Value-clause-lawful
returns-in_err-put_two-in-Value-clause-lawful c = grind (arith, common_steps)

pub returns-in_err-put_two-in-RowsAre-clause-spelled :
    goal.returns-in_err-put_two-in-RowsAre-clause-spelled
returns-in_err-put_two-in-RowsAre-clause-spelled c = grind (arith, common_steps)

pub returns-in_err-put_two-in-RowsAre-clause-lawful :
    goal.returns-in_err-put_two-in-RowsAre-clause-lawful
returns-in_err-put_two-in-RowsAre-clause-lawful c = grind (arith, common_steps)

pub returns-in_err-put_number-in-Refused-clause-spelled :
    goal.returns-in_err-put_number-in-Refused-clause-spelled
returns-in_err-put_number-in-Refused-clause-spelled c = grind (arith, common_steps)

pub returns-in_err-put_number-in-Refused-clause-lawful :
    goal.returns-in_err-put_number-in-Refused-clause-lawful
returns-in_err-put_number-in-Refused-clause-lawful c = grind (arith, common_steps)

pub returns-in-Committed-clause-spelled : goal.returns-in-Committed-clause-spelled
returns-in-Committed-clause-spelled c = grind (arith, common_steps)

pub returns-in-Committed-clause-lawful : goal.returns-in-Committed-clause-lawful
returns-in-Committed-clause-lawful c = grind (arith, common_steps)

pub returns-in_ok-put_two-in-Value-clause-spelled :
    goal.returns-in_ok-put_two-in-Value-clause-spelled
returns-in_ok-put_two-in-Value-clause-spelled c = grind (arith, common_steps)

pub returns-in_ok-put_two-in-Value-clause-lawful : goal.returns-in_ok-put_two-in-Value-clause-lawful
returns-in_ok-put_two-in-Value-clause-lawful c = grind (arith, common_steps)

pub returns-in_ok-put_two-in-RowsAre-clause-spelled :
    goal.returns-in_ok-put_two-in-RowsAre-clause-spelled
returns-in_ok-put_two-in-RowsAre-clause-spelled c = grind (arith, common_steps)

pub returns-in_ok-put_two-in-RowsAre-clause-lawful :
    goal.returns-in_ok-put_two-in-RowsAre-clause-lawful
returns-in_ok-put_two-in-RowsAre-clause-lawful c = grind (arith, common_steps)

pub returns-in-Opened-clause-spelled : goal.returns-in-Opened-clause-spelled
returns-in-Opened-clause-spelled c = grind (arith, common_steps)

pub returns-in-Opened-clause-lawful : goal.returns-in-Opened-clause-lawful
returns-in-Opened-clause-lawful c = grind (arith, common_steps)

pub returns-in_ok-put_number-in-Refused-clause-spelled :
    goal.returns-in_ok-put_number-in-Refused-clause-spelled
returns-in_ok-put_number-in-Refused-clause-spelled c = grind (arith, common_steps)

pub returns-in_ok-put_number-in-Refused-clause-lawful :
    goal.returns-in_ok-put_number-in-Refused-clause-lawful
returns-in_ok-put_number-in-Refused-clause-lawful c = grind (arith, common_steps)

pub returns-in-Closed-clause-spelled : goal.returns-in-Closed-clause-spelled
returns-in-Closed-clause-spelled c = grind (arith, common_steps)

pub returns-in-Closed-clause-lawful : goal.returns-in-Closed-clause-lawful
returns-in-Closed-clause-lawful c = grind (arith, common_steps)

pub returns-in_default : goal.returns-in_default
returns-in_default c = grind (arith, common_steps)
