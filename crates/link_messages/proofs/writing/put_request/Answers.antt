use Rattle.std.proofs.Common.{arith}
use Rattle.std.proofs.lemmas.Grind.{common_steps}
use Rattle.link_messages.proofs.writing.put_request.Goals as goal

pub returns-in_err-put_asked-in-Get-clause-spelled :
    goal.returns-in_err-put_asked-in-Get-clause-spelled
returns-in_err-put_asked-in-Get-clause-spelled c = grind (arith, common_steps)

pub returns-in_err-put_asked-in-Get-clause-lawful :
    goal.returns-in_err-put_asked-in-Get-clause-lawful
returns-in_err-put_asked-in-Get-clause-lawful c = grind (arith, common_steps)

pub returns-in_err-put_asked-in-Rows-clause-spelled :
    goal.returns-in_err-put_asked-in-Rows-clause-spelled
returns-in_err-put_asked-in-Rows-clause-spelled c = grind (arith, common_steps)

pub returns-in_err-put_asked-in-Rows-clause-lawful :
    goal.returns-in_err-put_asked-in-Rows-clause-lawful
returns-in_err-put_asked-in-Rows-clause-lawful c = grind (arith, common_steps)

pub returns-in-Submit-clause-spelled : goal.returns-in-Submit-clause-spelled
returns-in-Submit-clause-spelled c = grind (arith, common_steps)

pub returns-in-Submit-clause-lawful : goal.returns-in-Submit-clause-lawful
returns-in-Submit-clause-lawful c = grind (arith, common_steps)

pub returns-in_ok-put_asked-in-Get-clause-spelled :
    goal.returns-in_ok-put_asked-in-Get-clause-spelled
returns-in_ok-put_asked-in-Get-clause-spelled c = grind (arith, common_steps)

pub returns-in_ok-put_asked-in-Get-clause-lawful : goal.returns-in_ok-put_asked-in-Get-clause-lawful
returns-in_ok-put_asked-in-Get-clause-lawful c = grind (arith, common_steps)

pub returns-in_ok-put_asked-in-Rows-clause-spelled :
    goal.returns-in_ok-put_asked-in-Rows-clause-spelled
returns-in_ok-put_asked-in-Rows-clause-spelled c = grind (arith, common_steps)

pub returns-in_ok-put_asked-in-Rows-clause-lawful :
    goal.returns-in_ok-put_asked-in-Rows-clause-lawful
returns-in_ok-put_asked-in-Rows-clause-lawful c = grind (arith, common_steps)

pub returns-in-Open-clause-spelled : goal.returns-in-Open-clause-spelled
returns-in-Open-clause-spelled c = grind (arith, common_steps)

pub returns-in-Open-clause-lawful : goal.returns-in-Open-clause-lawful
returns-in-Open-clause-lawful c = grind (arith, common_steps)

pub returns-in-Close-clause-spelled : goal.returns-in-Close-clause-spelled
returns-in-Close-clause-spelled c = grind (arith, common_steps)

pub returns-in-Close-clause-lawful : goal.returns-in-Close-clause-lawful
returns-in-Close-clause-lawful c = grind (arith, common_steps)

pub returns-in_default : goal.returns-in_default
returns-in_default c = grind (arith, common_steps)
