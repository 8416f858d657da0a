use Rattle.std.proofs.Common.{arith, ap, sym, ◌++◌, ◌∙◌, append_assoc}
use Rattle.std.proofs.lemmas.Grind.{common_steps}
use Rattle.kv_types.specs.{batch_bytes as batch_text}
use Rattle.link_messages.specs.Spelling.{fields, u16, u32, u64}
use Rattle.link_messages.proofs.Written.{put_behind}
use Rattle.link_messages.proofs.writing.put_link.Goals as goal

-- the sender stands before the batch
pub returns-in_ok-put_from-in-Forward-clause-spelled :
    goal.returns-in_ok-put_from-in-Forward-clause-spelled
returns-in_ok-put_from-in-Forward-clause-spelled c =
    let it = c.in-Forward in
    put_behind c.put_batch.result _ _ _ _ _ _ c.in_ok-put_from-in-Forward.ensures.spelled
    c.put_batch.ensures.spelled
    (ap fields it.is ∙ sym (append_assoc (u32 it.epoch) (u16 it.from)
    (u64 it.number ++ batch_text it.batch)))

-- and before the numbers
pub returns-in_ok-put_from-in-Ack-clause-spelled :
    goal.returns-in_ok-put_from-in-Ack-clause-spelled
returns-in_ok-put_from-in-Ack-clause-spelled c =
    let it = c.in-Ack in
    put_behind c.put_two.result _ _ _ _ _ _ c.in_ok-put_from-in-Ack.ensures.spelled
    c.put_two.ensures.spelled
    (ap fields it.is ∙ sym (append_assoc (u32 it.epoch) (u16 it.from)
    (u64 it.committed ++ u64 it.have)))

pub returns-in_err-put_from-in-Forward-clause-spelled :
    goal.returns-in_err-put_from-in-Forward-clause-spelled
returns-in_err-put_from-in-Forward-clause-spelled c = grind (arith, common_steps)

pub returns-in_err-put_from-in-Forward-clause-lawful :
    goal.returns-in_err-put_from-in-Forward-clause-lawful
returns-in_err-put_from-in-Forward-clause-lawful c = grind (arith, common_steps)

pub returns-in_err-put_from-in-Ack-clause-spelled :
    goal.returns-in_err-put_from-in-Ack-clause-spelled
returns-in_err-put_from-in-Ack-clause-spelled c = grind (arith, common_steps)

pub returns-in_err-put_from-in-Ack-clause-lawful : goal.returns-in_err-put_from-in-Ack-clause-lawful
returns-in_err-put_from-in-Ack-clause-lawful c = grind (arith, common_steps)

pub returns-in_err-put_epoch-in-Notice-clause-spelled :
    goal.returns-in_err-put_epoch-in-Notice-clause-spelled
returns-in_err-put_epoch-in-Notice-clause-spelled c = grind (arith, common_steps)

pub returns-in_err-put_epoch-in-Notice-clause-lawful :
    goal.returns-in_err-put_epoch-in-Notice-clause-lawful
returns-in_err-put_epoch-in-Notice-clause-lawful c = grind (arith, common_steps)

pub returns-in_ok-put_from-in-Forward-clause-lawful :
    goal.returns-in_ok-put_from-in-Forward-clause-lawful
returns-in_ok-put_from-in-Forward-clause-lawful c = grind (arith, common_steps)

pub returns-in_ok-put_from-in-Ack-clause-lawful : goal.returns-in_ok-put_from-in-Ack-clause-lawful
returns-in_ok-put_from-in-Ack-clause-lawful c = grind (arith, common_steps)

pub returns-in_ok-put_epoch-in-Notice-clause-spelled :
    goal.returns-in_ok-put_epoch-in-Notice-clause-spelled
returns-in_ok-put_epoch-in-Notice-clause-spelled c = grind (arith, common_steps)

pub returns-in_ok-put_epoch-in-Notice-clause-lawful :
    goal.returns-in_ok-put_epoch-in-Notice-clause-lawful
returns-in_ok-put_epoch-in-Notice-clause-lawful c = grind (arith, common_steps)

pub returns-in_default : goal.returns-in_default
returns-in_default c = grind (arith, common_steps)
