use Rattle.std.proofs.Common.{List, ℕ, Some, Ok, ap, arith, drop, length}
use Rattle.std.proofs.lemmas.List.{length-drop}
use Rattle.link_messages.specs.{NextOutcome}
use Rattle.carriers.proofs.Reading.{read_all, read_no}
use Rattle.carriers.proofs.sending.read_frame.Goals as goal

pub returns-in-Err : goal.returns-in-Err
returns-in-Err c = read_no c.one_answer.ensures.one c.in-Err.e c.args.bytes.now c.args.bytes.now
    c.in-Err.ensures.answer c.unread.result c.unread.ensures

-- a frame with bytes behind it is not one alone
pub returns-then-len-bytes : goal.returns-then-len-bytes
returns-then-len-bytes c = λ frame is.
    let found = c.in-Ok-Some.found in
    let bytes = c.args.bytes.now in
    let left : List ℕ = drop found.1 bytes in
    let answer : NextOutcome (Ok (Some found.0)) bytes left =
    rw c.in-Ok-Some.field-0-is at c.in-Ok-Some.ensures.answer in
    let none = read_all c.one_answer.ensures.one found.0 frame bytes left is answer in
    absurd (omega (arith, length-drop found.1 bytes, ap length none, c.if-len-bytes.true))
