use Rattle.std.proofs.Common.{Ok, refl}
use Rattle.chain_core.specs.declared.Decision.TheVariants as decision
use Rattle.node.proofs.Ends.{executes_as, executes_at_rest}
use Rattle.node.proofs.node.Node.perform.Goals as goal

-- what the rule promises is promised of the decision
pub returns-in-Accept : goal.returns-in-Accept
returns-in-Accept g c =
    let e = c.append.ensures in
    executes_as g.D.Disk c.args.self.now c.append.new.self c.args.decision
    (decision.Accept c.in-Accept.request c.in-Accept.batch) c.append.result c.in-Accept.is
    (record { kept = e.kept; ends = λ x n input read. e.ends x n input tt })

pub returns-in-Append : goal.returns-in-Append
returns-in-Append g c =
    let e = c.append-in-Append.ensures in
    executes_as g.D.Disk c.args.self.now c.append-in-Append.new.self c.args.decision
    (decision.Append c.in-Append.batch) c.append-in-Append.result c.in-Append.is
    (record { kept = e.kept; ends = λ x n input read. e.ends x n input tt })

pub returns-in-Repeat : goal.returns-in-Repeat
returns-in-Repeat g c =
    let it = c.in-Repeat in
    executes_as g.D.Disk c.args.self.now c.repeat.new.self c.args.decision
    (decision.Repeat it.request it.number) c.repeat.result it.is c.repeat.ensures.followed

pub returns-in-OnAck : goal.returns-in-OnAck
returns-in-OnAck g c =
    executes_as g.D.Disk c.args.self.now c.on_ack.new.self c.args.decision
    (decision.OnAck c.in-OnAck.committed c.in-OnAck.have) c.on_ack.result c.in-OnAck.is
    c.on_ack.ensures.followed

pub returns-in-Adopt : goal.returns-in-Adopt
returns-in-Adopt g c =
    let it = c.in-Adopt in
    executes_as g.D.Disk c.args.self.now c.adopt.new.self c.args.decision
    (decision.Adopt it.epoch it.config) c.adopt.result it.is c.adopt.ensures

pub returns-in-Read : goal.returns-in-Read
returns-in-Read g c =
    let it = c.in-Read in
    executes_as g.D.Disk c.args.self.now c.read.new.self c.args.decision
    (decision.Read it.request it.key it.at) c.read.result it.is c.read.ensures

pub returns-in-ReadRows : goal.returns-in-ReadRows
returns-in-ReadRows g c =
    let it = c.in-ReadRows in
    executes_as g.D.Disk c.args.self.now c.read_rows.new.self c.args.decision
    (decision.ReadRows it.request it.range it.at) c.read_rows.result it.is c.read_rows.ensures

pub returns-in-Open : goal.returns-in-Open
returns-in-Open g c =
    let it = c.in-Open in
    executes_as g.D.Disk c.args.self.now c.open.new.self c.args.decision
    (decision.Open it.request it.number) c.open.result it.is c.open.ensures

pub returns-in-Close : goal.returns-in-Close
returns-in-Close g c =
    let it = c.in-Close in
    executes_as g.D.Disk c.args.self.now c.close.new.self c.args.decision
    (decision.Close it.request it.number) c.close.result it.is c.close.ensures

pub returns-in-Resend : goal.returns-in-Resend
returns-in-Resend g c =
    executes_as g.D.Disk c.args.self.now c.resend.new.self c.args.decision decision.Resend
    c.resend.result c.in-Resend.is c.resend.ensures

-- the output of a rule that changes nothing follows from the node's numbers and batches
pub returns-in-AckDuplicate : goal.returns-in-AckDuplicate
returns-in-AckDuplicate g c =
    let node = c.args.self.now in
    let result = c.map_err.result in
    executes_as g.D.Disk node node c.args.decision decision.AckDuplicate result
    c.in-AckDuplicate.is
    (executes_at_rest g.D.Disk node decision.AckDuplicate c.ack_duplicate.result result
    c.requires.may (λ x n. refl) (λ n input is. c.ack_duplicate.ensures n input is)
    c.map_err.ensures.cases)

pub returns-in-Refuse : goal.returns-in-Refuse
returns-in-Refuse g c =
    let node = c.args.self.now in
    let known = decision.Refuse c.in-Refuse.request c.in-Refuse.refusal in
    executes_as g.D.Disk node node c.args.decision known (Ok c.refuse.result) c.in-Refuse.is
    (executes_at_rest g.D.Disk node known (Ok c.refuse.result) (Ok c.refuse.result) c.requires.may
    (λ x n. refl) (λ n input is. c.refuse.ensures n input) refl)

pub returns-in-Drop : goal.returns-in-Drop
returns-in-Drop g c =
    let node = c.args.self.now in
    let known = decision.Drop c.in-Drop.reason in
    let output = c.output_of_drop in
    executes_as g.D.Disk node node c.args.decision known (Ok output.result) c.in-Drop.is
    (executes_at_rest g.D.Disk node known (Ok output.result) (Ok output.result) c.requires.may
    (λ x n. refl) (λ n input is. output.ensures n input) refl)
