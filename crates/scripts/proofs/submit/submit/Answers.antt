use Rattle.std.proofs.Common.{codes, map, refl}
use Rattle.scripts.proofs.Placing.{is_misplaced, is_placed, is_read}
use Rattle.scripts.proofs.Submits.{of_refusal, submitting}
use Rattle.scripts.proofs.submit.submit.Goals as goal

pub returns-in_err-node-2 : goal.returns-in_err-node-2
returns-in_err-node-2 c =
    let cut = c.split_fault.ensures in let read = c.in_ok-node.ensures in
    let node = c.in_ok-node.node in let args = map (λ w. w.now) c.args.args.now in
    let event = submitting node read.1.0 c.in_ok-fault.fault in
    let e = c.in_err-node-2.field-0.0 in
    of_refusal c.args.before.now (codes "submit") args e c.from_residual-in_err-node-2.result
    c.from_residual-in_err-node-2.ensures.1 (is_misplaced c.args.before.now (codes "submit") args
    event node e (is_read c.args.before.now.faults (codes "submit") args _ _ event cut.before
    cut.behind read.0 refl read.1.1 read.1.2 c.in_ok-fault.ensures) refl refl
    c.in_err-node-2.ensures)

pub returns : goal.returns
returns c =
    let cut = c.split_fault.ensures in let read = c.in_ok-node.ensures in
    let place = c.in_ok-node-2.ensures in let node = c.in_ok-node.node in
    let args = map (λ w. w.now) c.args.args.now in
    let event = submitting node read.1.0 c.in_ok-fault.fault in
    is_placed c.args.before.now (codes "submit") args event _ node
    (is_read c.args.before.now.faults (codes "submit") args _ _ event cut.before cut.behind read.0
    refl read.1.1 read.1.2 c.in_ok-fault.ensures) refl refl place.1
    (rw place.0 at (c.in_ok-submitted.ensures read.1.0 read.1.3))
