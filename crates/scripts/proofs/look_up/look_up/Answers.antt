use Rattle.std.proofs.Common.{codes, map, refl}
use Rattle.events.specs.declared.EventContent.{EventContent}
use Rattle.scripts.specs.Reading.{looking_up}
use Rattle.scripts.proofs.Placing.{is_misplaced, is_placed, is_read}
use Rattle.scripts.proofs.Submits.{of_refusal}
use Rattle.scripts.proofs.look_up.look_up.Goals as goal

pub returns-in_err-node-2 : goal.returns-in_err-node-2
returns-in_err-node-2 c =
    let cut = c.split_fault.ensures in let read = c.in_ok-node.ensures in
    let lookup = c.in_ok-node.field-0 in let args = map (λ w. w.now) c.args.args.now in
    let event : EventContent = record {
      kind = looking_up lookup;
      fault = c.in_ok-fault.fault;
    } in
    let e = c.in_err-node-2.field-0.0 in
    of_refusal c.args.before.now (codes "get") args e c.from_residual-in_err-node-2.result
    c.from_residual-in_err-node-2.ensures.1 (is_misplaced c.args.before.now (codes "get") args
    event lookup.node e (is_read c.args.before.now.faults (codes "get") args _ _ event cut.before
    cut.behind read.0 refl read.1 read.2 c.in_ok-fault.ensures) refl refl
    c.in_err-node-2.ensures)

pub returns-in_ok-new-in-Ok : goal.returns-in_ok-new-in-Ok
returns-in_ok-new-in-Ok c =
    let cut = c.split_fault.ensures in let read = c.in_ok-node.ensures in
    let place = c.in_ok-node-2.ensures in let lookup = c.in_ok-node.field-0 in
    let args = map (λ w. w.now) c.args.args.now in
    let event : EventContent = record {
      kind = looking_up lookup;
      fault = c.in_ok-fault.fault;
    } in
    is_placed c.args.before.now (codes "get") args event _ lookup.node
    (is_read c.args.before.now.faults (codes "get") args _ _ event cut.before cut.behind read.0
    refl read.1 read.2 c.in_ok-fault.ensures) refl refl place.1
    (rw (c.in_ok-new-in-Ok.ensures, place.0, c.in-Ok.ensures.0, c.in-Ok.ensures.1) refl)

pub returns-in-Err : goal.returns-in-Err
returns-in-Err c =
    let cut = c.split_fault.ensures in let read = c.in_ok-node.ensures in
    let place = c.in_ok-node-2.ensures in let lookup = c.in_ok-node.field-0 in
    let args = map (λ w. w.now) c.args.args.now in
    let event : EventContent = record {
      kind = looking_up lookup;
      fault = c.in_ok-fault.fault;
    } in
    is_placed c.args.before.now (codes "get") args event _ lookup.node
    (is_read c.args.before.now.faults (codes "get") args _ _ event cut.before cut.behind read.0
    refl read.1 read.2 c.in_ok-fault.ensures) refl refl place.1
    (rw c.in-Err.ensures refl)
