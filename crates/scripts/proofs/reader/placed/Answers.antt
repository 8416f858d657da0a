use Rattle.std.proofs.Common.{map, rules}
use Rattle.events.specs.declared.EventContent.{EventContent}
use Rattle.scripts.specs.Reading.{what_of}
use Rattle.scripts.proofs.Placing.{is_misplaced, is_placed, is_read, no_epoch}
use Rattle.scripts.proofs.reader.placed.Goals as goal

pub returns-in-Err-place : goal.returns-in-Err-place
returns-in-Err-place c =
    let cut = c.split_fault.ensures in let command = c.in_ok-command.ensures in
    let fault = c.in-Ok.ensures in
    let args = map (λ w. w.now) c.args.args.now in
    let event : EventContent = record {
      kind = what_of c.in_ok-command.command;
      fault = c.in-Ok.fault;
    } in
    search (
      rules,
      is_misplaced c.args.before.now c.args.name.now args event _ c.in-Err-place.e
          (is_read c.args.before.now.faults c.args.name.now args _ _ event cut.before cut.behind
          command.0 fault.0 command.1 command.2 fault.1) c.node.ensures
          (no_epoch c.in_ok-command.command) c.in-Err-place.ensures,
    )

pub returns-in_ok-action-in-Ok-place : goal.returns-in_ok-action-in-Ok-place
returns-in_ok-action-in-Ok-place c =
    let cut = c.split_fault.ensures in let command = c.in_ok-command.ensures in
    let fault = c.in-Ok.ensures in let at = c.in-Ok-place.ensures in
    let args = map (λ w. w.now) c.args.args.now in
    let event : EventContent = record {
      kind = what_of c.in_ok-command.command;
      fault = c.in-Ok.fault;
    } in
    is_placed c.args.before.now c.args.name.now args event _ c.in-Ok-place.node
    (is_read c.args.before.now.faults c.args.name.now args _ _ event cut.before cut.behind command.0
    fault.0 command.1 command.2 fault.1) (search rules) (no_epoch c.in_ok-command.command)
    (search rules)
    (search rules)
