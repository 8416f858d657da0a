use Rattle.std.proofs.Common.{map, refl, arith}
use Rattle.std.proofs.lemmas.Grind.{common_steps}
use Rattle.scripts.proofs.Places.{only_word}
use Rattle.scripts.proofs.Placing.{read_delivery, delivers, undelivered}
use Rattle.scripts.proofs.reader.deliver.Goals as goal

pub returns-then-is_none : goal.returns-then-is_none
returns-then-is_none c =
    let cut = c.split_fault.ensures in
    let word = c.in-Some.ensures in
    let args = map (λ w. w.now) c.args.args.now in
    undelivered c.args.before.now args c.in-Some.place c.in_ok-fault.fault
    (read_delivery c.args.before.now.faults args _ _ c.in-Some.place c.in_ok-fault.fault cut.before
    cut.behind word.1
    (only_word c.split_fault.result.0.now _ _
    (omega (arith, c.in-len1.len_at_least, c.in-len1.len_below)) word.2) c.in_ok-fault.ensures)
    (rw c.if-is_none.ensures refl)

pub returns : goal.returns
returns c =
    let cut = c.split_fault.ensures in
    let word = c.in-Some.ensures in
    let args = map (λ w. w.now) c.args.args.now in
    rw c.in_ok-new.ensures (delivers c.args.before.now args c.in-Some.place c.in_ok-fault.fault
    (read_delivery c.args.before.now.faults args _ _ c.in-Some.place c.in_ok-fault.fault cut.before
    cut.behind word.1
    (only_word c.split_fault.result.0.now _ _
    (omega (arith, c.in-len1.len_at_least, c.in-len1.len_below)) word.2) c.in_ok-fault.ensures)
    (rw c.if-is_none.ensures refl))

pub returns-in_default : goal.returns-in_default
returns-in_default c = grind (arith, common_steps)

pub returns-in_default-number : goal.returns-in_default-number
returns-in_default-number c = grind (arith, common_steps)

pub returns-in_err-fault : goal.returns-in_err-fault
returns-in_err-fault c = grind (arith, common_steps)
