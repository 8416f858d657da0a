use Rattle.std.proofs.Common.{arith, map}
use Rattle.std.proofs.lemmas.Grind.{common_steps}
use Rattle.scripts.proofs.LimitLines.{two_words}
use Rattle.scripts.proofs.Notices.{notices, read_notice}
use Rattle.scripts.proofs.reader.notice.Goals as goal

pub returns : goal.returns
returns c =
    let cut = c.split_fault.ensures in
    let node = c.in-Some-Some.ensures in
    let epoch = c.in-Some-Some.ensures' in
    let known = c.in_ok-epoch.ensures in
    let placed = c.in_ok-node.ensures in
    let args = map (λ w. w.now) c.args.args.now in
    rw (c.in_ok-new.ensures, placed.0, known.0) (notices c.args.before.now args c.in-Some-Some.node
    c.in-Some-Some.epoch c.in_ok-fault.fault
    (read_notice c.args.before.now.faults args _ _ c.in-Some-Some.node c.in-Some-Some.epoch
    c.in_ok-fault.fault cut.before cut.behind node.1 epoch.1
    (two_words c.split_fault.result.0.now _ _ _
    (omega (arith, c.in-len2.len_at_least, c.in-len2.len_below)) node.2 epoch.2)
    c.in_ok-fault.ensures) known.1 placed.1)

pub returns-in_default : goal.returns-in_default
returns-in_default c = grind (arith, common_steps)

pub returns-in_default-2 : goal.returns-in_default-2
returns-in_default-2 c = grind (arith, common_steps)

pub returns-in_err-fault : goal.returns-in_err-fault
returns-in_err-fault c = grind (arith, common_steps)

pub returns-in_err-epoch : goal.returns-in_err-epoch
returns-in_err-epoch c = grind (arith, common_steps)

pub returns-in_err-node : goal.returns-in_err-node
returns-in_err-node c = grind (arith, common_steps)

pub returns-in_err-new : goal.returns-in_err-new
returns-in_err-new c = grind (arith, common_steps)
