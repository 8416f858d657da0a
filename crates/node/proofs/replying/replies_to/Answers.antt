use Rattle.std.proofs.Common.{map, ap, ◌∙◌}
use Rattle.std.proofs.lemmas.List.{take_all}
use Rattle.node.specs.Outputs.{committed_reply}
use Rattle.node.proofs.Outputs.{one_reply_more}
use Rattle.node.proofs.replying.replies_to.Goals as goal

-- one request more has its reply
pub loop-it-preserved : goal.loop-it-preserved
loop-it-preserved c =
    one_reply_more c.args.due.now c.loop-it.it-index c.it-item.result c.loop-it.replies
    c.push.new.self c.loop-it-test.true c.it-item.is c.loop-it.invariant
    c.in_ok-push.ensures.pushed

pub loop-it-init : goal.loop-it-init
loop-it-init c = c.new-replies.ensures

-- all of them have theirs
pub returns : goal.returns
returns c =
    let all = take_all c.loop-it.it-index c.args.due.now c.loop-it-test.false in
    c.loop-it.invariant ∙ ap (map committed_reply) all
