use Rattle.carriers.specs.{HasCarried}
use Rattle.lab.proofs.Arrivals.{both_follow, none_follow}
use Rattle.lab.proofs.Transmissions.{carried_none}
use Rattle.lab.proofs.replies.carry_all.Goals as goal

pub loop-reply-init : goal.loop-reply-init
loop-reply-init g c = record {
  faithful = (λ is. is, λ is. is);
  lines = none_follow (HasCarried g.C.Carrier c.args.carrier.now c.args.carrier.now) c.args.from
      c.args.lines.now (carried_none g.C.Carrier c.args.carrier.now);
}

-- one more reply was carried
pub loop-reply-preserved : goal.loop-reply-preserved
loop-reply-preserved g c =
    let at = c.loop-reply in
    let is = at.invariant.faithful in
    let here = c.in_ok-carry_reply.ensures in
    record {
      faithful = (λ now. is.0 (here.faithful.0 now), λ first. here.faithful.1 (is.1 first));
      lines = both_follow g.C.Carrier c.args.carrier.now at.carrier _ c.args.from at.yielded _
          c.args.lines.now at.lines _ at.invariant.lines here.lines;
    }
