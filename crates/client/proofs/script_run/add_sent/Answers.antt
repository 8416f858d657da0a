use Rattle.std.proofs.Common.{◌≡◌, ◌+◌, ◌-◌, suc, arith, refl}
use Rattle.std.proofs.Common.{append_assoc}
use Rattle.client.proofs.Flowing.{places_after-push}
use Rattle.client.proofs.script_run.add_sent.Goals as goal

pub loop-sent-preserved : goal.loop-sent-preserved
loop-sent-preserved c =
    let was = c.loop-sent.invariant in
    let count : c.loop-sent.sent + 1 - c.args.before ≡ suc (c.loop-sent.sent - c.args.before) =
    omega (arith, was.from) in
    let place : suc (c.args.before + (c.loop-sent.sent - c.args.before)) ≡ c.loop-sent.sent + 1 =
    omega (arith, was.from) in
    record {
      left = rw (
        c.in_ok-push_back.ensures.items,
        was.left,
        count,
        places_after-push c.args.before (c.loop-sent.sent - c.args.before),
        place,
        append_assoc,
      ) refl;
      from = omega (arith, was.from);
      to = omega (arith, was.to, c.loop-sent-test.true);
    }
