use Rattle.std.specs.Prelude.{◌↔◌}
use Rattle.carriers.specs.{HasCarried}
use Rattle.lab.specs.Arrivals.{RepliesFollow}
use Rattle.lab.proofs.replies.carry_all.Given as goal

-- the replies so far were carried
abbrev pub invariant-loop-reply : goal.invariant-loop-reply
invariant-loop-reply g l = record {
  faithful : g.C.Carrier.is_faithful l.carrier ↔ g.C.Carrier.is_faithful l.fn.carrier;
  lines : RepliesFollow (HasCarried g.C.Carrier l.fn.carrier l.carrier) l.from l.yielded l.fn.lines
      l.lines;
}
