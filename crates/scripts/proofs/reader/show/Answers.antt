use Rattle.std.proofs.Common.{codes, inr, map, refl}
use Rattle.scripts.proofs.Placing.{shows}
use Rattle.scripts.proofs.reader.show.Goals as goal

pub returns-in-Ok-clause-placed : goal.returns-in-Ok-clause-placed
returns-in-Ok-clause-placed c =
    shows c.args.before.now (map (λ w. w.now) c.args.args.now) c.in-Ok.node
    (c.in-Ok.ensures.placed (codes "show") (inr refl))

pub returns-in-Err-clause-placed : goal.returns-in-Err-clause-placed
returns-in-Err-clause-placed c = λ _. c.in-Err.ensures.placed (codes "show") (inr refl)
