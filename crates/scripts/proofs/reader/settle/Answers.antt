use Rattle.std.proofs.Common.{codes, inl, map, refl}
use Rattle.scripts.proofs.Placing.{settles}
use Rattle.scripts.proofs.reader.settle.Goals as goal

pub returns-in-Ok-clause-placed : goal.returns-in-Ok-clause-placed
returns-in-Ok-clause-placed c =
    settles c.args.before.now (map (λ w. w.now) c.args.args.now) c.in-Ok.node
    (c.in-Ok.ensures.placed (codes "settle") (inl refl))

pub returns-in-Err-clause-placed : goal.returns-in-Err-clause-placed
returns-in-Err-clause-placed c = λ _. c.in-Err.ensures.placed (codes "settle") (inl refl)
