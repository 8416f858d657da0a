use Rattle.std.proofs.Common.{inl}
use Rattle.embedded_store.proofs.Openings.{first_store}
use Rattle.embedded_store.proofs.Refusals.{opening_refuses}
use Rattle.embedded_store.proofs.opening.created.Goals as goal

-- the store of the engine that was created
pub returns-in-Ok-create-clause-created : goal.returns-in-Ok-create-clause-created
returns-in-Ok-create-clause-created g c = λ honest.
    first_store g.D.Disk c.in-Ok-create.engine _ _ c.args.limits.now c.store_over.result
    c.in-Ok.ensures (c.in-Ok-create.ensures.kept.honest.1 honest)
    (c.in-Ok-create.ensures.created honest) c.in-Ok-create.ensures.begun c.store_over.ensures

-- or why there is none
pub returns-clause-fresh : goal.returns-clause-fresh
returns-clause-fresh g c =
    opening_refuses c.in-Err.e c.from-in-Err.result c.from-in-Err.ensures
    (inl c.in-Err.ensures.begun)
