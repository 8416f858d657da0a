use Rattle.std.proofs.Common.{◌∙◌, ℕ, List, subst, sym}
use Rattle.lab.specs.Worlds.{AreCreated, HasRun, empty_run}
use Rattle.lab.specs.LinesSoFar.{nodes_of}
use Rattle.configurations.specs.{Configurations, at_epoch}
use Rattle.lab.proofs.world.World+MemDisk+C.created.Goals as goal

-- its nodes were just created
pub returns-clause-ran : goal.returns-clause-ran
returns-clause-ran g c = λ faithful.
    let sims = c.in_ok-nodes.nodes.items in
    subst (λ (cs : Configurations). HasRun g.C.Carrier c.over.result (empty_run cs))
    c.in_ok-configs.ensures
    (c.over.ensures.ran c.first.ensures.lawful faithful
    (subst (λ (ids : List ℕ). AreCreated ids ids c.args.limits.now sims) c.first.ensures.first
    c.in_ok-nodes.ensures))

-- whatever the carrier is, it has run nothing
pub returns-clause-begun : goal.returns-clause-begun
returns-clause-begun g c = record {
  nothing = c.over.ensures.none;
  configs = c.over.ensures.configs ∙ c.in_ok-configs.ensures;
  nodes = subst (λ (cs : Configurations). AreCreated (at_epoch cs 0) (at_epoch cs 0)
      c.args.limits.now (nodes_of c.over.result)) c.in_ok-configs.ensures
      (subst (λ sims. AreCreated (at_epoch c.in_ok-configs.configs 0)
      (at_epoch c.in_ok-configs.configs 0) c.args.limits.now sims) (sym c.over.ensures.nodes)
      (subst (λ (ids : List ℕ). AreCreated ids ids c.args.limits.now c.in_ok-nodes.nodes.items)
      c.first.ensures.first c.in_ok-nodes.ensures));
}

-- it has the limits that it was given, and so has each node
pub returns-clause-limits : goal.returns-clause-limits
returns-clause-limits g c = c.over.ensures.limits c.in_ok-nodes.ensures.limits
