use Rattle.node.proofs.node.Node.numbers.Goals as goal

pub returns-clause-refines : goal.returns-clause-refines
returns-clause-refines g c = λ x n r. record {
  epoch = c.epoch.ensures.refines x n r;
  count = c.count.ensures.refines x n r;
  committed = c.committed.ensures.refines x n r;
  floor = c.floor.ensures.refines x n r;
  kept = c.kept.ensures.refines x n r;
}
