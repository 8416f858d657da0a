use Rattle.std.proofs.Common.{rules, ℕ, ◌≤◌, arith, ◌∙◌}
use Rattle.std.proofs.lemmas.Bool.{cond_both}
use Rattle.configurations.specs.{is_tail}
use Rattle.node.proofs.starting.core_of.Goals as goal

-- no fewer batches are committed than the floor
pub returns : goal.returns
returns g c =
    let core = c.started.result in
    let is = c.started.ensures.exact in
    let told = c.count.ensures.ordered in
    let known = cond_both (is_tail core.ids core.id) core.count core.floor
    (λ (k : ℕ). c.floor.result ≤ k)
    (λ tail. omega (
      arith,
      is.count,
      c.floor.ensures,
      c.count.ensures.count,
      told.floor,
      told.committed,
    ))
    (λ other. omega (arith, is.floor)) in
    record {
      id = search rules;
      is = search rules;
      epoch = is.epoch ∙ c.epoch.ensures;
      ids = is.ids;
      count = is.count ∙ c.count.ensures.count;
      floor = is.floor ∙ c.floor.ensures;
      kept = is.kept ∙ c.kept.ensures;
      begins = is.begins;
      rises = omega (arith, is.begins.committed, c.floor.ensures, known);
    }
