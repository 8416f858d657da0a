use Rattle.std.proofs.Common.{ℕ, ap, subst, sym, ◌∙◌}
use Rattle.chain_model.specs.{started}
use Rattle.chain_core.specs.{CoreRefines}
use Rattle.engine.specs.{Facts, LookUps}
use Rattle.node.proofs.Starts.{numbers_of, runs_opened}
use Rattle.node.proofs.starting.run_opened.Goals as goal

-- the engine holds the list of the machine that was started
pub returns-clause-opened : goal.returns-clause-opened
returns-clause-opened g c =
    let engine = c.args.engine in
    let told = c.set_committed.ensures.told in
    record {
      runs = λ x n holds facts.
          let same = ap (λ (l : LookUps). l.facts) told in
          let config = c.in-Ok.ensures ∙ c.config.ensures in
          let is = c.core_of-core.ensures.is n (numbers_of g.D.Disk engine x n holds facts)
          (sym (ap (λ (f : Facts). f.ids) facts) ∙ sym config) in
          let id = ap (λ (f : Facts). f.id) facts in
          runs_opened g.D.Disk _ x n (c.set_committed.ensures.stays.holds n.list holds)
          (same ∙ facts)
          (subst (λ (y : ℕ). CoreRefines c.core_of-core.result (started y n)) id is)
          (c.core_of-core.ensures.id ∙ id);
      facts = ap (λ (l : LookUps). l.facts) told;
      count = ap (λ (l : LookUps). l.count) told;
      limits = ap (λ (l : LookUps). l.limits) told;
      works = record {
        works = λ ended. c.requires.works (c.set_committed.ensures.stays.ended.0 ended);
        id = c.core_of-core.ensures.id ∙ sym (ap (λ (l : LookUps). l.facts.id) told);
        epoch = c.core_of-core.ensures.epoch ∙ sym (ap (λ (l : LookUps). l.facts.epoch) told);
        ids = c.core_of-core.ensures.ids ∙ c.in-Ok.ensures ∙ c.config.ensures
            ∙ sym (ap (λ (l : LookUps). l.facts.ids) told);
        count = c.core_of-core.ensures.count ∙ sym (ap (λ (l : LookUps). l.count) told);
        floor = c.core_of-core.ensures.floor ∙ sym (ap (λ (l : LookUps). l.facts.floor) told);
        kept = c.core_of-core.ensures.kept ∙ sym (ap (λ (l : LookUps). l.facts.kept) told);
        committed = sym c.committed.ensures.same
            ∙ sym (ap (λ (l : LookUps). l.committed) told);
        snapshots = c.core_of-core.ensures.begins.snapshots ∙ sym c.requires.snapshots
            ∙ sym (ap (λ (l : LookUps). l.snapshots) told);
      };
      begins = c.core_of-core.ensures.begins;
    }
