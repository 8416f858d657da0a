use Rattle.std.proofs.Common.{Ok, Result, refl, rules}
use Rattle.store_tables.specs.declared.error.EngineError.{EngineError}
use Rattle.engine.proofs.Engines.{goes_on, holds_of, reads_on}
use Rattle.engine.proofs.engine.Engine.arm.Goals as goal

-- the files and the store stay
pub returns-clause-stays : goal.returns-clause-stays
returns-clause-stays g c = record {
  ended = search rules;
  work = refl;
  reads = λ list r.
      let laws = c.held_files_are_left.ensures in
      reads_on g.D.Disk laws c.merges_outlive_calls.ensures c.args.self.now _ list (record {
        store = refl;
        merge = refl;
        honest = c.arm.ensures.honest.1;
        same = c.arm.ensures.same;
      }) r.works r;
  holds = λ list h.
      let laws = c.held_files_are_left.ensures in
      holds_of g.D.Disk laws _ list (reads_on g.D.Disk laws c.merges_outlive_calls.ensures
      c.args.self.now _ list (record {
        store = refl;
        merge = refl;
        honest = c.arm.ensures.honest.1;
        same = c.arm.ensures.same;
      }) h.reads.works h.reads);
  meant = λ list m.
      let answer : Result (Unit {0}) EngineError = Ok tt in
      (goes_on g.D.Disk c.held_files_are_left.ensures c.merges_outlive_calls.ensures
      c.args.self.now _ list answer (record {
        store = refl;
        merge = refl;
        honest = c.arm.ensures.honest.1;
        same = c.arm.ensures.same;
      }) m.works).meant m;
}

-- a tend is said of the store, the merge and the turn, which stay
pub returns-clause-tends : goal.returns-clause-tends
returns-clause-tends g c = λ other answer. (λ did. did, λ did. did)
