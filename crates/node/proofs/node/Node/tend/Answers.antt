use Rattle.std.proofs.Common.{subst, sym, true}
use Rattle.disk.specs.{IsEnvironmental}
use Rattle.std.proofs.lemmas.Result.{err_from_is_err_and}
use Rattle.chain_model.specs.Rules.{tend}
use Rattle.disk.specs.KeepingLemmas.{answered, kept_as, neither}
use Rattle.engine.specs.{engine_disk, raised_facts}
use Rattle.node.specs.declared.stop.Stop.TheVariants as stop
use Rattle.node.specs.Stops.{EndsCreated}
use Rattle.node.proofs.Causes.{done_told, env_of, later_ends, refuses, still_works, stop_passed}
use Rattle.node.proofs.Ends.{ends_stopped}
use Rattle.node.proofs.Tends.{in_step, rise_of, runs_tended, tends, with_told}
use Rattle.node.proofs.node.Node.tend.Goals as goal

-- the store stopped, and a crash leaves its list
pub returns-in_err-tended-clause-ends : goal.returns-in_err-tended-clause-ends
returns-in_err-tended-clause-ends g c = λ x n r.
    let old = c.args.self.now in
    let p = err_from_is_err_and c.from_residual.result c.from_residual.ensures.1 in
    let why = env_of c.in_err-tended.field-0.0
    (c.in_err-tended.ensures.work.reads n.list r.store.reads) in
    ends_stopped g.D.Disk old _ x n (tend n true (raised_facts old.engine).kept) _
    c.from_residual.result p.0 p.1
    (subst
    (IsEnvironmental stop.Disk stop.Memory) (sym p.2) why)
    (c.tend.ensures.changes.keeps.disk.honest.1 r.honest)
    (tends g.D.Disk old x n r c.requires
    (c.tend.ensures.raised.reads n.list r.store.reads) (engine_disk c.tend.new.self)
    (c.tend.ensures.changes.any_moment n.list r.store))

-- the node goes on with the list
pub returns-clause-ends : goal.returns-clause-ends
returns-clause-ends g c = λ x n r.
    let old = c.args.self.now in
    let holds = (c.in_ok-tended.ensures.changes.list n.list).holds r.store in
    let rise = c.tend.ensures.raised.reads n.list r.store.reads in
    let runs = runs_tended g.D.Disk old x n r c.requires rise _ holds c.tend.ensures.told
    (with_told old.core _ c.raise.ensures.raised c.floor.ensures c.kept.ensures) in
    record {
      done = (runs, c.in_ok-tended.ensures.work.reads n.list r.store.reads);
      honest = runs.honest;
      any_moment = tends g.D.Disk old x n r c.requires rise (engine_disk c.tend.new.self)
          (c.tend.ensures.changes.any_moment n.list r.store);
    }

-- the state may take over what the engine tells
pub raise-requires : goal.raise-requires
raise-requires g c =
    let old = c.args.self.now in
    rise_of old.engine c.tend.new.self c.tend.ensures.told old.core c.requires
    c.committed.ensures.ordered c.count.ensures.ordered _ _ c.floor.ensures c.kept.ensures

-- what the engine keeps of its disk, the node does
pub returns-in_err-tended-clause-kept : goal.returns-in_err-tended-clause-kept
returns-in_err-tended-clause-kept g c =
    kept_as g.D.Disk (stop_passed c.tend.result c.in_err-tended.field-0.0 c.from_residual.result
    c.in_err-tended.was c.from_residual.ensures.1) (λ a b kept. tt)
    c.tend.ensures.changes.keeps.disk

pub returns-clause-kept : goal.returns-clause-kept
returns-clause-kept g c =
    kept_as g.D.Disk (neither (answered c.tend.result c.in_ok-tended.was) done_told)
    (λ a b kept. tt) c.tend.ensures.changes.keeps.disk

-- and another step can follow
pub returns-clause-works : goal.returns-clause-works
returns-clause-works g c =
    let old = c.args.self.now in
    in_step old.engine c.tend.new.self c.tend.ensures.told old.core
    c.requires (still_works c.in_ok-tended.ensures.changes.keeps.ends c.requires.works) _
    (with_told old.core _ c.raise.ensures.raised c.floor.ensures c.kept.ensures)

-- what ended the engine, or had, is no want of a creation, and no old format
pub returns-in_err-tended-clause-did : goal.returns-in_err-tended-clause-did
returns-in_err-tended-clause-did g c = record {
  done = refuses c.from_residual.result _ EndsCreated c.from_residual.ensures.1
      (later_ends c.in_err-tended.field-0.0 c.in_err-tended.ensures.did);
  told = c.tend.ensures.told;
}

pub returns-clause-did : goal.returns-clause-did
returns-clause-did g c = record { done = c.in_ok-tended.ensures.did; told = c.tend.ensures.told }
