use Rattle.std.specs.Prelude.{IsErrOf}
use Rattle.std.proofs.Common.{◌⊎◌, Err, Result, inl, inr, refl, sym, ap, subst, rules}
use Rattle.std.proofs.Common.{true, false}
use Rattle.chain_model.specs.Rules.{tend}
use Rattle.disk.specs.{State, fault_of}
use Rattle.engine.specs.{IsAdrift, raised_facts}
use Rattle.engine.specs.Tended.{Tended}
use Rattle.node.specs.declared.Stop.TheVariants as stop
use Rattle.node.specs.declared.Stop.{Stop as Cause}
use Rattle.node.specs.{HasLongFile, IsNearlyFull, IsOwned}
use Rattle.node.specs.{disk_of, engine_of}
use Rattle.carriers.specs.declared.NodeInput.TheVariants as to_node
use Rattle.lab.specs.declared.node_state.NodeState.TheVariants.{Up}
use Rattle.lab.specs.Outcomes.{Halts, Tends}
use Rattle.lab.proofs.Dispatches.{counts_same}
use Rattle.lab.proofs.Dispatching.{each_answer, halted, halts_so, holding, in_box, tends_armed}
use Rattle.lab.proofs.Faults.{grown_since, occurred_so, same_state, stays_so}
use Rattle.lab.proofs.node_state.tend.Goals as goal

pub returns-in-Ok : goal.returns-in-Ok
returns-in-Ok g c = λ limits.
    let own = c.as_mut-node.result.now in
    in_box g.D.Disk limits c.args.fault to_node.Tend c.args.boxed own _ _
    c.as_mut-node.ensures.value (record {
      ready = search rules;
      outcome = tt;
      stands = (λ down. down, λ down. down);
      refines = λ x n r.
          let a = (c.in-Ok.ensures.ends x n (c.arm.ensures.refines x n r)).done in
          Tends r.core.running (tends_armed g.D.Disk x n _ _ a.0
          (c.arm-in-Ok.ensures.refines x _ a.0)) (
            _,
            refl,
            (c.arm-in-Ok.ensures.tends (engine_of own) c.in-Ok.did).1 (
                (c.arm.ensures.tends (engine_of c.tend.new.self) c.in-Ok.did).0 a.1),
          );
      disk = λ honest.
          let stays = stays_so g.D.Disk c.args.fault (disk_of own) (disk_of c.arm.new.self)
          _ _ _ _ _ c.arm.ensures.armed c.in-Ok.ensures.kept (λ never. cc)
          c.arm-in-Ok.ensures.armed honest in
          record { spared = stays.0; count = stays.1; same = λ down. absurd down };
      only = search rules;
      follows = tt;
      tells = λ own stops. absurd cc;
      counts = counts_same g.D.Disk (disk_of own) (disk_of c.arm.new.self) _ _
          c.arm.ensures.armed c.in-Ok.ensures.kept (λ never. cc) c.arm-in-Ok.ensures.armed;
      explains = λ honest starts cause stops. absurd cc;
      grows = λ x n r.
          let ended = c.in-Ok.ensures.ends x n (c.arm.ensures.refines x n r) in
          grown_since g.D.Disk _ (disk_of own) (disk_of c.arm.new.self) _ _
          c.arm.ensures.armed.past ended.any_moment c.arm-in-Ok.ensures.armed.past;
      occurred = λ honest.
          inr (occurred_so g.D.Disk c.args.fault (disk_of own) false
          (disk_of c.arm.new.self) _ _ _ _ _
          c.arm.ensures.armed c.in-Ok.ensures.kept c.arm-in-Ok.ensures.armed honest);
      forgets = λ honest ignored. ap fault_of (c.arm-in-Ok.ensures.armed.incidents
          (c.in-Ok.ensures.kept.honest.1 (c.arm.ensures.armed.honest.1 honest)));
      limits = search rules;
    })

pub returns-in-Err : goal.returns-in-Err
returns-in-Err g c = λ limits.
    let ended : Result Tended Cause = Err c.in-Err.stop in
    -- why a device that works may fail
    let may : Type 0 = IsNearlyFull (engine_of c.arm.new.self)
    ⊎ IsAdrift g.D.Disk (engine_of c.arm.new.self) in
    let own = c.as_mut-node.result.now in
    let left = disk_of c.tend.new.self in
    let kept = c.in-Err.ensures.kept in
    each_answer c.stop_node.result (λ did stops.
    in_box g.D.Disk limits c.args.fault to_node.Tend c.args.boxed own did.0 did.1
    c.as_mut-node.ensures.value
    (halted g.D.Disk c.args.fault (Up (holding c.args.boxed own)) did.0 did.1
    (disk_of c.arm.new.self) left c.in-Err.stop
    (IsErrOf ended stop.Disk) may IsOwned c.arm.ensures.armed kept (λ fails. cc)
    (λ is. ap (λ (e : Cause). Err e) is) stops limits to_node.Tend refl (λ told. tt)
    (λ x n r.
    let ends = c.in-Err.ensures.ends x n (c.arm.ensures.refines x n r) in
    Halts r.core.running
    (halts_so g.D.Disk c.args.fault (Up (holding c.args.boxed own)) did.0 did.1
    (disk_of c.arm.new.self) left c.in-Err.stop
    (IsErrOf ended stop.Disk) may IsOwned c.arm.ensures.armed kept (λ fails. cc)
    (λ is. ap (λ (e : Cause). Err e) is) stops r.honest ends.done)
    (raised_facts (engine_of c.arm.new.self)).kept
    (stops.down.refines x n (tend n true (raised_facts (engine_of c.arm.new.self)).kept)
    ends.honest
    ends.any_moment.now))
    (λ sound why. elim why as (λ _. HasLongFile (g.D.Disk.state (disk_of own))) [
      | inl full ↦ subst (λ (s : State). HasLongFile s)
          (sym (same_state (c.arm.ensures.armed.same sound.2.honest)))
          (c.full_logs_are_long.ensures c.arm.new.self sound.0 sound.1
          (c.arm.ensures.refines sound.0 sound.1 sound.2) full)
      | inr adrift ↦ absurd (adrift _
          (c.arm.ensures.refines sound.0 sound.1 sound.2).store.reads)
    ]) tt
    (λ x n r.
    let ends = c.in-Err.ensures.ends x n (c.arm.ensures.refines x n r) in
    grown_since g.D.Disk _ (disk_of own) (disk_of c.arm.new.self) _ left
    c.arm.ensures.armed.past ends.any_moment refl)
    (λ honest starts. absurd cc))) c.stop_node.ensures
