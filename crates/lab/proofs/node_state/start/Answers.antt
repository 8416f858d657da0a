use Rattle.std.proofs.Common.{◌∙◌, ap, false, refl, inl, inr, subst, sym}
use Rattle.chain_model.specs.{started, stopped, silent}
use Rattle.disk.specs.{State, contents, fault_of}
use Rattle.disk.specs.StepsLemmas.{read_is_outcome}
use Rattle.node.specs.Starts.{StartRefusal}
use Rattle.node.specs.{DiskAlwaysRefines}
use Rattle.carriers.specs.declared.NodeInput.TheVariants as to_node
use Rattle.lab.specs.declared.node_state.NodeState.TheVariants.{Down}
use Rattle.lab.specs.SimNodes.{StateRefines}
use Rattle.lab.specs.Outcomes.{Starts, Fails}
use Rattle.lab.proofs.Dispatches.{counts_same}
use Rattle.lab.proofs.Dispatching.{each_answer, halted, halts_so, holding, honest_left, ready_up}
use Rattle.lab.proofs.Dispatching.{in_disk_box, into_box}
use Rattle.lab.proofs.Faults.{grown_since, occurred_so, same_state, stays_so}
use Rattle.lab.proofs.node_state.start.Goals as goal

pub returns-in_ok-new-in-Ok : goal.returns-in_ok-new-in-Ok
returns-in_ok-new-in-Ok g c =
    let boxed = c.in_ok-new-in-Ok in
    let own = c.into_inner-disk.result in
    let was = holding c.args.boxed own in
    in_disk_box g.D.Disk c.args.limits.now c.args.fault to_node.Start c.args.boxed own _ _
    c.into_inner-disk.ensures
    (into_box g.D.Disk c.args.limits.now c.args.fault to_node.Start (Down was) boxed.field-0
    c.arm-in-Ok.new.self _ boxed.ensures.ok (record {
      ready = ready_up (holding boxed.field-0 c.arm-in-Ok.new.self)
          (c.arm-in-Ok.ensures.ready c.in-Ok.ensures.works);
      outcome = tt;
      stands = (
        c.epoch-epoch.ensures.own,
        c.count-count.ensures.own,
        c.committed-committed.ensures.own,
      );
      refines = λ x n r.
          let represents = subst (λ (s : State). DiskAlwaysRefines s x n)
          (same_state (c.arm.ensures.same r.0)) r.1 in
          let disk = g.D.Disk.state c.arm.new.self in
          let began = c.in-Ok.ensures.started x n (c.arm.ensures.honest.1 r.0)
          (represents (contents disk) (λ file. read_is_outcome (disk file))) in
          let runs = c.arm-in-Ok.ensures.refines x (started x n) began in
          Starts r.2 runs (rw (
            c.epoch-epoch.ensures.refines x (started x n) runs,
            c.count-count.ensures.refines x (started x n) runs,
            c.committed-committed.ensures.refines x (started x n) runs,
          ) refl);
      disk = λ honest.
          let stays = stays_so g.D.Disk c.args.fault own c.arm.new.self _ _ _ _ _ c.arm.ensures
          c.in-Ok.ensures.kept (λ never. never) c.arm-in-Ok.ensures.armed honest in
          record { spared = stays.0; count = stays.1; same = λ down. absurd down };
      only = λ sound reliable stops. absurd cc;
      follows = tt;
      tells = λ own stops. absurd cc;
      counts = counts_same g.D.Disk own c.arm.new.self _ _ c.arm.ensures c.in-Ok.ensures.kept
          (λ never. never) c.arm-in-Ok.ensures.armed;
      explains = λ honest starts cause stops. absurd cc;
      grows = λ x n r.
          let armed = c.arm.ensures in
          let represents = subst (λ (s : State). DiskAlwaysRefines s x n)
          (same_state (armed.same r.0)) r.1
          in
          let leaves = c.in-Ok.ensures.any_moment x n n (armed.honest.1 r.0)
          (λ left now. inl (represents left now)) in
          grown_since g.D.Disk _ own c.arm.new.self _ _ armed.past leaves
          c.arm-in-Ok.ensures.armed.past;
      occurred = λ honest.
          inr (occurred_so g.D.Disk c.args.fault own false c.arm.new.self _ _ _ _ _
          c.arm.ensures
          c.in-Ok.ensures.kept c.arm-in-Ok.ensures.armed honest);
      forgets = λ honest unarmed. ap fault_of (c.arm-in-Ok.ensures.armed.incidents
          (c.in-Ok.ensures.kept.honest.1 (c.arm.ensures.honest.1 honest)));
      limits = λ has. c.arm-in-Ok.ensures.limits ∙ c.in-Ok.ensures.begins.limits;
    }))

pub returns-in-Err : goal.returns-in-Err
returns-in-Err g c =
    let armed = c.arm.ensures in
    let kept = c.in-Err.ensures.kept in
    let own = c.into_inner-disk.result in
    let was = holding c.args.boxed own in
    let explains = c.in-Err.ensures in
    each_answer c.stop_by_itself.result (λ did stops.
    in_disk_box g.D.Disk c.args.limits.now c.args.fault to_node.Start c.args.boxed own did.0 did.1
    c.into_inner-disk.ensures
    (halted g.D.Disk c.args.fault (Down was) did.0 did.1 c.arm.new.self c.in-Err.disk c.in-Err.stop
    _ _ _ armed kept (λ fails. fails) (λ is. is) stops c.args.limits.now to_node.Start refl
    (λ told. tt)
    (λ x n r.
    let represents = subst (λ (s : State). DiskAlwaysRefines s x n)
    (same_state (armed.same r.0)) r.1 in
    let honest = armed.honest.1 r.0 in
    let disk = g.D.Disk.state c.arm.new.self in
    let why = explains.started x n honest
    (represents (contents disk) (λ file. read_is_outcome (disk file))) in
    let left = explains.any_moment x n n honest (λ left now. inl (represents left now)) in
    let sure = honest_left g.D.Disk c.args.fault (Down was) did.0 did.1 c.arm.new.self
    c.in-Err.disk c.in-Err.stop _ _ _ armed kept (λ fails. fails) (λ is. is) stops r.0 in
    Fails r.2
    (halts_so g.D.Disk c.args.fault (Down was) did.0 did.1 c.arm.new.self c.in-Err.disk
    c.in-Err.stop _ _ _ armed kept (λ fails. fails) (λ is. is) stops r.0 why)
    (elim (stops.down.refines x n (silent n) sure left.now) as
    (λ _. StateRefines g.D.Disk.is_honest g.D.Disk.state did.0 x (stopped n)) [
      | inl before ↦ before
      | inr behind ↦ behind
    ]))
    (λ sound none. absurd none) tt
    (λ x n r.
    let represents = subst (λ (s : State). DiskAlwaysRefines s x n)
    (same_state (armed.same r.0)) r.1 in
    let leaves = explains.any_moment x n n (armed.honest.1 r.0)
    (λ left now. inl (represents left now)) in
    grown_since g.D.Disk _ own c.arm.new.self c.in-Err.disk c.in-Err.disk armed.past leaves
    refl)
    (λ honest _. subst (λ (s : State). StartRefusal c.in-Err.stop (contents s))
    (sym (same_state (armed.same honest))) (explains.told (armed.honest.1 honest)))))
    c.stop_by_itself.ensures
