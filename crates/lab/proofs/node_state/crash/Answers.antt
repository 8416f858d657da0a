use Rattle.std.proofs.Common.{List, ap, refl, inl, inr, subst, sym}
use Rattle.disk.specs.{IsLastLeft, State, fault_of}
use Rattle.lab.specs.declared.node_state.NodeState.TheVariants.{Down}
use Rattle.lab.specs.Stops.{IsDownAfter}
use Rattle.lab.proofs.Dispatching.{holding, ready_down}
use Rattle.lab.proofs.Rests.{rests_as}
use Rattle.lab.proofs.node_state.crash.Goals as goal

-- the latest incident is the crash
pub returns : goal.returns
returns g c =
    let e = c.crash.ensures in
    let left = c.crash.new.self in
    let boxed = c.in_ok-new in
    subst (λ (d : _). IsDownAfter g.D.Disk c.args.disk c.args.junk (Down (holding boxed.field-0 d)))
    (sym boxed.ensures.ok)
    (record {
      ready = ready_down g.D.Disk (holding boxed.field-0 left);
      is = tt;
      crashes = λ honest. record {
        crashes = e.crashes honest;
        count = e.count;
        moment = e.past honest;
      };
      refines = λ x n a honest stops.
          let is = e.honest.1 honest in
          elim (rests_as c.durable_is_left.ensures c.crashed_is_durable.ensures c.args.junk
          (g.D.Disk.state c.args.disk) (g.D.Disk.state left) x n a
          (e.crashes honest) (e.allowed honest) stops) [
            | inl before ↦ inl (is, before, refl)
            | inr behind ↦ inr (is, behind, refl)
          ];
      occurred = λ honest. record {
        occurred = e.incidents honest;
        last = subst (λ (l : List State). IsLastLeft l (g.D.Disk.state left))
            (sym (e.past honest).2) (λ file. sym ((e.past honest).1 file));
      };
      forgets = λ honest. ap fault_of (e.incidents honest);
      limits = λ limits. tt;
      count = e.count;
    })
