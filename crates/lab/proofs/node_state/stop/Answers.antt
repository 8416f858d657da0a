use Rattle.std.proofs.Common.{[], ◌∷◌, ◌∙◌, ℕ, ap, length, refl, sym, subst, inl, inr}
use Rattle.disk.specs.declared.Incident.TheVariants.{Crashed}
use Rattle.lab.specs.Disks.{HasIncidents}
use Rattle.chain_model.specs.{stopped, silent}
use Rattle.lab.specs.SimNodes.{StateRefines, disk_in}
use Rattle.lab.specs.Outcomes.{HasCrashed, Stops}
use Rattle.lab.proofs.Faults.{before_is, crash_grows}
use Rattle.node.specs.{disk_of}
use Rattle.lab.proofs.node_state.stop.Goals as goal

-- the disk crashed with the junk
pub returns : goal.returns
returns g c = λ limits.
    let left = c.disk_in_box.ensures.disk in
    let same = sym left in
    let e = c.in_ok-state.ensures in
    let new = c.in_ok-state.state in
    let junk = c.args.junk in
    let node = c.args.boxed in
    let crashed = λ (honest : g.D.Disk.is_honest (disk_of node.value)).
    subst (λ d. HasCrashed g.D.Disk.state g.D.Disk.failures g.D.Disk.past junk d new)
    left (e.crashes (subst g.D.Disk.is_honest same honest)) in
    record {
      ready = e.ready;
      outcome = refl;
      stands = e.is;
      refines = λ x n r.
          let rests = c.disk_in_box.ensures.rests x n r in
          let stopped_now = elim (e.refines x n (silent n) (subst g.D.Disk.is_honest same r.honest)
          (λ after now. inl (rests after now))) as
          (λ _. StateRefines g.D.Disk.is_honest g.D.Disk.state new x (stopped n)) [
            | inl before ↦ before
            | inr behind ↦ behind
          ] in
          Stops r.core.running stopped_now refl;
      disk = crashed;
      only = λ sound reliable stops. absurd cc;
      follows = crashed;
      tells = λ own stops. absurd cc;
      counts = e.count ∙ ap g.D.Disk.failures left;
      explains = λ honest starts cause stops. absurd cc;
      grows = λ x n r. crash_grows g.D.Disk junk (disk_of node.value) (disk_of node.value) new
          (crashed r.honest) ([], refl);
      occurred = λ honest.
          let so = e.occurred (subst g.D.Disk.is_honest same honest) in
          let before = subst (λ d. HasIncidents g.D.Disk.state g.D.Disk.past g.D.Disk.incidents
          ((length (g.D.Disk.past d), Crashed junk) ∷ g.D.Disk.incidents d) (disk_in new))
          left so in
          inr (record {
            occurred = before.occurred ∙ ap (λ (n : ℕ). (n, Crashed junk)
                ∷ g.D.Disk.incidents (disk_of node.value))
                (ap length (before_is g.D.Disk c.args.fault (disk_of node.value) junk
                (disk_of node.value) new (crashed honest)));
            last = before.last;
          });
      forgets = λ honest _. e.forgets (subst g.D.Disk.is_honest same honest);
      limits = λ has. e.limits limits;
    }
