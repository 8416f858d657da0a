use Rattle.std.proofs.Common.{arith}
use Rattle.std.proofs.lemmas.Grind.{common_steps}
use Rattle.std.proofs.Common.{◌≡◌, None, ◌∷◌, ◌∙◌, ℕ, ap, ap₂, length, subst, sym}
use Rattle.chain_model.specs.{created}
use Rattle.disk.specs.declared.Incident.TheVariants.{Armed}
use Rattle.disk.specs.{Incidents, Slots}
use Rattle.node.specs.declared.Node.{Node}
use Rattle.node.specs.{NodeRefines, disk_of}
use Rattle.lab.specs.declared.node_state.NodeState.{NodeState}
use Rattle.lab.specs.Disks.{IsNewDisk}
use Rattle.lab.specs.SimNodes.{StateRefines, disk_in, in_memory}
use Rattle.lab.proofs.world.created_node.Goals as goal

-- the node was created, its disk armed with no fault, and it was put into a box
pub returns-in_ok-new-in-Ok-clause-created : goal.returns-in_ok-new-in-Ok-clause-created
returns-in_ok-new-in-Ok-clause-created c =
    let armed = c.arm.ensures.armed in
    let kept = c.in-Ok.ensures.kept in
    let n = created c.args.config.now in
    let held = c.in_ok-new-in-Ok.ensures.ok in
    let up = sym c.up.ensures.state in
    let refines = subst (λ (it : Node Slots _).
    NodeRefines in_memory.is_honest in_memory.state it c.args.id n) (sym held)
    (c.arm.ensures.refines c.args.id n (c.in-Ok.ensures.created tt)) in
    let disk : disk_of c.arm.new.self ≡ disk_in c.up.result.state =
    ap (λ (it : Node Slots _). disk_of it) (sym held)
    ∙ ap (λ (m : NodeState Slots _). disk_in m) up in
    record {
      is = subst (λ (x : ℕ). StateRefines in_memory.is_honest in_memory.state c.up.result.state x n)
          (sym c.up.ensures.id)
          (subst (λ (m : NodeState Slots _).
          StateRefines in_memory.is_honest in_memory.state m c.args.id n) up refines);
      count = ap (λ (d : Slots). d.failures) (sym disk) ∙ (armed.count
          ∙ (kept.count (λ fails. absurd fails) ∙ c.new-disk.ensures.count));
      occurred = subst (λ (d : Slots). IsNewDisk in_memory d) disk (record {
        occurred = armed.incidents tt ∙ ap₂ (λ (n : ℕ) (l : Incidents). (n, Armed None) ∷ l)
            (ap length (sym armed.past)) (kept.fault ∙ c.new-disk.ensures.incidents);
        last = armed.last tt;
      });
    }

pub returns-in_ok-new-in-Ok-clause-id : goal.returns-in_ok-new-in-Ok-clause-id
returns-in_ok-new-in-Ok-clause-id c = grind (arith, common_steps)

pub returns-in_ok-new-in-Ok-clause-limits : goal.returns-in_ok-new-in-Ok-clause-limits
returns-in_ok-new-in-Ok-clause-limits c = grind (arith, common_steps)

pub returns-in-Err-clause-id : goal.returns-in-Err-clause-id
returns-in-Err-clause-id c = grind (arith, common_steps)

pub returns-in-Err-clause-created : goal.returns-in-Err-clause-created
returns-in-Err-clause-created c = grind (arith, common_steps)

pub returns-in-Err-clause-limits : goal.returns-in-Err-clause-limits
returns-in-Err-clause-limits c = grind (arith, common_steps)
