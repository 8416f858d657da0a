use Rattle.std.proofs.Common.{refl, sym, ap, subst, ◌∙◌}
use Rattle.disk.specs.{Slots}
use Rattle.node.specs.declared.Node.{Node}
use Rattle.node.specs.{NodeRefines, disk_of}
use Rattle.lab.specs.declared.node_state.NodeState.{NodeState}
use Rattle.lab.specs.declared.node_state.NodeState.TheVariants.{Up}
use Rattle.lab.specs.SimNodes.{StateRefines, disk_in, in_memory}
use Rattle.lab.specs.Worlds.{HasNumbersIn}
use Rattle.lab.proofs.Dispatching.{holding}
use Rattle.lab.proofs.leaving.left_of.Goals as goal

pub returns-in-Up-clause-left : goal.returns-in-Up-clause-left
returns-in-Up-clause-left c = λ n disk is own.
    let x = c.args.node.id in
    let r = subst (λ (m : NodeState Slots _). StateRefines in_memory.is_honest in_memory.state m x
    n) c.in-Up.is is in
    let Refines = λ (it : Node Slots _). NodeRefines in_memory.is_honest in_memory.state it x n in
    record {
      disk = record {
        same = c.into_disk-disk.ensures.disk
            ∙ (ap (λ (it : Node Slots _). disk_of it) c.into_inner.ensures
            ∙ (ap (λ (m : NodeState Slots _). disk_in m) (sym c.in-Up.is) ∙ own));
        stands = c.into_disk-disk.ensures.rests x n (subst Refines (sym c.into_inner.ensures) r);
      };
      numbers = (
        r.core.running,
        c.numbers.ensures.refines x n (subst Refines (sym c.deref.ensures) r),
      );
    }

-- it has the disk of the node, and its numbers where it is up
pub returns-in-Up-clause-own : goal.returns-in-Up-clause-own
returns-in-Up-clause-own c =
    let up = sym c.in-Up.is in
    record {
      id = refl;
      disk = c.into_disk-disk.ensures.disk
          ∙ (ap (λ (it : Node Slots _). disk_of it) c.into_inner.ensures
          ∙ ap (λ (m : NodeState Slots _). disk_in m) up);
      running = subst (λ (m : NodeState Slots _). HasNumbersIn m c.numbers.result) up
          (subst (λ (it : Node Slots _). HasNumbersIn (Up (holding c.in-Up.node it))
          c.numbers.result) c.deref.ensures (record {
            own = c.numbers.ensures.own;
            tables = c.numbers.ensures.tables;
          }));
    }
