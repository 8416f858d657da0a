-- A node that adopts a configuration, which its store has recorded.
use Rattle.std.proofs.Common.{◌≡◌, ℕ, List, sym, ap, subst, ◌∙◌, arith}
use Rattle.std.specs.Prelude.{IsTrue}
use Rattle.configurations.specs.NodeLists.{leaves_out}
use Rattle.disk.specs.declared.Disk.{Ghosts}
use Rattle.disk.specs.{AlwaysLeaves}
use Rattle.chain_core.specs.declared.Done.TheVariants as done
use Rattle.chain_core.specs.{IsAdoptable, Machine, StepsLeave, done_of}
use Rattle.engine.specs.{Facts, IsLaterConfig, IsOneOf, facts_of, facts_with_config}
use Rattle.node.specs.declared.node.Node.{Node}
use Rattle.node.specs.Outputs.{AlwaysRefines}
use Rattle.node.specs.Steps.{IsReady, NodeRefines, disk_of, facts_for}
use Rattle.node.proofs.Counts.{facts_left, empty_batch}
use Rattle.node.proofs.Running.{changes}

module _ {D : Type 0} (g : Ghosts D) (old : Node D g) (epoch : ℕ) (ids : List ℕ) where
  -- what the state may adopt, the store may record
  pub recordable : IsReady old → IsAdoptable old.core epoch ids →
      IsLaterConfig (facts_of old.engine) epoch ids
  recordable ready it = record {
    later = omega (arith, it.later, ready.epoch);
    fewer = subst (λ (l : List ℕ). IsTrue (leaves_out ids l)) ready.ids it.fewer;
  }

  module _ (law : StepsLeave) (x : ℕ) (n : Machine)
      (r : NodeRefines g.is_honest g.state old x n) where
    abbrev after : Machine
    after = (done_of x n empty_batch (done.Adopted epoch ids)).node

    -- the recorded facts are those of the machine that adopted
    pub adopted_facts : facts_with_config (facts_of old.engine) epoch ids ≡ facts_for x after
    adopted_facts =
        let d = done.Adopted epoch ids in
        ap (λ (f : Facts). facts_with_config f epoch ids) r.facts
        ∙ sym (facts_left x n empty_batch d (done_of x n empty_batch d) (law x n empty_batch d))

    -- a record of the configuration leaves the disk of the machine before it or after it
    pub adopts : (new : D) → AlwaysLeaves g (disk_of old) new (IsOneOf (facts_of old.engine) n.list
        (facts_with_config (facts_of old.engine) epoch ids) n.list) →
        AlwaysRefines g (disk_of old) new x n after
    adopts new =
        changes g old new x n after (facts_with_config (facts_of old.engine) epoch ids) n.list
        adopted_facts (sym (law x n empty_batch (done.Adopted epoch ids)).list) r
