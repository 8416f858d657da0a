use Rattle.std.proofs.Common.{◌≡◌, ◌∙◌, List, ℕ, inr, subst, sym, true}
use Rattle.std.proofs.lemmas.List.{get_or_default}
use Rattle.std.proofs.lemmas.Option.{MatchOption-at_none}
use Rattle.kv_types.specs.{has}
use Rattle.chain_model.specs.{node_of}
use Rattle.node.specs.declared.Node.{Node}
use Rattle.node.specs.{NodeRefines}
use Rattle.lab.specs.declared.node_state.NodeState.{NodeState}
use Rattle.lab.specs.declared.node_state.NodeState.TheVariants.{Up}
use Rattle.lab.specs.declared.sim_node.SimNode.{SimNode}
use Rattle.lab.specs.SimNodes.{IsDown, StateRefines}
use Rattle.lab.specs.Traces.{modelled_from}
use Rattle.lab.specs.Worlds.{HasNoNode, HasNumbersIn, IsIndexOf}
use Rattle.lab.proofs.Dispatching.{holding}
use Rattle.lab.proofs.SimNodes.{has_one, refined_of}
use Rattle.lab.proofs.world.World.numbers.Goals as goal

-- the world has a node of the first configuration
pub returns-in_default-clause-run : goal.returns-in_default-clause-run
returns-in_default-clause-run g c = λ past run there.
    let sims = c.args.self.now.nodes.items in
    let x = c.args.id in
    absurd (has_one sims x (subst (λ (ids : List ℕ). has ids x ≡ true) (sym run.made.nodes) there)
    (subst (λ (l : List (SimNode g.row.D.Denot g.D.Disk)). HasNoNode l x) c.deref.ensures.value
    (MatchOption-at_none (HasNoNode c.deref.result.now x)
    (λ index. IsIndexOf c.deref.result.now index x) c.in_default.is c.index_of.ensures)))

-- the node that was found is that of its id
pub returns-in-Up-clause-run : goal.returns-in-Up-clause-run
returns-in-Up-clause-run g c = λ past run there.
    let x = c.args.id in
    let machines = node_of past.configs (modelled_from 1 past.events past.choices) in
    let up = subst (λ (m : NodeState g.row.D.Denot g.D.Disk).
    StateRefines g.D.Disk.is_honest g.D.Disk.state m x (machines x)) c.in-Up.is
    (refined_of machines run.made.disks c.args.self.now.nodes.items c.in-Some.index x
    c.index.result.now (subst (λ (l : List (SimNode g.row.D.Denot g.D.Disk)).
    IsIndexOf l c.in-Some.index x) c.deref.ensures.value c.in-Some.ensures) c.index.ensures
    run.made.each) in (
      up.core.running,
      c.numbers.ensures.refines x (machines x)
          (subst (λ (it : Node g.row.D.Denot g.D.Disk).
          NodeRefines g.D.Disk.is_honest g.D.Disk.state it x (machines x))
          (sym c.deref-in-Up.ensures) up),
    )

pub returns-in-Up-clause-own : goal.returns-in-Up-clause-own
returns-in-Up-clause-own g c =
    let sims = c.args.self.now.nodes.items in
    let i = c.in-Some.index in
    let sim = c.index.result.now in
    let at = subst (λ (l : List (SimNode g.row.D.Denot g.D.Disk)). IsIndexOf l i c.args.id)
    c.deref.ensures.value c.in-Some.ensures in
    record {
      index = i;
      at = at;
      own = λ other. subst (λ (s : SimNode g.row.D.Denot g.D.Disk).
          HasNumbersIn s.state c.numbers.result)
          (c.index.ensures ∙ get_or_default sims i sim other at.within)
          (subst (λ (m : NodeState g.row.D.Denot g.D.Disk). HasNumbersIn m c.numbers.result)
          (sym c.in-Up.is)
          (subst (λ (it : Node g.row.D.Denot g.D.Disk). HasNumbersIn
          (Up (holding c.in-Up.node it)) c.numbers.result) c.deref-in-Up.ensures
          (record { own = c.numbers.ensures.own; tables = c.numbers.ensures.tables })));
    }

pub returns-in-Down-clause-run : goal.returns-in-Down-clause-run
returns-in-Down-clause-run g c = λ past run there.
    let x = c.args.id in
    let machines = node_of past.configs (modelled_from 1 past.events past.choices) in
    (subst (λ (m : NodeState g.row.D.Denot g.D.Disk).
    StateRefines g.D.Disk.is_honest g.D.Disk.state m x (machines x)) c.in-Down.is
    (refined_of machines run.made.disks c.args.self.now.nodes.items c.in-Some.index x
    c.index.result.now (subst (λ (l : List (SimNode g.row.D.Denot g.D.Disk)).
    IsIndexOf l c.in-Some.index x) c.deref.ensures.value c.in-Some.ensures) c.index.ensures
    run.made.each)).2

-- .. which is down
pub returns-in-Down-clause-none : goal.returns-in-Down-clause-none
returns-in-Down-clause-none g c =
    let sims = c.args.self.now.nodes.items in
    let i = c.in-Some.index in
    let sim = c.index.result.now in
    let at = subst (λ (l : List (SimNode g.row.D.Denot g.D.Disk)). IsIndexOf l i c.args.id)
    c.deref.ensures.value c.in-Some.ensures in
    inr (
      i,
      at,
      λ other. subst (λ (s : SimNode g.row.D.Denot g.D.Disk). IsDown s.state)
          (c.index.ensures ∙ get_or_default sims i sim other at.within)
          (subst (λ (m : NodeState g.row.D.Denot g.D.Disk). IsDown m) (sym c.in-Down.is) tt),
    )
