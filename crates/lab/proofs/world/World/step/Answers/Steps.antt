-- What a step does in any world, at each of its ends.
use Rattle.std.proofs.Common.{List, get_or, [], ◌∷◌, Option, ℕ, ap, length, refl, subst, sym, ◌∙◌}
use Rattle.std.proofs.lemmas.Option.{MatchOption-at_none}
use Rattle.std.proofs.lemmas.Result.{on_ok_weaker}
use Rattle.carriers.specs.{HasCarried}
use Rattle.carriers.specs.declared.Delivery.{Delivery}
use Rattle.lab.specs.declared.report.Line.TheVariants as line
use Rattle.lab.specs.declared.sim_node.SimNode.{SimNode}
use Rattle.lab.specs.declared.world.World.{World}
use Rattle.lab.specs.Arrivals.{RepliesFollow}
use Rattle.lab.specs.Deliveries.{IsDeliverable}
use Rattle.lab.specs.Events.{epoch_in}
use Rattle.lab.specs.LinesSoFar.{AreEventLines, IsPassedOver, nodes_of, sim_node_ids}
use Rattle.lab.specs.OutcomeLines.{own_lines, replies_by}
use Rattle.lab.specs.Worlds.{HasNoNode, IsIndexOf}
use Rattle.lab.proofs.AnyWorlds.{idle_steps, node_steps}
use Rattle.lab.proofs.Found.{found_uncarried, lost_loses}
use Rattle.lab.proofs.LinesSoFarLemmas.{adds_one, loses_none, on_ok}
use Rattle.lab.proofs.Moves.{limited, same_ids}
use Rattle.lab.proofs.OutcomeLines.{absent_lines, by_kind, dispatched_lines, lost_lines}
use Rattle.lab.proofs.OutcomeLines.{nothing_lines}
use Rattle.lab.proofs.SentLines.{loss_shown, lost_carried, nothing_shown, outcome_shown}
use Rattle.lab.proofs.world.World.step.Goals as goal

-- ---- no node took the event

pub nothing_steps : goal.returns-in-Nothing-clause-steps
nothing_steps g c =
    let h = g.C.Carrier in
    let event = c.args.event.now in
    let kind = event.kind in
    let old = c.args.self.now in
    let begun = c.begin.new.self in
    let begins = c.in_ok-begin.ensures.begun in
    let i = c.in-Some.request in
    let found = c.in_ok-delivery_of.field-0 in
    let brought = c.in_ok-delivery_of.ensures.brought in
    let keeps = c.keep.ensures.kept in
    idle_steps h event old begun begins c.len.result i c.len.ensures c.in-Some.ensures.1 found
    c.deref.result.now c.deref.ensures.value c.delivery_of.new.carrier brought c.keep.result
    c.keep.new.self _ _ keeps
    (subst (λ (d : Delivery). IsPassedOver (nodes_of begun) d c.one.result)
    (sym c.in-Nothing.is)
    c.one.ensures)
    (on_ok_weaker c.keep.result (adds_one old begun
    (record begun { carrier = c.delivery_of.new.carrier }) c.keep.new.self event _ _ begins refl
    refl refl (nothing_shown _ _ c.one.ensures) refl refl
    (c.names_node.ensures.0 c.if-not-names_node.false)
    (λ _. subst (AreEventLines kind) (sym c.one.ensures) (by_kind kind (line.Nothing ∷ [])
    (λ certain. nothing_lines begun.configs [] i kind
    (subst (IsDeliverable begun.configs [] i kind) c.in-Nothing.is
    (found_uncarried begun.configs _ i kind _ found brought.brought certain)))))) keeps)
    (loses_none c.keep.result h.loses event _ _ _ begins keeps refl)

-- what is lost is carried
pub loss_steps : goal.returns-in-Lost-clause-steps
loss_steps g c =
    let h = g.C.Carrier in
    let event = c.args.event.now in
    let kind = event.kind in
    let old = c.args.self.now in
    let begun = c.begin.new.self in
    let begins = c.in_ok-begin.ensures.begun in
    let i = c.in-Some.request in
    let found = c.in_ok-delivery_of.field-0 in
    let brought = c.in_ok-delivery_of.ensures.brought in
    let keeps = c.keep-in-Lost.ensures.kept in
    idle_steps h event old begun begins c.len.result i c.len.ensures c.in-Some.ensures.1 found
    c.deref.result.now c.deref.ensures.value c.delivery_of.new.carrier brought c.keep-in-Lost.result
    c.keep-in-Lost.new.self _ _ keeps
    (subst (λ (d : Delivery). IsPassedOver (nodes_of begun) d c.one-in-Lost.result)
    (sym c.in-Lost.is)
    c.one-in-Lost.ensures)
    (on_ok_weaker c.keep-in-Lost.result (adds_one old begun
    (record begun { carrier = c.delivery_of.new.carrier }) c.keep-in-Lost.new.self event _ _ begins
    refl refl refl (loss_shown _ _ c.one-in-Lost.ensures) refl refl
    (c.names_node.ensures.0 c.if-not-names_node.false)
    (λ _. subst (AreEventLines kind) (sym c.one-in-Lost.ensures) (by_kind kind (line.Lost ∷ [])
    (λ certain. lost_lines begun.configs [] i kind
    (subst (IsDeliverable begun.configs [] i kind) c.in-Lost.is
    (found_uncarried begun.configs _ i kind _ found brought.brought certain)))))) keeps)
    (on_ok c.keep-in-Lost.result (λ is. (
      lost_loses h.loses begun.configs c.deref.result.now i kind brought.got found c.in-Lost.is
          brought.carried.lost brought.brought,
      lost_carried [] kind (λ certain. subst (IsDeliverable begun.configs [] i kind) c.in-Lost.is
          (found_uncarried begun.configs _ i kind _ found brought.brought certain)),
    )))

-- no node has the id
pub absent_steps : goal.returns-in_default-index_of-clause-steps
absent_steps g c =
    let h = g.C.Carrier in
    let event = c.args.event.now in
    let kind = event.kind in
    let old = c.args.self.now in
    let begun = c.begin.new.self in
    let begins = c.in_ok-begin.ensures.begun in
    let i = c.in-Some.request in
    let found = c.in_ok-delivery_of.field-0 in
    let brought = c.in_ok-delivery_of.ensures.brought in
    let keeps = c.keep-in_default-index_of.ensures.kept in
    let x = c.in-To.id in
    let named = c.names_node.ensures.0 c.if-not-names_node.false in
    let none = subst (λ (l : List (SimNode g.row.D.Denot g.D.Disk)). HasNoNode l x)
    c.deref-2.ensures.value (MatchOption-at_none (HasNoNode c.deref-2.result.now x)
    (λ index. IsIndexOf c.deref-2.result.now index x) c.in_default-index_of.is
    c.index_of.ensures) in
    idle_steps h event old begun begins c.len.result i c.len.ensures c.in-Some.ensures.1 found
    c.deref.result.now c.deref.ensures.value c.delivery_of.new.carrier brought
    c.keep-in_default-index_of.result c.keep-in_default-index_of.new.self _ _ keeps
    (subst (λ (d : Delivery). IsPassedOver (nodes_of begun) d c.one-in_default-index_of.result)
    (sym c.in-To.is)
    (none, c.one-in_default-index_of.ensures))
    (on_ok_weaker c.keep-in_default-index_of.result (adds_one old begun
    (record begun { carrier = c.delivery_of.new.carrier }) c.keep-in_default-index_of.new.self
    event _ _ begins refl refl refl
    (nothing_shown _ _ c.one-in_default-index_of.ensures) refl refl named
    (λ its. subst (AreEventLines kind) (sym c.one-in_default-index_of.ensures)
    (by_kind kind (line.Nothing ∷ []) (λ certain. absent_lines begun.configs [] i x c.in-To.input
    kind begun.nodes.items old.configs
    (ap (λ (w : World g.row.D.Denot g.row.C.Denot g.D.Disk). sim_node_ids w.nodes.items)
    begins.others ∙ its) named
    (subst (IsDeliverable begun.configs [] i kind) c.in-To.is
    (found_uncarried begun.configs _ i kind _ found brought.brought certain)) none)))) keeps)
    (loses_none c.keep-in_default-index_of.result h.loses event _ _ _ begins keeps refl)

-- ---- one did

-- the world once its node took the step, and its replies were carried
abbrev pub mid : (g : _) (c : goal.After-keep-2 g) → World g.row.D.Denot g.row.C.Denot g.D.Disk
mid g c = record c.begin.new.self {
  nodes = c.deliver.new.nodes;
  frames = c.trace_of.new.frames;
  carrier = c.trace_of.new.carrier;
}

-- what follows the lines of its outcome
pub follow : (g : _) (c : goal.After-keep-2 g) → RepliesFollow
    (HasCarried g.C.Carrier c.delivery_of.new.carrier c.trace_of.new.carrier) c.in-To.id
    (replies_by c.in_ok-outcome.outcome) (own_lines c.in-To.id (epoch_in c.args.event.now.kind)
    (length c.begin.new.self.frames.items) c.in_ok-outcome.outcome) c.in_ok-lines.lines
follow g c = subst (λ (e : Option ℕ). RepliesFollow
    (HasCarried g.C.Carrier c.delivery_of.new.carrier c.trace_of.new.carrier) c.in-To.id
    (replies_by c.in_ok-outcome.outcome) (own_lines c.in-To.id e
    (length c.begin.new.self.frames.items) c.in_ok-outcome.outcome) c.in_ok-lines.lines)
    c.epoch.ensures c.in_ok-lines.ensures.lines

pub took_steps : goal.returns-clause-steps
took_steps g c =
    let h = g.C.Carrier in
    let event = c.args.event.now in
    let kind = event.kind in
    let old = c.args.self.now in
    let begun = c.begin.new.self in
    let begins = c.in_ok-begin.ensures.begun in
    let i = c.in-Some.request in
    let found = c.in_ok-delivery_of.field-0 in
    let brought = c.in_ok-delivery_of.ensures.brought in
    let keeps = c.keep-2.ensures.kept in
    let x = c.in-To.id in
    let did = c.in_ok-outcome.outcome in
    let took = c.in_ok-outcome.ensures.moved in
    let lines = c.in_ok-lines.lines in
    node_steps h event old begun begins c.len.result i c.len.ensures c.in-Some.ensures.1 found
    c.deref.result.now c.deref.ensures.value c.delivery_of.new.carrier brought x c.in-To.input
    c.in-To.is (mid g c) did took lines c.in_ok-lines.ensures.posted (follow g c) c.keep-2.result
    c.keep-2.new.self _ keeps refl c.in_ok-lines.ensures.faithful
    (limited begun.nodes.items x c.in-To.input event.fault begun.limits did
    c.deliver.new.nodes.items took)
    (on_ok_weaker c.keep-2.result (adds_one old begun (mid g c) c.keep-2.new.self event _ _ begins
    refl refl refl
    (outcome_shown (HasCarried h c.delivery_of.new.carrier c.trace_of.new.carrier) x
    (epoch_in kind) did lines begun.frames.items c.trace_of.new.frames.items
    c.in_ok-lines.ensures.posted (follow g c)) refl
    (same_ids begun.nodes.items x c.in-To.input event.fault begun.limits did
    c.deliver.new.nodes.items took)
    (c.names_node.ensures.0 c.if-not-names_node.false)
    (λ _. by_kind kind lines (λ certain. dispatched_lines begun.configs [] i x c.in-To.input
    (get_or begun.nodes.items took.index took.sim).state
    (HasCarried h c.delivery_of.new.carrier c.trace_of.new.carrier)
    kind (length begun.frames.items) did lines
    (subst (IsDeliverable begun.configs [] i kind) c.in-To.is
    (found_uncarried begun.configs _ i kind _ found brought.brought certain))
    took.dispatched.outcome
    (follow g c)))) keeps)
    (loses_none c.keep-2.result h.loses event _ _ _ begins keeps refl)
