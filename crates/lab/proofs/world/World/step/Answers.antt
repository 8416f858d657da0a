use Rattle.std.proofs.Common.{arith}
use Rattle.std.proofs.lemmas.Grind.{common_steps}
mod Steps
use Rattle.std.proofs.Common.{List, ◌∷◌, [], length, false, true, refl, ap, subst, sym}
use Rattle.std.proofs.Common.{◌≡◌, ◌∙◌, Err, MatchOption, Option, inl, ℕ}
use Rattle.std.specs.Prelude.{OnOk}
use Rattle.std.proofs.lemmas.Bool.{false≢true}
use Rattle.std.proofs.lemmas.Option.{MatchOption-at_none}
use Rattle.std.proofs.lemmas.Result.{on_ok_weaker}
use Rattle.events.specs.declared.EventContent.{EventContent}
use Rattle.lab.specs.declared.report.Line.{Line}
use Rattle.lab.specs.declared.sim_node.SimNode.{SimNode}
use Rattle.lab.specs.declared.world.World.{World}
use Rattle.lab.specs.Events.{epoch_in}
use Rattle.lab.specs.LinesSoFar.{frames_of, nodes_of}
use Rattle.lab.specs.OutcomeLines.{outcome_lines}
use Rattle.lab.specs.Worlds.{HasKept, HasNoNode, IsIndexOf}
use Rattle.lab.proofs.AnyWorlds.{lost_left, moves_none, part_left, refused_begun, refused_idle}
use Rattle.lab.proofs.AnyWorlds.{refused_none, took_refused}
use Rattle.lab.proofs.LinesSoFarLemmas.{adds_none, keeps_nothing, keeps_unbegun, loses_nothing}
use Rattle.lab.proofs.LinesSoFarLemmas.{on_err}
use Rattle.lab.proofs.OutcomeLines.{outcome_arrives}
use Rattle.lab.proofs.StepEnds.{ends_again, ends_begun, ends_kept, ends_not, ends_now}
use Rattle.lab.proofs.WorldSteps.{delivered_after, ignored_after, lost_applied, nothing_applied}
use Rattle.lab.proofs.world.World.step.Answers.Steps.{absent_steps, follow, loss_steps, mid}
use Rattle.lab.proofs.world.World.step.Answers.Steps.{nothing_steps, took_steps}
use Rattle.lab.proofs.world.World.step.Goals as goal

-- no frame has the place, or no configuration the epoch: the event is kept with the line of that
pub returns-in-Nothing-clause-ran : goal.returns-in-Nothing-clause-ran
returns-in-Nothing-clause-ran g c = λ past run.
    let begun = c.begin.new.self in
    let event = c.args.event.now in
    on_ok_weaker c.keep.result (nothing_applied g.C.Carrier c.in_order.ensures
    c.one_spelling.ensures.one c.args.self.now begun
    event c.in_ok-begin.ensures.begun c.len.result c.in-Some.request c.len.ensures
    c.in-Some.ensures.0 c.in-Some.ensures.1 c.in_ok-delivery_of.field-0 c.deref.result.now
    c.deref.ensures.value c.delivery_of.new.carrier c.in_ok-delivery_of.ensures.brought
    (c.names_node.ensures.0 c.if-not-names_node.false) past run c.in-Nothing.is c.keep.new.self)
    (subst (λ (l : List Line). OnOk c.keep.result
    (HasKept (record begun { carrier = c.delivery_of.new.carrier }) c.keep.new.self false l))
    c.one.ensures c.keep.ensures.kept)

-- it was lost, and is kept so
pub returns-in-Lost-clause-ran : goal.returns-in-Lost-clause-ran
returns-in-Lost-clause-ran g c = λ past run.
    let begun = c.begin.new.self in
    let event = c.args.event.now in
    on_ok_weaker c.keep-in-Lost.result (lost_applied g.C.Carrier c.in_order.ensures
    c.one_spelling.ensures.one c.args.self.now
    begun
    event c.in_ok-begin.ensures.begun c.len.result c.in-Some.request c.len.ensures
    c.in-Some.ensures.0 c.in-Some.ensures.1 c.in_ok-delivery_of.field-0 c.deref.result.now
    c.deref.ensures.value c.delivery_of.new.carrier c.in_ok-delivery_of.ensures.brought
    (c.names_node.ensures.0 c.if-not-names_node.false) past run c.in-Lost.is
    c.keep-in-Lost.new.self)
    (subst (λ (l : List Line). OnOk c.keep-in-Lost.result (HasKept
    (record begun { carrier = c.delivery_of.new.carrier }) c.keep-in-Lost.new.self true l))
    c.one-in-Lost.ensures c.keep-in-Lost.ensures.kept)

-- the world has the node
pub returns-in_default-index_of-clause-ran : goal.returns-in_default-index_of-clause-ran
returns-in_default-index_of-clause-ran g c = λ past run.
    let begun = c.begin.new.self in
    let event = c.args.event.now in
    on_ok_weaker c.keep-in_default-index_of.result (λ keeps. ignored_after g.C.Carrier
    c.in_order.ensures c.one_spelling.ensures.one c.args.self.now begun event
    c.in_ok-begin.ensures.begun c.len.result c.in-Some.request c.len.ensures
    c.in-Some.ensures.0 c.in-Some.ensures.1 c.in_ok-delivery_of.field-0 c.deref.result.now
    c.deref.ensures.value c.delivery_of.new.carrier c.in_ok-delivery_of.ensures.brought
    (c.names_node.ensures.0 c.if-not-names_node.false) past run c.in-To.id c.in-To.input c.in-To.is
    (subst (λ (l : List (SimNode g.row.D.Denot g.D.Disk)). HasNoNode l c.in-To.id)
    c.deref-2.ensures.value
    (MatchOption-at_none (HasNoNode c.deref-2.result.now c.in-To.id)
    (λ index. IsIndexOf c.deref-2.result.now index c.in-To.id) c.in_default-index_of.is
    c.index_of.ensures)) _) c.keep-in_default-index_of.ensures.kept

pub returns-clause-ran : goal.returns-clause-ran
returns-clause-ran g c = λ past run.
    let begun = c.begin.new.self in
    let event = c.args.event.now in
    on_ok_weaker c.keep-2.result (delivered_after g.C.Carrier c.in_order.ensures
    c.one_spelling.ensures.one c.args.self.now
    begun event c.in_ok-begin.ensures.begun c.len.result c.in-Some.request c.len.ensures
    c.in-Some.ensures.0 c.in-Some.ensures.1 c.in_ok-delivery_of.field-0 c.deref.result.now
    c.deref.ensures.value c.delivery_of.new.carrier c.in_ok-delivery_of.ensures.brought
    (c.names_node.ensures.0 c.if-not-names_node.false) past run c.in-To.id c.in-To.input c.in-To.is
    (mid g c) c.keep-2.new.self (outcome_lines c.in-To.id (epoch_in event.kind)
    (length begun.frames.items) c.in_ok-outcome.outcome) c.in_ok-lines.lines refl
    c.in_ok-lines.ensures.faithful.1
    (record {
      did = c.in_ok-outcome.outcome;
      took = c.in_ok-outcome.ensures.moved;
      sent = c.in_ok-lines.ensures.posted;
      traced = refl;
    }) (outcome_arrives g.C.Carrier c.delivery_of.new.carrier c.trace_of.new.carrier
    c.in-To.id (epoch_in event.kind) (length begun.frames.items) c.in_ok-outcome.outcome
    c.in_ok-lines.lines (follow g c))) c.keep-2.ensures.kept

-- ---- what it does in any world

pub returns-then-not-names_node-clause-steps : goal.returns-then-not-names_node-clause-steps
returns-then-not-names_node-clause-steps g c = record {
  adds = adds_none c.args.self.now c.args.event.now
      (λ named. false≢true (sym c.if-not-names_node.true ∙ c.names_node.ensures.1 named));
  moves = moves_none g.C.Carrier c.args.event.now c.args.self.now;
  loses = loses_nothing g.C.Carrier.loses c.args.self.now c.args.event.now;
  limits = λ limits has. has;
  carrier = (λ carries. carries, λ carries. carries);
}

pub returns-in-Nothing-clause-steps : goal.returns-in-Nothing-clause-steps
returns-in-Nothing-clause-steps = nothing_steps

pub returns-in-Lost-clause-steps : goal.returns-in-Lost-clause-steps
returns-in-Lost-clause-steps = loss_steps

pub returns-in_default-index_of-clause-steps : goal.returns-in_default-index_of-clause-steps
returns-in_default-index_of-clause-steps = absent_steps

pub returns-clause-steps : goal.returns-clause-steps
returns-clause-steps = took_steps

-- ---- a step that was refused

pub returns-then-self-clause-refused : goal.returns-then-self-clause-refused
returns-then-self-clause-refused g c = refused_none g.C.Carrier c.args.event.now c.args.self.now
    c.args.self.now (keeps_nothing c.args.event.now c.args.self.now) refl refl

pub returns-in_err-begin-clause-refused : goal.returns-in_err-begin-clause-refused
returns-in_err-begin-clause-refused g c =
    let not_begun = c.in_err-begin.ensures.refused in
    let old = c.args.self.now in
    let new = c.begin.new.self in
    on_err c.from_residual.result (refused_none g.C.Carrier c.args.event.now old new
    (keeps_unbegun old new c.args.event.now not_begun)
    (ap (λ (w : World g.row.D.Denot g.row.C.Denot g.D.Disk). nodes_of w) not_begun.others)
    (ap (λ (w : World g.row.D.Denot g.row.C.Denot g.D.Disk). frames_of w) not_begun.others))

pub returns-in_default-clause-refused : goal.returns-in_default-clause-refused
returns-in_default-clause-refused g c =
    let begins = c.in_ok-begin.ensures.begun in
    refused_begun g.C.Carrier c.args.event.now c.args.self.now c.begin.new.self c.begin.new.self
    begins refl refl refl refl (inl (
      ap (λ (w : World g.row.D.Denot g.row.C.Denot g.D.Disk). nodes_of w) begins.others,
      ap (λ (w : World g.row.D.Denot g.row.C.Denot g.D.Disk). frames_of w) begins.others,
    ))

pub returns-in_err-delivery_of-clause-refused : goal.returns-in_err-delivery_of-clause-refused
returns-in_err-delivery_of-clause-refused g c =
    let begun = c.begin.new.self in
    let begins = c.in_ok-begin.ensures.begun in
    on_err c.from_residual-in_err-delivery_of.result
    (refused_begun g.C.Carrier c.args.event.now c.args.self.now begun
    (record begun { carrier = c.delivery_of.new.carrier }) begins refl refl refl refl (inl (
      ap (λ (w : World g.row.D.Denot g.row.C.Denot g.D.Disk). nodes_of w) begins.others,
      ap (λ (w : World g.row.D.Denot g.row.C.Denot g.D.Disk). frames_of w) begins.others,
    )))

pub returns-in-Nothing-clause-refused : goal.returns-in-Nothing-clause-refused
returns-in-Nothing-clause-refused g c = refused_idle g.C.Carrier c.args.event.now c.keep.result _ _
    _ _ _ c.in_ok-begin.ensures.begun c.keep.ensures.refused refl

pub returns-in-Lost-clause-refused : goal.returns-in-Lost-clause-refused
returns-in-Lost-clause-refused g c = refused_idle g.C.Carrier c.args.event.now
    c.keep-in-Lost.result _ _ _ _ _ c.in_ok-begin.ensures.begun c.keep-in-Lost.ensures.refused refl

pub returns-in_default-index_of-clause-refused : goal.returns-in_default-index_of-clause-refused
returns-in_default-index_of-clause-refused g c = refused_idle g.C.Carrier c.args.event.now
    c.keep-in_default-index_of.result _ _ _ _ _ c.in_ok-begin.ensures.begun
    c.keep-in_default-index_of.ensures.refused refl

-- the node may be lost
pub returns-in_err-outcome-clause-refused : goal.returns-in_err-outcome-clause-refused
returns-in_err-outcome-clause-refused g c =
    let h = g.C.Carrier in
    let begun = c.begin.new.self in
    let begins = c.in_ok-begin.ensures.begun in
    let new = record begun { nodes = c.deliver.new.nodes; carrier = c.delivery_of.new.carrier } in
    on_err c.from_residual-in_err-outcome.result
    (refused_begun h c.args.event.now c.args.self.now begun new begins refl refl refl refl
    (lost_left h c.args.event.now c.args.self.now begun begins c.len.result c.in-Some.request
    c.len.ensures c.in-Some.ensures.1 c.in_ok-delivery_of.field-0 c.deref.result.now
    c.deref.ensures.value c.delivery_of.new.carrier c.in_ok-delivery_of.ensures.brought c.in-To.id
    c.in-To.input
    c.in-To.is new _ (subst (λ (l : List (SimNode g.row.D.Denot g.D.Disk)).
    IsIndexOf l c.in-Some-index_of.at c.in-To.id) c.deref-2.ensures.value
    (subst (λ (o : Option ℕ). MatchOption o (HasNoNode c.deref-2.result.now c.in-To.id)
    (λ index. IsIndexOf c.deref-2.result.now index c.in-To.id)) c.in-Some-index_of.is
    c.index_of.ensures)) refl c.in_err-outcome.ensures.refused))

-- it took the event, but its lines could not be made
pub returns-in_err-lines-clause-refused : goal.returns-in_err-lines-clause-refused
returns-in_err-lines-clause-refused g c =
    let h = g.C.Carrier in
    let begun = c.begin.new.self in
    let begins = c.in_ok-begin.ensures.begun in
    let new = record begun {
      nodes = c.deliver.new.nodes;
      frames = c.trace_of.new.frames;
      carrier = c.trace_of.new.carrier;
    } in
    on_err c.from_residual-in_err-lines.result
    (refused_begun h c.args.event.now c.args.self.now begun new begins refl refl refl refl
    (part_left h c.args.event.now c.args.self.now begun begins c.len.result c.in-Some.request
    c.len.ensures c.in-Some.ensures.1 c.in_ok-delivery_of.field-0 c.deref.result.now
    c.deref.ensures.value c.delivery_of.new.carrier c.in_ok-delivery_of.ensures.brought c.in-To.id
    c.in-To.input
    c.in-To.is new c.in_ok-outcome.outcome c.in_ok-outcome.ensures.moved new refl
    c.in_err-lines.ensures.refused))

-- or kept
pub returns-clause-refused : goal.returns-clause-refused
returns-clause-refused g c =
    let h = g.C.Carrier in
    let begun = c.begin.new.self in
    let begins = c.in_ok-begin.ensures.begun in
    took_refused h c.args.event.now c.args.self.now begun begins c.len.result c.in-Some.request
    c.len.ensures c.in-Some.ensures.1 c.in_ok-delivery_of.field-0 c.deref.result.now
    c.deref.ensures.value c.delivery_of.new.carrier c.in_ok-delivery_of.ensures.brought c.in-To.id
    c.in-To.input
    c.in-To.is (mid g c) c.in_ok-outcome.outcome c.in_ok-outcome.ensures.moved
    c.in_ok-lines.lines c.in_ok-lines.ensures.posted (follow g c) c.keep-2.result c.keep-2.new.self
    c.keep-2.ensures.refused refl

-- ---- whether it ends

pub returns-then-self-clause-ends : goal.returns-then-self-clause-ends
returns-then-self-clause-ends g c = ends_again _ c.args.self.now c.if-self.true

pub returns-then-not-names_node-clause-ends : goal.returns-then-not-names_node-clause-ends
returns-then-not-names_node-clause-ends g c = ends_not _ c.args.self.now c.if-self.false

pub returns-in_err-begin-clause-ends : goal.returns-in_err-begin-clause-ends
returns-in_err-begin-clause-ends g c =
    ends_now _ c.from_residual.result c.args.self.now c.begin.new.self c.from_residual.ensures.1
    c.if-self.false c.in_err-begin.ensures.ends

pub returns-in_default-clause-ends : goal.returns-in_default-clause-ends
returns-in_default-clause-ends g c = ends_begun (λ _. Unit {0}) (Err _) c.begin.new.self tt
    c.if-self.false c.in_ok-begin.ensures.begun refl

pub returns-in_err-delivery_of-clause-ends : goal.returns-in_err-delivery_of-clause-ends
returns-in_err-delivery_of-clause-ends g c =
    ends_begun _ c.from_residual-in_err-delivery_of.result _
    c.from_residual-in_err-delivery_of.ensures.1 c.if-self.false c.in_ok-begin.ensures.begun refl

pub returns-in-Nothing-clause-ends : goal.returns-in-Nothing-clause-ends
returns-in-Nothing-clause-ends g c = ends_kept c.keep.result _ _ _ _ c.if-self.false
    c.in_ok-begin.ensures.begun c.keep.ensures.kept c.keep.ensures.ends refl

pub returns-in-Lost-clause-ends : goal.returns-in-Lost-clause-ends
returns-in-Lost-clause-ends g c = ends_kept c.keep-in-Lost.result _ _ _ _ c.if-self.false
    c.in_ok-begin.ensures.begun c.keep-in-Lost.ensures.kept c.keep-in-Lost.ensures.ends refl

pub returns-in_default-index_of-clause-ends : goal.returns-in_default-index_of-clause-ends
returns-in_default-index_of-clause-ends g c = ends_kept c.keep-in_default-index_of.result _ _ _ _
    c.if-self.false c.in_ok-begin.ensures.begun c.keep-in_default-index_of.ensures.kept
    c.keep-in_default-index_of.ensures.ends refl

pub returns-in_err-outcome-clause-ends : goal.returns-in_err-outcome-clause-ends
returns-in_err-outcome-clause-ends g c =
    ends_begun _ c.from_residual-in_err-outcome.result _ c.from_residual-in_err-outcome.ensures.1
    c.if-self.false c.in_ok-begin.ensures.begun refl

pub returns-in_err-lines-clause-ends : goal.returns-in_err-lines-clause-ends
returns-in_err-lines-clause-ends g c =
    ends_begun _ c.from_residual-in_err-lines.result _ c.from_residual-in_err-lines.ensures.1
    c.if-self.false c.in_ok-begin.ensures.begun refl

pub returns-clause-ends : goal.returns-clause-ends
returns-clause-ends g c = ends_kept c.keep-2.result _ _ _ _ c.if-self.false
    c.in_ok-begin.ensures.begun c.keep-2.ensures.kept c.keep-2.ensures.ends refl

pub returns-then-self-clause-ran : goal.returns-then-self-clause-ran
returns-then-self-clause-ran g c = grind (arith, common_steps)

pub returns-then-self-clause-steps : goal.returns-then-self-clause-steps
returns-then-self-clause-steps g c = grind (arith, common_steps)

pub returns-then-not-names_node-clause-ran : goal.returns-then-not-names_node-clause-ran
returns-then-not-names_node-clause-ran g c = grind (arith, common_steps)

pub returns-then-not-names_node-clause-refused : goal.returns-then-not-names_node-clause-refused
returns-then-not-names_node-clause-refused g c = grind (arith, common_steps)

pub returns-in_err-begin-clause-ran : goal.returns-in_err-begin-clause-ran
returns-in_err-begin-clause-ran g c = grind (arith, common_steps)

pub returns-in_err-begin-clause-steps : goal.returns-in_err-begin-clause-steps
returns-in_err-begin-clause-steps g c = grind (arith, common_steps)

pub returns-in_default-clause-ran : goal.returns-in_default-clause-ran
returns-in_default-clause-ran g c = grind (arith, common_steps)

pub returns-in_default-clause-steps : goal.returns-in_default-clause-steps
returns-in_default-clause-steps g c = grind (arith, common_steps)

pub returns-in_err-delivery_of-clause-ran : goal.returns-in_err-delivery_of-clause-ran
returns-in_err-delivery_of-clause-ran g c = grind (arith, common_steps)

pub returns-in_err-delivery_of-clause-steps : goal.returns-in_err-delivery_of-clause-steps
returns-in_err-delivery_of-clause-steps g c = grind (arith, common_steps)

pub returns-in_err-outcome-clause-ran : goal.returns-in_err-outcome-clause-ran
returns-in_err-outcome-clause-ran g c = grind (arith, common_steps)

pub returns-in_err-outcome-clause-steps : goal.returns-in_err-outcome-clause-steps
returns-in_err-outcome-clause-steps g c = grind (arith, common_steps)

pub returns-in_err-lines-clause-ran : goal.returns-in_err-lines-clause-ran
returns-in_err-lines-clause-ran g c = grind (arith, common_steps)

pub returns-in_err-lines-clause-steps : goal.returns-in_err-lines-clause-steps
returns-in_err-lines-clause-steps g c = grind (arith, common_steps)
