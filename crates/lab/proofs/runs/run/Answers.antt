use Rattle.std.proofs.Common.{List, ◌∷◌, [], ◌++◌, take, sym, ap, subst, ◌∙◌}
use Rattle.std.proofs.lemmas.List.{take_more, take_all}
use Rattle.events.specs.declared.EventContent.{EventContent}
use Rattle.lab.specs.Events.{NamesNode}
use Rattle.lab.specs.Worlds.{HasRun, WorldRun, direct_carrier}
use Rattle.lab.proofs.Reports.{reported_run}
use Rattle.lab.proofs.runs.run.Goals as goal

-- one event more
pub loop-event-preserved : goal.loop-event-preserved
loop-event-preserved c =
    let cs = c.args.configs.now in
    let events = c.args.events.now in
    let i = c.loop-event.event-index in
    let event = c.event-item.result in
    let was = c.loop-event.invariant in
    let past : WorldRun =
    record { configs = cs; events = take i events; choices = was.0; steps = was.1 } in
    let names = subst (λ (e : EventContent). NamesNode cs e.kind) (sym c.event-item.is)
    (c.requires.named i event c.loop-event-test.true) in
    let ran = (c.in_ok-step.ensures.ran past was.2).follows names in
    let more = ap (λ (e : EventContent). take i events ++ e ∷ []) c.event-item.is
    ∙ sym (take_more events i event c.loop-event-test.true) in (
      was.0 ++ ran.choice ∷ [],
      was.1 ++ ran.lines ∷ [],
      subst (λ (es : List EventContent). HasRun direct_carrier c.step.new.self (record {
        configs = cs;
        events = es;
        choices = was.0 ++ ran.choice ∷ [];
        steps = was.1 ++ ran.lines ∷ [];
      })) more ran.run,
      c.in_ok-step.ensures.steps.limits c.args.limits.now was.3,
    )

-- all events were applied
abbrev past_of : (c : goal.After-finish) → WorldRun
past_of c = record {
  configs = c.args.configs.now;
  events = c.args.events.now;
  choices = c.loop-event.invariant.0;
  steps = c.loop-event.invariant.1;
}

has_run : (c : goal.After-finish) → HasRun direct_carrier c.loop-event.world (past_of c)
has_run c =
    subst (λ (es : List EventContent). HasRun direct_carrier c.loop-event.world
    (record (past_of c) {
      events = es;
    }))
    (take_all c.loop-event.event-index c.args.events.now c.loop-event-test.false)
    c.loop-event.invariant.2

pub returns-clause-run : goal.returns-clause-run
returns-clause-run c = reported_run c.loop-event.world c.args.limits.now (past_of c) (has_run c)
    c.loop-event.invariant.3 c.finish.result (c.finish.ensures.run (past_of c) (has_run c))
    c.finish.ensures.own

pub returns-clause-history : goal.returns-clause-history
returns-clause-history c = c.finish.ensures.history (past_of c) (has_run c)
