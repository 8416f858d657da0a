use Rattle.std.proofs.Common.{arith}
use Rattle.std.proofs.lemmas.Grind.{common_steps}
use Rattle.lab.specs.declared.report.NodeReport.{NodeReport}
use Rattle.lab.specs.declared.report.Report.{Report}
use Rattle.lab.specs.SimNodes.{in_memory}
use Rattle.lab.specs.Traces.{modelled_from}
use Rattle.lab.proofs.Freshness.{keep_needed, reads_are_fresh}
use Rattle.lab.proofs.Reports.{one_of, run_left}
use Rattle.lab.proofs.world.World+MemDisk+C.finish.Goals as goal

pub returns-clause-run : goal.returns-clause-run
returns-clause-run g c = λ past run.
    let made = run.made in
    let report : Report = record { steps = c.args.self.steps; nodes = c.in_ok-nodes.nodes } in
    run_left c.args.self.nodes.items c.args.self.frames.items past made g.C.Carrier.loses
    run.arrives
    report run.kept
    c.in_ok-nodes.ensures
    (reads_are_fresh past.configs past.events past.choices past.steps c.reads_fresh.ensures
    made.lawful made.trace)
    (keep_needed past.configs past.events past.choices c.keeps_enough.ensures made.lawful)

pub returns-clause-history : goal.returns-clause-history
returns-clause-history g c = λ past run.
    let made = run.made in
    let es = modelled_from 1 past.events past.choices in
    let one = c.one_history.ensures past.configs es made.lawful in
    let report : Report = record { steps = c.args.self.steps; nodes = c.in_ok-nodes.nodes } in
    let is = run_left c.args.self.nodes.items c.args.self.frames.items past made g.C.Carrier.loses
    run.arrives
    report run.kept
    c.in_ok-nodes.ensures
    (reads_are_fresh past.configs past.events past.choices past.steps c.reads_fresh.ensures
    made.lawful made.trace)
    (keep_needed past.configs past.events past.choices c.keeps_enough.ensures made.lawful) in
    one_of in_memory (λ (node : NodeReport). node.id)
    (λ (node : NodeReport). node.disk)
    past.configs past.events past.choices report.steps.items report.nodes.items is.trace is.disks
    one (c.exactly_once.ensures past.configs es made.lawful one)
    (c.run_is_outcomes.ensures past.configs es) c.pages_agree.ensures.agree

pub returns-then-ended-clause-kept : goal.returns-then-ended-clause-kept
returns-then-ended-clause-kept g c = grind (arith, common_steps)

pub returns-then-ended-clause-steps : goal.returns-then-ended-clause-steps
returns-then-ended-clause-steps g c = grind (arith, common_steps)

pub returns-then-ended-clause-run : goal.returns-then-ended-clause-run
returns-then-ended-clause-run g c = grind (arith, common_steps)

pub returns-then-ended-clause-history : goal.returns-then-ended-clause-history
returns-then-ended-clause-history g c = grind (arith, common_steps)

pub returns-then-ended-clause-own : goal.returns-then-ended-clause-own
returns-then-ended-clause-own g c = grind (arith, common_steps)

pub returns-then-ended-clause-ended : goal.returns-then-ended-clause-ended
returns-then-ended-clause-ended g c = grind (arith, common_steps)

pub returns-in_err-nodes-clause-kept : goal.returns-in_err-nodes-clause-kept
returns-in_err-nodes-clause-kept g c = grind (arith, common_steps)

pub returns-in_err-nodes-clause-steps : goal.returns-in_err-nodes-clause-steps
returns-in_err-nodes-clause-steps g c = grind (arith, common_steps)

pub returns-in_err-nodes-clause-run : goal.returns-in_err-nodes-clause-run
returns-in_err-nodes-clause-run g c = grind (arith, common_steps)

pub returns-in_err-nodes-clause-history : goal.returns-in_err-nodes-clause-history
returns-in_err-nodes-clause-history g c = grind (arith, common_steps)

pub returns-in_err-nodes-clause-own : goal.returns-in_err-nodes-clause-own
returns-in_err-nodes-clause-own g c = grind (arith, common_steps)

pub returns-in_err-nodes-clause-ended : goal.returns-in_err-nodes-clause-ended
returns-in_err-nodes-clause-ended g c = grind (arith, common_steps)

pub returns-clause-kept : goal.returns-clause-kept
returns-clause-kept g c = grind (arith, common_steps)

pub returns-clause-steps : goal.returns-clause-steps
returns-clause-steps g c = grind (arith, common_steps)

pub returns-clause-own : goal.returns-clause-own
returns-clause-own g c = grind (arith, common_steps)

pub returns-clause-ended : goal.returns-clause-ended
returns-clause-ended g c = grind (arith, common_steps)
