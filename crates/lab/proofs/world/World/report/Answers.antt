use Rattle.lab.specs.declared.sim_node.SimNode.{SimNode}
use Rattle.lab.specs.SimNodes.{disk_in}
use Rattle.lab.specs.Traces.{modelled_from}
use Rattle.lab.proofs.Freshness.{keep_needed, reads_are_fresh}
use Rattle.lab.proofs.Reports.{disk_represents, disks_so_far, one_of, unarmed_so_far}
use Rattle.lab.proofs.world.World.report.Goals as goal

pub returns-clause-run : goal.returns-clause-run
returns-clause-run g c = λ past run.
    let self = c.args.self.now in
    let made = run.made in
    record {
      trace = made.trace;
      arrives = run.arrives;
      disks = disks_so_far self.nodes.items self.frames.items past made
          (λ sim. disk_represents c.disks_represent.ensures sim.state);
      unarmed = unarmed_so_far self.nodes.items self.frames.items past made;
      fresh = reads_are_fresh past.configs past.events past.choices past.steps
          c.reads_fresh.ensures made.lawful made.trace;
      enough = keep_needed past.configs past.events past.choices c.keeps_enough.ensures
          made.lawful;
    }

pub returns-clause-history : goal.returns-clause-history
returns-clause-history g c = λ past run.
    let self = c.args.self.now in
    let made = run.made in
    let es = modelled_from 1 past.events past.choices in
    let one = c.one_history.ensures past.configs es made.lawful in
    one_of g.D.Disk (λ (sim : SimNode g.row.D.Denot g.D.Disk). sim.id)
    (λ (sim : SimNode g.row.D.Denot g.D.Disk). disk_in sim.state)
    past.configs past.events past.choices past.steps self.nodes.items made.trace
    (disks_so_far self.nodes.items self.frames.items past made
    (λ sim. disk_represents c.disks_represent.ensures sim.state))
    one (c.exactly_once.ensures past.configs es made.lawful one)
    (c.run_is_outcomes.ensures past.configs es) c.pages_agree.ensures.agree
