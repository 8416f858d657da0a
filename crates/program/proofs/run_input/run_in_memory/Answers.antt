use Rattle.std.proofs.Common.{rules}
use Rattle.program.proofs.Wholes.{fails_so, no_world}
use Rattle.program.proofs.run_input.run_in_memory.Goals as goal

pub returns-clause-run : goal.returns-clause-run
returns-clause-run g c = record {
  world = c.run_script-ran.new.world;
  printed = c.in_ok-ran.ensures.printed (record {
    none = record { run = c.in_ok-world.ensures.ran; limits = c.in_ok-world.ensures.limits };
    named = c.requires;
  });
}

-- no world was made
pub returns-in_err-world-clause-failed : goal.returns-in_err-world-clause-failed
returns-in_err-world-clause-failed g c =
    let failed = no_world c.args.script.now.setup c.args.script.now.statements.items
    (g.W.Write.contents c.args.out.now) in
    search (rules, failed)

pub returns-in_err-ran-clause-failed : goal.returns-in_err-ran-clause-failed
returns-in_err-ran-clause-failed g c =
    let failed = fails_so c.run_script-ran.new.world c.args.script.now.setup
    c.args.script.now.statements.items (g.W.Write.contents c.args.out.now)
    (g.W.Write.contents c.run_script-ran.new.out) c.in_err-ran.field-0.0
    (c.in_err-ran.ensures.ended (record {
      none = record { run = c.in_ok-world.ensures.ran; limits = c.in_ok-world.ensures.limits };
      named = c.requires;
    })) in
    search (rules, failed)
