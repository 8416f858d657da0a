use Rattle.std.proofs.Common.{rules}
use Rattle.program.proofs.FolderEnds.{cut_short, found_nodes, no_carrier, world_of_found}
use Rattle.program.proofs.folder_run.run_at_nodes.Goals as goal

-- the nodes were found, and the world has them
pub returns-clause-printed : goal.returns-clause-printed
returns-clause-printed g c = record {
  world = c.over-world.result;
  is = world_of_found c.args.folder.now c.args.script.now.setup _ c.in_ok-nodes.nodes.items
      c.in-Ok.ensures c.in_ok-nodes.ensures.nodes c.in_ok-nodes.ensures.found
      c.over-world.result c.over-world.ensures.nodes c.over-world.ensures.configs
      c.over-world.ensures.none c.over-world.ensures.limits c.over-world.ensures.goes_on;
  printed = c.in_ok-run_world.ensures.printed c.over-world.ensures.none.lines;
}

-- a folder has no node
pub returns-in_err-nodes-clause-failed : goal.returns-in_err-nodes-clause-failed
returns-in_err-nodes-clause-failed g c =
    let named = rw c.in-Ok.ensures at c.in_err-nodes.ensures.fault in
    search (rules, named)

-- there was no listener
pub returns-in_err-carrier-clause-failed : goal.returns-in_err-carrier-clause-failed
returns-in_err-carrier-clause-failed g c =
    let found = found_nodes c.args.folder.now c.args.script.now.setup _ c.in_ok-nodes.nodes.items
    c.in-Ok.ensures c.in_ok-nodes.ensures.nodes c.in_ok-nodes.ensures.found in
    let failed = no_carrier c.args.folder.now c.args.script.now.setup
    c.args.script.now.statements.items (g.W.Write.contents c.args.out.now)
    c.in_err-carrier.field-0.0 found c.in_err-carrier.ensures in
    search (rules, failed)

-- the run ended early
pub returns-in_err-run_world-clause-failed : goal.returns-in_err-run_world-clause-failed
returns-in_err-run_world-clause-failed g c =
    let failed = cut_short c.args.folder.now c.args.script.now.setup
    c.args.script.now.statements.items (g.W.Write.contents c.args.out.now)
    (g.W.Write.contents c.run_world.new.out) c.over-world.result c.in_err-run_world.field-0.0
    (world_of_found c.args.folder.now c.args.script.now.setup _ c.in_ok-nodes.nodes.items
    c.in-Ok.ensures c.in_ok-nodes.ensures.nodes c.in_ok-nodes.ensures.found
    c.over-world.result c.over-world.ensures.nodes c.over-world.ensures.configs
    c.over-world.ensures.none c.over-world.ensures.limits c.over-world.ensures.goes_on)
    (c.in_err-run_world.ensures.printed c.over-world.ensures.none.lines) in
    search (rules, failed)
