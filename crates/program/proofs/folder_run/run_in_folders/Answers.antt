use Rattle.std.proofs.Common.{rules}
use Rattle.std.proofs.lemmas.Result.{IfErr-weaker, IfOk-weaker}
use Rattle.program.proofs.FolderEnds.{failed_loop, not_a_script}
use Rattle.program.proofs.folder_run.run_in_folders.Goals as goal

-- the script was run at its nodes
pub returns-clause-printed : goal.returns-clause-printed
returns-clause-printed g c = IfOk-weaker c.run_at_nodes-ran.result _ _ (λ stopped ran. record {
  setup = c.in_ok-script.script.setup;
  statements = c.in_ok-script.script.statements.items;
  spelled = c.in_ok-script.ensures.found;
  lawful = c.in_ok-script.ensures.lawful;
  named = c.in_ok-script.ensures.node;
  so = ran;
}) c.run_at_nodes-ran.ensures.printed

-- or its run failed
pub returns-clause-failed : goal.returns-clause-failed
returns-clause-failed g c = IfErr-weaker c.run_at_nodes-ran.result _ _
    (λ failure fails. failed_loop c.args.folder.now (g.R.Read.remaining c.args.input.now)
    (g.W.Write.contents c.args.out.now) (g.W.Write.contents c.run_at_nodes-ran.new.out)
    c.in_ok-script.script.setup c.in_ok-script.script.statements.items failure
    c.in_ok-script.ensures.found c.in_ok-script.ensures.lawful c.in_ok-script.ensures.node fails)
    c.run_at_nodes-ran.ensures.failed

-- no script was read
pub returns-in_err-script-clause-failed : goal.returns-in_err-script-clause-failed
returns-in_err-script-clause-failed g c =
    let reading = c.in_err-script.ensures.cause in
    let fault = c.in_err-script.ensures.fault in
    search (rules, not_a_script, reading, fault)
