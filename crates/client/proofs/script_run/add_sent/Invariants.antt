use Rattle.std.proofs.Common.{◌≡◌, ◌++◌, ◌-◌, ◌≤◌, max}
use Rattle.client.specs.ScriptRuns.{places_after}
use Rattle.client.proofs.script_run.add_sent.Given as goal

abbrev pub invariant-loop-sent : goal.invariant-loop-sent
invariant-loop-sent l = record {
  left : l.left.items ≡ l.fn.left.items ++ places_after l.before (l.sent - l.before);
  from : l.before ≤ l.sent;
  to : l.sent ≤ max l.before l.now;
}
