use Rattle.std.proofs.Common.{◌≡◌, ◌+◌, ◌++◌, ◌<◌, ◌≤◌, List, length}
use Rattle.scripts.specs.declared.setup.Setup.{Setup}
use Rattle.scripts.specs.declared.statement.Statement.{Statement}
use Rattle.script_words.specs.Lines.{script_lines}
use Rattle.scripts.specs.Scripts.{IsScript}
use Rattle.scripts.specs.Faults.{script_fault, start}
use Rattle.scripts.proofs.Going.{IsRestOf}
use Rattle.script_words.specs.LimitsLemmas.{HasRanges}
use Rattle.scripts.proofs.reader.read_script.Given as goal

-- what was found and what is left make the whole, the fault of what is left is that of the whole,
-- and so many lines are left
abbrev pub invariant-loop-line : goal.invariant-loop-line
invariant-loop-line l = record {
  found : (setup : Setup) (rest : List Statement) → IsRestOf l.before l.number
      (script_lines l.line-iterator.0.now) setup rest
      → IsScript 1 (script_lines l.fn.text) setup (l.statements.items ++ rest);
  fault : script_fault l.before l.number (script_lines l.line-iterator.0.now)
      ≡ script_fault (start l.fn.faults) 1 (script_lines l.fn.text);
  above : 0 < l.number;
  count : l.number + length (script_lines l.line-iterator.0.now)
      ≡ 1 + length (script_lines l.fn.text);
  few : l.number ≤ 100001;
  ranges : HasRanges l.before.limits;
}
