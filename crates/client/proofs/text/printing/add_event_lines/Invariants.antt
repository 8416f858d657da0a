use Rattle.std.proofs.Common.{◌≡◌, ◌++◌, replicate}
use Rattle.client.proofs.text.printing.add_event_lines.Given as goal

abbrev pub invariant-loop : goal.invariant-loop
invariant-loop l = l.places.items ≡ l.fn.places.items ++ replicate l.counter l.line
