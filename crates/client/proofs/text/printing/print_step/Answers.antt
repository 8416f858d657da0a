use Rattle.std.specs.Prelude.{string_bytes}
use Rattle.std.proofs.Common.{arith}
use Rattle.std.proofs.lemmas.Grind.{common_steps}
use Rattle.client.specs.Text.{line_output}
use Rattle.client.proofs.Printed.{prints_next}
use Rattle.client.proofs.text.printing.print_step.Goals as goal

pub loop-line-preserved : goal.loop-line-preserved
loop-line-preserved c =
    prints_next (string_bytes c.args.text.now) (string_bytes c.loop-line.text) _
    (line_output c.args.places.now c.args.here) c.args.step.now c.loop-line.line-index _
    c.line-item.result c.loop-line-test.true c.line-item.is c.loop-line.invariant
    c.in_ok-print_line.ensures

pub returns : goal.returns
returns c = grind (arith, common_steps)
