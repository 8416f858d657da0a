use Rattle.std.proofs.Common.{arith}
use Rattle.configurations.proofs.Spelling.{too_few}
use Rattle.configurations.proofs.reading.ids_of.Goals as goal

pub returns-in_default : goal.returns-in_default
returns-in_default c =
    too_few c.args.bytes.now c.args.count c.loop.counter c.loop.ids.items c.loop.rest.now
    c.loop.invariant c.loop-test.true (omega (arith, c.in_default.len_below))
