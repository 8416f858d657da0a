use Rattle.std.proofs.Common.{arith}
use Rattle.bloom.proofs.Walking.{reduced, small}
use Rattle.bloom.proofs.hashes.sum_of.Goals as goal

pub returns-then-a-room : goal.returns-then-a-room
returns-then-a-room c = small c.args.a c.args.b c.args.bits (omega arith)

pub returns-else-a-room : goal.returns-else-a-room
returns-else-a-room c =
    reduced c.args.a c.args.b c.args.bits c.requires.first c.requires.second (omega arith)
