use Rattle.std.proofs.Common.{length}
use Rattle.byte_fields.proofs.stored_key.+order_few.Given as goal

-- each call compares what is behind a byte
abbrev pub decreases-order_few : goal.decreases-order_few
decreases-order_few l = length l.a.now
