use Rattle.byte_fields.specs.ByteOrderLemmas.{lt_below}
use Rattle.compaction.proofs.finishing.stands_below.Goals as goal

pub returns : goal.returns
returns c = rw c.lt.ensures (lt_below c.args.a.now c.args.b.now)
