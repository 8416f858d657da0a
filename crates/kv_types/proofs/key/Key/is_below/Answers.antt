use Rattle.byte_fields.specs.ByteOrderLemmas.{lt_below}
use Rattle.kv_types.proofs.key.Key.is_below.Goals as goal

pub returns : goal.returns
returns c = rw c.lt.ensures (lt_below c.args.self.now c.args.other.now)
