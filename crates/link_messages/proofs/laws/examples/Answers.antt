use Rattle.std.proofs.Common.{refl}
use Rattle.link_messages.proofs.laws.examples.Goals as goal

pub returns : goal.returns
returns c = record { put = refl; forward = refl; marked = refl; ack = refl }
