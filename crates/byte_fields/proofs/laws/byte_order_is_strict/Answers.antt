use Rattle.byte_fields.specs.ByteOrderLemmas.{below-Less, Less-below, below_is_strict}
use Rattle.byte_fields.proofs.laws.byte_order_is_strict.Goals as goal

pub returns-clause-strict : goal.returns-clause-strict
returns-clause-strict c = below_is_strict

pub returns-clause-less : goal.returns-clause-less
returns-clause-less c = λ a b. (below-Less a b, Less-below a b)
