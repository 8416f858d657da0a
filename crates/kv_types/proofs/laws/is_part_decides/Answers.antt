use Rattle.kv_types.specs.ListsLemmas.{part_test, test_part}
use Rattle.kv_types.proofs.laws.is_part_decides.Goals as goal

pub returns : goal.returns
returns c = λ d c. (test_part d c, part_test d c)
