use Rattle.table_format.proofs.Examples.{part_examples, table_examples}
use Rattle.table_format.proofs.laws.examples.Goals as goal

pub returns : goal.returns
returns c = record { parts = part_examples; tables = table_examples }
