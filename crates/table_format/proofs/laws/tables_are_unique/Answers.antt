use Rattle.table_format.specs.TablesLemmas.{table_is_unique}
use Rattle.table_format.proofs.laws.tables_are_unique.Goals as goal

pub returns : goal.returns
returns c = table_is_unique
