use Rattle.store_tables.proofs.EditedTables.{replaced_tables_are_edited}
use Rattle.store_tables.proofs.Replaced.{replaced_lines_name}
use Rattle.store_tables.proofs.laws.replaced_tables_are_edited.Goals as goal

pub returns-clause-edited : goal.returns-clause-edited
returns-clause-edited c = replaced_tables_are_edited

pub returns-clause-lines : goal.returns-clause-lines
returns-clause-lines c = replaced_lines_name
