use Rattle.store_tables.proofs.LevelLemmas.{flushed_tables_rise, lines_in_order_rise}
use Rattle.store_tables.proofs.laws.levels_rise.Goals as goal

pub returns-clause-lines : goal.returns-clause-lines
returns-clause-lines c = lines_in_order_rise

pub returns-clause-flushed : goal.returns-clause-flushed
returns-clause-flushed c = flushed_tables_rise
