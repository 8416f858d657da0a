use Rattle.std.proofs.Common.{rules}
use Rattle.table_files.specs.{keeps_files_itself}
use Rattle.sorted_table.specs.MovedFiles.{moves_itself}
use Rattle.sorted_table.proofs.table_cursor.TableCursor.reach.Goals as goal

pub returns-then-has_block-clause-moved : goal.returns-then-has_block-clause-moved
returns-then-has_block-clause-moved g c = record {
  keeps = keeps_files_itself _ c.args.files.now;
  device = moves_itself _ c.args.files.now;
  causes = search rules;
  refused = search rules;
}

pub returns-clause-reads : goal.returns-clause-reads
returns-clause-reads g c = λ m honest agree t here. c.enter.ensures.reads m honest agree t
