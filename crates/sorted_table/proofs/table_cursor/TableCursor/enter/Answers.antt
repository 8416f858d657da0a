use Rattle.std.proofs.Common.{arith}
use Rattle.std.proofs.lemmas.Grind.{common_steps}
use Rattle.std.proofs.Common.{rules}
use Rattle.std.specs.Rc.{rc_slice_items}
use Rattle.table_files.specs.{keeps_files_itself}
use Rattle.sorted_table.specs.MovedFiles.{moves_itself}
use Rattle.sorted_table.proofs.CursorMoves.{enters_none, enters_some}
use Rattle.sorted_table.proofs.TablePlaces.{moved_in}
use Rattle.sorted_table.proofs.table_cursor.TableCursor.enter.Goals as goal

pub returns-then-line-len-clause-moved : goal.returns-then-line-len-clause-moved
returns-then-line-len-clause-moved g c = record {
  keeps = keeps_files_itself _ c.args.files.now;
  device = moves_itself _ c.args.files.now;
  causes = search rules;
  refused = search rules;
}

pub returns-in-Ok-clause-reads : goal.returns-in-Ok-clause-reads
returns-in-Ok-clause-reads g c = λ m honest agree t.
    moved_in t.represents.blocks c.in-Ok.place c.at_end.result c.at_end.result.at
    c.at_end.ensures.same (c.in-Ok.ensures.reads m honest agree t)

pub returns-then-line-len-clause-table : goal.returns-then-line-len-clause-table
returns-then-line-len-clause-table g c = grind (arith, common_steps)

pub returns-then-line-len-clause-entered : goal.returns-then-line-len-clause-entered
returns-then-line-len-clause-entered g c = grind (arith, common_steps)

pub returns-then-line-len-clause-reads : goal.returns-then-line-len-clause-reads
returns-then-line-len-clause-reads g c = grind (arith, common_steps)

pub returns-in-Ok-clause-table : goal.returns-in-Ok-clause-table
returns-in-Ok-clause-table g c = grind (arith, common_steps)

pub returns-in-Ok-clause-entered : goal.returns-in-Ok-clause-entered
returns-in-Ok-clause-entered g c = grind (arith, common_steps)

pub returns-in-Err-clause-table : goal.returns-in-Err-clause-table
returns-in-Err-clause-table g c = grind (arith, common_steps)

pub returns-in-Err-clause-entered : goal.returns-in-Err-clause-entered
returns-in-Err-clause-entered g c = grind (arith, common_steps)

pub returns-in-Err-clause-reads : goal.returns-in-Err-clause-reads
returns-in-Err-clause-reads g c = grind (arith, common_steps)

pub returns-in-Ok-clause-moved : goal.returns-in-Ok-clause-moved
returns-in-Ok-clause-moved g c =
    enters_some _ c.args.self.now.file c.args.self.now.format (rc_slice_items c.args.self.now.lines)
    c.args.files.now
    c.first_of.new.files c.first_of.result c.in-Ok.place _ _ c.in-Ok.is c.first_of.ensures.device

pub returns-in-Err-clause-moved : goal.returns-in-Err-clause-moved
returns-in-Err-clause-moved g c =
    rw c.cursor_error.ensures (enters_none _ c.args.self.now.file
    c.args.self.now.format (rc_slice_items c.args.self.now.lines) c.args.files.now
    c.first_of.new.files c.first_of.result
    c.in-Err.e c.in-Err.is c.first_of.ensures.device c.first_of.ensures.damaged)
