use Rattle.store_cursors.proofs.Arms.{over_memory, over_tables, served}
use Rattle.store_cursors.proofs.MemoryArm.{memory_steps}
use Rattle.store_cursors.proofs.TablesArm.{tables_steps}
use Rattle.store_cursors.proofs.store_cursor.StoreCursorCursor.next.Goals as goal

pub returns-in-Memory : goal.returns-in-Memory
returns-in-Memory g c = memory_steps over_memory (over_tables _) _ c.args.self.now
    c.in-Memory.cursor c.next.new.self c.args.files.now c.next.result (served _ _) c.in-Memory.is
    c.next.ensures

pub returns-in-Tables : goal.returns-in-Tables
returns-in-Tables g c = tables_steps over_memory (over_tables _) _ c.args.self.now
    c.in-Tables.cursor c.next-in-Tables.new.self c.args.files.now c.next-in-Tables.new.source
    c.next-in-Tables.result c.in-Tables.is c.next-in-Tables.ensures
