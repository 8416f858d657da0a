use Rattle.store_cursors.proofs.Arms.{over_memory, over_tables, served}
use Rattle.store_cursors.proofs.MemoryArm.{memory_steps}
use Rattle.store_cursors.proofs.TablesArm.{tables_steps}
use Rattle.store_cursors.proofs.store_cursor.StoreCursorCursor.prev.Goals as goal

pub returns-in-Memory : goal.returns-in-Memory
returns-in-Memory g c = memory_steps over_memory (over_tables _) _ c.args.self.now
    c.in-Memory.cursor c.prev.new.self c.args.files.now c.prev.result (served _ _) c.in-Memory.is
    c.prev.ensures

pub returns-in-Tables : goal.returns-in-Tables
returns-in-Tables g c = tables_steps over_memory (over_tables _) _ c.args.self.now
    c.in-Tables.cursor c.prev-in-Tables.new.self c.args.files.now c.prev-in-Tables.new.source
    c.prev-in-Tables.result c.in-Tables.is c.prev-in-Tables.ensures
