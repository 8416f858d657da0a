use Rattle.store_cursors.proofs.Arms.{over_memory, over_tables, served}
use Rattle.store_cursors.proofs.MemoryArm.{memory_moves}
use Rattle.store_cursors.proofs.TablesArm.{tables_moves}
use Rattle.store_cursors.proofs.store_cursor.StoreCursorCursor.seek.Goals as goal

pub returns-in-Memory : goal.returns-in-Memory
returns-in-Memory g c = memory_moves over_memory (over_tables _) _ _ _ _ c.args.self.now
    c.in-Memory.cursor c.seek.new.self c.args.files.now c.seek.result (λ it. it) (served _ _)
    c.in-Memory.is c.seek.ensures

pub returns-in-Tables : goal.returns-in-Tables
returns-in-Tables g c = tables_moves over_memory (over_tables _) _ _ _ c.args.self.now
    c.in-Tables.cursor c.seek-in-Tables.new.self c.args.files.now c.seek-in-Tables.new.source
    c.seek-in-Tables.result c.in-Tables.is c.seek-in-Tables.ensures
