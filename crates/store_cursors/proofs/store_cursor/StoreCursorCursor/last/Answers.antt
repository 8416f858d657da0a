use Rattle.store_cursors.proofs.Arms.{over_memory, over_tables, served}
use Rattle.store_cursors.proofs.MemoryArm.{memory_moves}
use Rattle.store_cursors.proofs.TablesArm.{tables_moves}
use Rattle.store_cursors.proofs.store_cursor.StoreCursorCursor.last.Goals as goal

pub returns-in-Memory : goal.returns-in-Memory
returns-in-Memory g c = memory_moves over_memory (over_tables _) _ _ _ _ c.args.self.now
    c.in-Memory.cursor c.last.new.self c.args.files.now c.last.result (λ never. absurd never)
    (served _ _) c.in-Memory.is c.last.ensures

pub returns-in-Tables : goal.returns-in-Tables
returns-in-Tables g c = tables_moves over_memory (over_tables _) _ _ _ c.args.self.now
    c.in-Tables.cursor c.last-in-Tables.new.self c.args.files.now c.last-in-Tables.new.source
    c.last-in-Tables.result c.in-Tables.is c.last-in-Tables.ensures
