use Rattle.store_cursors.proofs.Arms.{over_memory, over_tables, served}
use Rattle.store_cursors.proofs.MemoryArm.{memory_moves}
use Rattle.store_cursors.proofs.TablesArm.{tables_moves}
use Rattle.store_cursors.proofs.store_cursor.StoreCursorCursor.first.Goals as goal

pub returns-in-Memory : goal.returns-in-Memory
returns-in-Memory g c = memory_moves over_memory (over_tables _) _ _ _ _ c.args.self.now
    c.in-Memory.cursor c.first.new.self c.args.files.now c.first.result (λ never. absurd never)
    (served _ _) c.in-Memory.is c.first.ensures

pub returns-in-Tables : goal.returns-in-Tables
returns-in-Tables g c = tables_moves over_memory (over_tables _) _ _ _ c.args.self.now
    c.in-Tables.cursor c.first-in-Tables.new.self c.args.files.now c.first-in-Tables.new.source
    c.first-in-Tables.result c.in-Tables.is c.first-in-Tables.ensures
