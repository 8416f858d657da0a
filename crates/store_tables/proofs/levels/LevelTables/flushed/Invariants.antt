use Rattle.std.proofs.Common.{◌≡◌, ◌+◌, drop}
use Rattle.std.specs.List.{prefix_len}
use Rattle.store_tables.specs.LevelTables.{is_flushed}
use Rattle.store_tables.proofs.levels.LevelTables.flushed.Given as goal

-- every table that the loop has passed is of level 0
abbrev pub invariant-loop-place : goal.invariant-loop-place
invariant-loop-place l = prefix_len is_flushed l.self.tables.items
    ≡ l.place + prefix_len is_flushed (drop l.place l.self.tables.items)
