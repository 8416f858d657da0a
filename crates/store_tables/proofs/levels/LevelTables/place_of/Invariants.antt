use Rattle.std.proofs.Common.{◌≡◌, ◌+◌, drop, not}
use Rattle.std.specs.List.{prefix_len}
use Rattle.version_edits.specs.Versions.{table_is_before}
use Rattle.store_tables.proofs.levels.LevelTables.place_of.Given as goal

-- the line stands before no table that the loop has passed
abbrev pub invariant-loop-place : goal.invariant-loop-place
invariant-loop-place l =
    prefix_len (λ one. not (table_is_before l.line one.line)) l.self.tables.items
    ≡ l.place
    + prefix_len (λ one. not (table_is_before l.line one.line)) (drop l.place l.self.tables.items)
