use Rattle.std.proofs.Common.{◌≡◌, ◌≤◌, ◌+◌, length, vec_len}
use Rattle.std.specs.List.{fold}
use Rattle.std.specs.Vec.{vec_capacity}
use Rattle.version_edits.specs.Versions.{placed}
use Rattle.store_tables.proofs.Replaced.{open_is_before, open_left}
use Rattle.store_tables.proofs.levels.LevelTables.replace.Given as goal

-- the tables that the loop has passed stand at their places, and there is room for the others
abbrev pub invariant-loop-open : goal.invariant-loop-open
invariant-loop-open l = record {
  items : l.self.tables.items ≡ fold (placed open_is_before)
      (open_left l.gone l.fn.self.tables.items) l.yielded;
  room : vec_len l.self.tables + vec_len l.fn.opened
      ≤ vec_capacity l.self.tables + length l.yielded;
}
