use Rattle.std.proofs.Common.{◌≡◌, ◌<◌, ℕ, ◌==◌, get_or, length, take}
use Rattle.std.specs.List.{count_by}
use Rattle.store_tables.proofs.levels.LevelTables.counts.Given as goal

-- the tables that the loop has passed were counted
abbrev pub invariant-loop-open : goal.invariant-loop-open
invariant-loop-open l = record {
  long : length l.counts ≡ 7;
  counted : (level : ℕ) → level < 7 → get_or l.counts level 0
      ≡ count_by (λ one. one.line.level == level) (take l.open-index l.open-items);
}
