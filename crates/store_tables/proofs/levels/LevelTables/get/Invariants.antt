use Rattle.std.proofs.Common.{ℕ, List, drop, take}
use Rattle.disk.specs.{State}
use Rattle.store_model.specs.{AreLeveled, LevelTable}
use Rattle.store_tables.specs.LevelTables.{LevelsRise, WereServed}
use Rattle.store_tables.proofs.LevelLemmas.{Walked}
use Rattle.store_tables.proofs.OpenTables.{HasOnlyRead, files_ghosts}
use Rattle.store_tables.proofs.levels.LevelTables.get.Given as goal

-- the walk so far, over the tables that the loop has passed
abbrev pub invariant-loop-open : goal.invariant-loop-open
invariant-loop-open g l = record {
  read : HasOnlyRead (files_ghosts g.D.Disk) l.fn.files l.files;
  walked : (meant : State) (tables : List LevelTable) (flushed : ℕ)
      → g.D.Disk.is_honest l.fn.files.disk
      → WereServed (g.D.Disk.state l.fn.files.disk) meant l.self tables
      → AreLeveled flushed tables → LevelsRise tables
      → Walked l.at l.key (take l.open-index tables) (drop l.open-index tables) l.level l.best;
}
