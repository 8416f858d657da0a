use Rattle.std.proofs.Common.{List}
use Rattle.kv_types.specs.{BatchContent}
use Rattle.dumps.specs.Dumped.{AreWritten, ShowsList, StillShows}
use Rattle.dumps.proofs.RowWalkLemmas.{HasLooked}
use Rattle.dumps.proofs.row_walk.write_rows.Given as goal

-- the first rows were read and written, and no call of the disk failed
abbrev pub invariant-loop : goal.invariant-loop
invariant-loop g l = HasLooked g.D.Disk l.fn.engine l.engine
    × ((list : List BatchContent) → StillShows g.D.Disk l.fn.engine l.engine list)
    × AreWritten (ShowsList g.D.Disk l.fn.engine) l.at l.from l.known l.count
    (g.W.Write.contents l.fn.out) (g.W.Write.contents l.out)
