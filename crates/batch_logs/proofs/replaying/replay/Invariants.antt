use Rattle.std.proofs.Common.{ℕ, ◌+◌, List}
use Rattle.record_log.specs.{HasRead}
use Rattle.batch_logs.specs.Memtables.{IsNumberedTo}
use Rattle.batch_logs.proofs.Replays.{TakenTo}
use Rattle.batch_logs.proofs.replaying.replay.Given as goal

-- the memtable took the batches of the records that the loop has passed
abbrev pub invariant-loop-index : goal.invariant-loop-index
invariant-loop-index l = record {
  numbered : IsNumberedTo l.memtable (l.before + l.index);
  taken : (records : List (List ℕ)) → HasRead l.opened records →
      TakenTo records l.index l.before l.flushed l.fn.memtable l.memtable;
}
