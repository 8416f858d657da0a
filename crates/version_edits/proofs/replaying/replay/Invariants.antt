use Rattle.std.proofs.Common.{ℕ, List, take}
use Rattle.record_log.specs.{HasRead}
use Rattle.version_edits.specs.Replays.{IsReplayed}
use Rattle.version_edits.proofs.replaying.replay.Given as goal

-- the records that the loop has passed give the version so far
abbrev pub invariant-loop-index : goal.invariant-loop-index
invariant-loop-index l =
    (records : List (List ℕ)) → HasRead l.opened records
    → IsReplayed l.format l.id l.draft (take l.index records)
