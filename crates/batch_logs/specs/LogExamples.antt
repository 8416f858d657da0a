-- Two logs, and the batches that they have.
use Rattle.std.specs.Prelude.{ℕ, ◌≤◌, List, [], ◌∷◌, length}
use Rattle.kv_types.specs.{BatchContent}
use Rattle.disk.specs.{Contents}
use Rattle.version_edits.specs.declared.line.LogLine.{LogLine}
use Rattle.batch_logs.specs.BatchLogs.{HaveBatches}
use Rattle.batch_logs.specs.Layout.{IsLog}
use Rattle.batch_logs.specs.Layout.{records_from}

-- file 3 from batch 1 on, and file 5 from this number on
abbrev pub two_lines : ℕ → List LogLine
two_lines second = record { file = 3; first = 1 } ∷ record { file = 5; first = second } ∷ []

-- two batches in the one and a third in the other are three batches
abbrev pub TwoLogsHaveThree : Type 0
TwoLogsHaveThree = (left : Contents) (a b c : BatchContent) →
    IsLog (left 3) (records_from 1 (a ∷ b ∷ [])) → IsLog (left 5) (records_from 3 (c ∷ [])) →
    HaveBatches left 1 (two_lines 3) (a ∷ b ∷ c ∷ [])

-- where the second log begins with 4, three batches stand before it
abbrev pub LaterLogIsBehind : Type 0
LaterLogIsBehind = (left : Contents) (batches : List BatchContent) →
    HaveBatches left 1 (two_lines 4) batches → 3 ≤ length batches
