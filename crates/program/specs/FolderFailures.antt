-- Why a run in folders, or what is written of one, ends early, and the line that says so.
use Rattle.std.specs.Prelude.{ℕ, List, [], ◌∷◌, ◌++◌, codes, false}
use Rattle.std.specs.Fmt.{decimal}
use Rattle.client.specs.Text.{cause_text}
use Rattle.dumps.specs.declared.dump_error.DumpError.{DumpError}
use Rattle.dumps.specs.declared.dump_error.DumpError.TheVariants as dump
use Rattle.folder_nodes.specs.declared.fault.FolderError.{FolderError}
use Rattle.folder_nodes.specs.declared.fault.FolderError.TheVariants.{OtherNode, Stopped}
use Rattle.program.specs.declared.folder_failure.DumpFailure.{DumpFailure}
use Rattle.program.specs.declared.folder_failure.DumpFailure.TheVariants as dumped
use Rattle.program.specs.declared.folder_failure.UpgradeFailure.{UpgradeFailure}
use Rattle.program.specs.declared.folder_failure.UpgradeFailure.TheVariants as upgrade
use Rattle.engine.specs.EngineError.{EngineError}
use Rattle.engine.specs.EngineError.TheVariants as engine
use Rattle.lab.specs.Stop.TheVariants as stop
use Rattle.program.specs.declared.folder_failure.LoopFailure.{LoopFailure}
use Rattle.program.specs.declared.folder_failure.LoopFailure.TheVariants.{Folder, Network, Run}
use Rattle.program.specs.Failures.{IsFailureOf, failure_text}

-- why a folder has no node
abbrev pub folder_text : FolderError → List ℕ
folder_text (Stopped cause) = cause_text cause
folder_text OtherNode = codes "other node or configuration"

-- why a run in folders ended early
abbrev pub loop_failure_text : LoopFailure → List ℕ
loop_failure_text (Run failure) = failure_text failure
loop_failure_text (Folder fault) =
    codes "folder " ++ (decimal fault.id ++ (codes ": " ++ folder_text fault.error))
loop_failure_text Network = codes "run: network"

-- why a store was not written out whole
abbrev pub dump_failure_text : DumpFailure → List ℕ
dump_failure_text (dumped.Store cause) = codes "dump: " ++ cause_text cause
dump_failure_text dumped.Output = codes "output: write"
dump_failure_text dumped.Memory = codes "run: memory"

-- the failure that is reported of a store that was not written out whole for this
abbrev pub dump_failure_of : DumpError → DumpFailure
dump_failure_of (dump.Store cause) = dumped.Store cause
dump_failure_of dump.Write = dumped.Output

-- why a store was not upgraded
abbrev pub upgrade_failure_text : UpgradeFailure → List ℕ
upgrade_failure_text (upgrade.Store cause) = codes "upgrade: " ++ cause_text cause
upgrade_failure_text upgrade.Exhausted = codes "upgrade: exhausted"
upgrade_failure_text upgrade.Output = codes "output: write"
upgrade_failure_text upgrade.Memory = codes "run: memory"

-- the failure that is reported of a store that was not upgraded for this
abbrev pub upgrade_failure_of : EngineError → UpgradeFailure
upgrade_failure_of engine.Disk = upgrade.Store stop.Disk
upgrade_failure_of engine.Damaged = upgrade.Store stop.Damaged
upgrade_failure_of engine.Memory = upgrade.Store stop.Memory
upgrade_failure_of engine.NotCreated = upgrade.Store stop.NotCreated
upgrade_failure_of engine.Failed = upgrade.Store stop.Damaged
upgrade_failure_of engine.TooOld = upgrade.Store stop.Damaged
upgrade_failure_of engine.NotCommitted = upgrade.Store stop.Damaged
upgrade_failure_of engine.NoSuchSnapshot = upgrade.Store stop.Damaged
upgrade_failure_of engine.TooManySnapshots = upgrade.Store stop.Damaged
upgrade_failure_of engine.Exhausted = upgrade.Exhausted
upgrade_failure_of engine.OldFormat = upgrade.Store stop.OldFormat

-- the line that tells of a failure of a run in folders
abbrev pub loop_failure_line : LoopFailure → List ℕ
loop_failure_line failure = loop_failure_text failure ++ 10 ∷ []

-- the line that tells why a store was not written out whole
abbrev pub dump_failure_line : DumpFailure → List ℕ
dump_failure_line failure = dump_failure_text failure ++ 10 ∷ []

-- the line that tells why a store was not upgraded
abbrev pub upgrade_failure_line : UpgradeFailure → List ℕ
upgrade_failure_line failure = upgrade_failure_text failure ++ 10 ∷ []

-- a fault of the script is the least of its first faulty line, where no fault of a disk may be
-- spelled, or want of memory at a line that was begun
abbrev pub IsLoopFailureOf : List ℕ → LoopFailure → Type 0
IsLoopFailureOf text (Run failure) = IsFailureOf false text failure
IsLoopFailureOf text (Folder fault) = Unit {0}
IsLoopFailureOf text Network = Unit {0}
