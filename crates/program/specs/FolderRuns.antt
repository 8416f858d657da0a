-- Runs in folders: how they end, and how the program does.
use Rattle.std.specs.Prelude.{◌≡◌, ◌≢◌, ◌⊎◌, ℕ, Bool, true, false, List, Option, codes}
use Rattle.std.specs.Prelude.{Some, None, IfSome, All, Contains, if◌then◌else◌}
use Rattle.std.specs.List.{list_any}
use Rattle.std.specs.Io.KnownBytes.{Appends}
use Rattle.disk.specs.declared.disk.Disk.{Ghosts}
use Rattle.dir_disk.specs.declared.folder.DirDisk.{DirDisk}
use Rattle.dir_disk.specs.declared.unchanged.Unchanged.{Unchanged}
use Rattle.carriers.specs.declared.Carrier.{Ghosts as Carriers}
use Rattle.lab.specs.{HasItsNodes, HasRunNothing, WorldHasLimits, configs_of, nodes_of}
use Rattle.lab.specs.Worlds.{WorldHasEnded}
use Rattle.lab.specs.NodeLists.{at_epoch}
use Rattle.lab.specs.declared.Line.{Line}
use Rattle.lab.specs.declared.Line.TheVariants as line
use Rattle.lab.specs.declared.SimNode.{SimNode}
use Rattle.lab.specs.declared.world.World.{World}
use Rattle.client.specs.declared.run_error.RunError.{RunError}
use Rattle.client.specs.declared.run_error.RunError.TheVariants as run
use Rattle.client.specs.declared.statement_result.StatementResult.{StatementResult}
use Rattle.client.specs.PrintedRuns.{HasEndedEarly, HasRunStatements}
use Rattle.store_texts.specs.Writing.{AppendsPart}
use Rattle.client.specs.ReportedRuns.{ReportIsCut, ReportIsPrinted}
use Rattle.client.specs.ScriptRuns.{Stretch}
use Rattle.client.specs.Text.{run_text}
use Rattle.folder_nodes.specs.Finding.{sim_ids}
use Rattle.folder_nodes.specs.FoundNodes.{IsFoundIn}
use Rattle.tcp_carrier.specs.declared.carrier.TcpCarrier.{TcpCarrier}
use Rattle.script_words.specs.Lines.{script_lines}
use Rattle.scripts.specs.Faults.{script_fault, start}
use Rattle.scripts.specs.Scripts.{IsScript, Names}
use Rattle.scripts.specs.declared.setup.Setup.{Setup}
use Rattle.scripts.specs.declared.statement.Statement.{Statement}
use Rattle.program.specs.declared.failure.Failure.{Failure}
use Rattle.program.specs.declared.failure.Failure.TheVariants.{Memory, Output, Script, Unreadable}
use Rattle.program.specs.declared.folder_failure.LoopFailure.{LoopFailure}
use Rattle.program.specs.declared.folder_failure.LoopFailure.TheVariants.{Folder, Network, Run}
use Rattle.program.specs.Failures.{IsOfReading}
use Rattle.program.specs.FolderDumps.{DumpEndsFor, DumpOrUsage}
use Rattle.program.specs.FolderUpgrades.{UpgradeEndsFor, UpgradeOrUsage}
use Rattle.program.specs.FolderFailures.{IsLoopFailureOf, loop_failure_line}
use Rattle.program.specs.Invocations.{dump_folder, is_named, upgrade_folder}
use Rattle.program.specs.Runs.{LabOrUsage, UsageIsReported}

-- ---- nodes that stop by themselves

-- the line says that a node stopped by itself
abbrev pub is_stop : Line → Bool
is_stop (line.Stopped node (Some cause)) = true
is_stop (line.Stopped node None) = false
is_stop line.Nothing = false
is_stop line.Lost = false
is_stop (line.Dropped reason) = false
is_stop (line.Started node epoch count committed) = false
is_stop (line.Adopted node epoch) = false
is_stop (line.Forwarded place from to epoch number) = false
is_stop (line.Acknowledged place from to epoch committed have) = false
is_stop (line.Replied reply) = false
is_stop (line.Tended did) = false

-- a node stopped by itself in one of the steps
abbrev pub has_stop : List (List Line) → Bool
has_stop steps = list_any (list_any is_stop) steps

-- the status of a run: 1 where a node stopped by itself
abbrev pub stopped_status : Bool → ℕ
stopped_status stopped = if stopped then 1 else 0

-- ---- a run in a world over any disks

-- The statements were run in a world, exactly their text was written, and this is whether a node
-- stopped by itself.
pub record IsRunThatStops {D C : Type 0} (g : Ghosts D) (h : Carriers C) (setup : Setup)
    (statements : List Statement) (old new : Option (List ℕ)) (stopped : Bool) : Type 0 where
  pub world : World D C g
  pub turns : List StatementResult
  pub all : Stretch
  pub run : HasRunStatements h world setup statements turns all
  pub wrote : Appends old new (run_text turns all.steps)
  pub stops : stopped ≡ has_stop all.steps

-- a run of the statements in some world ended early for this
pub record IsCutShortIn {D C : Type 0} (g : Ghosts D) (h : Carriers C) (error : RunError)
    (setup : Setup) (statements : List Statement) (old new : Option (List ℕ)) : Type 0 where
  pub world : World D C g
  pub ended : HasEndedEarly h error world setup statements old new

-- how a run in a world fails: where the output takes no more, within the text of a statement; where
-- memory is wanted, behind the text of some first statements
abbrev pub EndsEarly : {D C : Type 0} → Ghosts D → Carriers C → Setup → List Statement →
    Option (List ℕ) → Option (List ℕ) → Failure → Type 0
EndsEarly g h setup statements old new Output = IsCutShortIn g h run.Write setup statements old new
EndsEarly g h setup statements old new Memory = IsCutShortIn g h run.Memory setup statements old new
EndsEarly g h setup statements old new Unreadable = ⊥
EndsEarly g h setup statements old new (Script fault) = ⊥

-- ---- a run in any world

-- The statements were run in this world. Just the text of the lines that it then has of them was
-- written, and this is whether a node stopped by itself in these.
pub record IsPrintedReport {D C : Type 0} {g : Ghosts D} (h : Carriers C) (world : World D C g)
    (statements : List Statement) (old new : Option (List ℕ)) (stopped : Bool) : Type 0 where
  pub now : World D C g
  pub report : ReportIsPrinted h world now statements old new
  pub stops : stopped ≡ has_stop report.steps

-- a run of the statements in this world ended early for this
pub record IsCutReport {D C : Type 0} {g : Ghosts D} (h : Carriers C) (error : RunError)
    (world : World D C g) (statements : List Statement) (old new : Option (List ℕ)) : Type 0 where
  pub now : World D C g
  pub cut : ReportIsCut h error world now statements old new

-- how a run in this world fails: where the output takes no more, within the text of a statement;
-- where memory is wanted, behind the text of some first statements
abbrev pub ReportFails : {D C : Type 0} {g : Ghosts D} → Carriers C → World D C g →
    List Statement → Option (List ℕ) → Option (List ℕ) → Failure → Type 0
ReportFails h world statements old new Output = IsCutReport h run.Write world statements old new
ReportFails h world statements old new Memory = IsCutReport h run.Memory world statements old new
ReportFails h world statements old new Unreadable = ⊥
ReportFails h world statements old new (Script fault) = ⊥

-- what was read, where that is known, spells a script without a fault, where no fault of a disk may
-- be spelled: what it sets up, and statements that name only nodes of the first configuration; and
-- of these this is so
pub record SpellsStatements (text : Option (List ℕ)) (is_so : Setup → List Statement → Type 0)
    : Type 0 where
  pub setup : Setup
  pub statements : List Statement
  pub spelled : IfSome text (λ t. IsScript 1 (script_lines t) setup statements)
  pub lawful : IfSome text (λ t. script_fault (start false) 1 (script_lines t) ≡ None)
  pub named : All (λ it. Names setup.configs it.action) statements
  pub so : is_so setup statements

-- ---- a run in folders

-- of each node of the first configuration, in its order, one was found: in the folder behind this
-- path that has its id for its name, with the limits that were set up
pub record HasFoundNodes {R : Type 0} (g : Ghosts (DirDisk R)) (folder : List ℕ) (setup : Setup)
    : Type 0 where
  pub nodes : List (SimNode (DirDisk R) g)
  pub ids : sim_ids nodes ≡ at_epoch setup.configs 0
  pub each : All (IsFoundIn folder setup.limits) nodes

-- what a connection is as a carrier: it is faithful, and may lose anything
abbrev pub loopback : {R : Type 0} → Carriers (TcpCarrier R)
loopback = record {
  is_faithful = λ carrier. Unit {0};
  loses = Unit {0};
  has_carried = λ carrier asked. Unit {0};
}

-- The world has the configurations and the limits that were set up, and has run nothing yet: no
-- event, line or frame. It is not at its end. Its nodes are those that were found, one of each of
-- the first configuration.
pub record IsWorldOfFound {R : Type 0} {g : Ghosts (DirDisk R)} (folder : List ℕ) (setup : Setup)
    (world : World (DirDisk R) (TcpCarrier R) g) : Type 0 where
  pub found : HasFoundNodes g folder setup
  pub nodes : nodes_of world ≡ found.nodes
  pub configs : configs_of world ≡ setup.configs
  pub none : HasRunNothing world
  pub limits : WorldHasLimits world setup.limits
  pub goes_on : WorldHasEnded world → ⊥
  pub has : HasItsNodes world

-- The statements were run in a world of the nodes that were found. Exactly the text of the lines
-- that it then has was written, one list for each event, and such as the event has. It is told
-- whether a node stopped by itself in these.
pub record IsRunInFolders {R : Type 0} (g : Ghosts (DirDisk R)) (folder : List ℕ) (setup : Setup)
    (statements : List Statement) (old new : Option (List ℕ)) (stopped : Bool) : Type 0 where
  pub world : World (DirDisk R) (TcpCarrier R) g
  pub is : IsWorldOfFound folder setup world
  pub printed : IsPrintedReport loopback world statements old new stopped

-- a run of the statements in such a world ended early for this
pub record IsCutInFolders {R : Type 0} (g : Ghosts (DirDisk R)) (folder : List ℕ)
    (error : RunError) (setup : Setup) (statements : List Statement) (old new : Option (List ℕ))
    : Type 0 where
  pub world : World (DirDisk R) (TcpCarrier R) g
  pub is : IsWorldOfFound folder setup world
  pub cut : IsCutReport loopback error world statements old new

-- How a run of a script in folders fails. Where the output took no more, it had begun, and ended at
-- a statement; where memory is wanted, so too, or nothing is written. A folder's fault is that of a
-- node of the script, and a listener is wanted only where the nodes were found; then nothing is
-- written.
abbrev pub FailsInFolders : {R : Type 0} → Ghosts (DirDisk R) → List ℕ → Setup → List Statement →
    Option (List ℕ) → Option (List ℕ) → LoopFailure → Type 0
FailsInFolders g folder setup statements old new (Run Unreadable) = ⊥
FailsInFolders g folder setup statements old new (Run (Script fault)) = ⊥
FailsInFolders g folder setup statements old new (Run Output) =
    IsCutInFolders g folder run.Write setup statements old new
FailsInFolders g folder setup statements old new (Run Memory) =
    (new ≡ old) ⊎ IsCutInFolders g folder run.Memory setup statements old new
FailsInFolders g folder setup statements old new (Folder fault) =
    (new ≡ old) × Contains (at_epoch setup.configs 0) fault.id
FailsInFolders g folder setup statements old new Network =
    (new ≡ old) × HasFoundNodes g folder setup

-- a failure that the reading of a script can have
abbrev pub IsOfScript : LoopFailure → Type 0
IsOfScript (Run failure) = IsOfReading failure
IsOfScript (Folder fault) = ⊥
IsOfScript Network = ⊥

-- Why a run in folders fails: a fault of the script is the one that it has. Where reading may have
-- failed so, nothing is written; or else a script was read, and its run fails so.
pub record LoopHasFailed {R : Type 0} (g : Ghosts (DirDisk R)) (folder : List ℕ)
    (text old new : Option (List ℕ)) (failure : LoopFailure) : Type 0 where
  pub cause : IfSome text (λ t. IsLoopFailureOf t failure)
  pub did : (IsOfScript failure × (new ≡ old))
      ⊎ SpellsStatements text
      (λ setup statements. FailsInFolders g folder setup statements old new failure)

-- what was read, where that is known, is a script without a fault; it was run at nodes of folders
-- behind this path, and the status says whether one of them stopped by itself
pub record LoopIsRun {R : Type 0} (g : Ghosts (DirDisk R)) (folder : List ℕ)
    (text old_out new_out old_err new_err : Option (List ℕ)) (answer : ℕ) : Type 0 where
  pub stopped : Bool
  pub printed : SpellsStatements text
      (λ setup statements. IsRunInFolders g folder setup statements old_out new_out stopped)
  pub status : answer ≡ stopped_status stopped
  pub quiet : new_err ≡ old_err

-- the run failed, and the line that says why was told, or a beginning of it
pub record LoopIsReported {R : Type 0} (g : Ghosts (DirDisk R)) (folder : List ℕ)
    (text old_out new_out old_err new_err : Option (List ℕ)) (answer : ℕ) : Type 0 where
  pub status : answer ≡ 1
  pub failure : LoopFailure
  pub failed : LoopHasFailed g folder text old_out new_out failure
  pub told : AppendsPart old_err new_err (loop_failure_line failure)

-- how a run in the folders behind this path ends
abbrev pub LoopEnds : {R : Type 0} → Ghosts (DirDisk R) → List ℕ →
    (text old_out new_out old_err new_err : Option (List ℕ)) → ℕ → Type 0
LoopEnds g folder text old_out new_out old_err new_err answer =
    LoopIsRun g folder text old_out new_out old_err new_err answer
    ⊎ LoopIsReported g folder text old_out new_out old_err new_err answer

-- how the words `loop ..` end: as a run behind some path, or with the usage
abbrev pub LoopOrUsage : {R : Type 0} → Ghosts (DirDisk R) →
    (old_out new_out old_err new_err : Option (List ℕ)) → ℕ → Type 0
LoopOrUsage g old_out new_out old_err new_err answer =
    ((folder : List ℕ) × LoopEnds g folder None old_out new_out old_err new_err answer)
    ⊎ UsageIsReported old_out new_out old_err new_err answer

-- ---- the program

-- how the words `loop SCRIPT --dir D` end: of the script `-` standard input is read, and else it is
-- left as it was
pub record LoopEndsFor {R I : Type 0} (g : Ghosts (DirDisk R)) (script folder : List ℕ)
    (old_input new_input : I) (text old_out new_out old_err new_err : Option (List ℕ)) (answer : ℕ)
    : Type 0 where
  pub input : script ≡ codes "-" → LoopEnds g folder text old_out new_out old_err new_err answer
  pub path : script ≢ codes "-" → (new_input ≡ old_input)
      × LoopEnds g folder None old_out new_out old_err new_err answer

-- how the words `dump DIR` and `upgrade DIR` end: standard input is left as it was
pub record FolderWordsEnd {R I : Type 0} (g : Ghosts (DirDisk R))
    (h : Ghosts (Unchanged (DirDisk R))) (words : List (List ℕ)) (old_input new_input : I)
    (old_out new_out old_err new_err : Option (List ℕ)) (answer : ℕ) : Type 0 where
  pub dumped : (folder : List ℕ) → dump_folder words ≡ Some folder → (new_input ≡ old_input)
      × DumpEndsFor h folder old_out new_out old_err new_err answer
  pub upgraded : (folder : List ℕ) → upgrade_folder words ≡ Some folder → (new_input ≡ old_input)
      × UpgradeEndsFor g folder old_out new_out old_err new_err answer

-- how the program ends, whatever it read: as the command does that its words name, or else as words
-- that ask for nothing
pub record ProgramEnds {R : Type 0} (g : Ghosts (DirDisk R)) (h : Ghosts (Unchanged (DirDisk R)))
    (words : List (List ℕ)) (old_out new_out old_err new_err : Option (List ℕ)) (answer : ℕ)
    : Type 0 where
  pub loop : is_named (codes "loop") words ≡ true →
      LoopOrUsage g old_out new_out old_err new_err answer
  pub dump : is_named (codes "dump") words ≡ true →
      DumpOrUsage h old_out new_out old_err new_err answer
  pub upgrade : is_named (codes "upgrade") words ≡ true →
      UpgradeOrUsage g old_out new_out old_err new_err answer
  pub other : is_named (codes "loop") words ≡ false → is_named (codes "dump") words ≡ false →
      is_named (codes "upgrade") words ≡ false →
      LabOrUsage old_out new_out old_err new_err answer

-- standard input is left as it was by words that name `dump` or `upgrade`, and by all that end with
-- the usage
pub record LeavesInput {I : Type 0} (words : List (List ℕ)) (old_input new_input : I) (answer : ℕ)
    : Type 0 where
  pub dump : is_named (codes "dump") words ≡ true → new_input ≡ old_input
  pub upgrade : is_named (codes "upgrade") words ≡ true → new_input ≡ old_input
  pub usage : answer ≡ 2 → new_input ≡ old_input
