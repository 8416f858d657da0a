-- A whole run: from the bytes of a script to the bytes that are printed, and how it can end.
use Rattle.std.specs.Prelude.{◌≡◌, ◌≢◌, ◌⊎◌, ℕ, List, Option, None, IfSome, true}
use Rattle.std.specs.Io.KnownBytes.{Appends}
use Rattle.lab.specs.{MemWorld, direct_carrier}
use Rattle.program.specs.declared.failure.Failure.{Failure}
use Rattle.program.specs.declared.failure.Failure.TheVariants.{Memory, Output}
use Rattle.client.specs.declared.run_error.RunError.{RunError}
use Rattle.client.specs.declared.run_error.RunError.TheVariants as run
use Rattle.scripts.specs.declared.setup.Setup.{Setup}
use Rattle.scripts.specs.declared.statement.Statement.{Statement}
use Rattle.script_words.specs.Lines.{script_lines}
use Rattle.scripts.specs.Scripts.{IsScript}
use Rattle.scripts.specs.Faults.{script_fault, start}
use Rattle.program.specs.Failures.{IsFailureOf, failure_line}
use Rattle.program.specs.Invocations.{usage_line}
use Rattle.client.specs.PrintedRuns.{HasEndedEarly, IsPrintedRun}
use Rattle.store_texts.specs.Writing.{AppendsPart}

-- a world over disks in memory has run the statements, and exactly their text was written
pub record IsRunOf (setup : Setup) (statements : List Statement) (old new : Option (List ℕ))
    : Type 0 where
  pub world : MemWorld
  pub printed : IsPrintedRun direct_carrier world setup statements old new

-- a run of the statements in such a world ended early for this
pub record IsCutShort (error : RunError) (setup : Setup) (statements : List Statement)
    (old new : Option (List ℕ)) : Type 0 where
  pub world : MemWorld
  pub ended : HasEndedEarly direct_carrier error world setup statements old new

-- how a run of a script fails: where the output takes no more, within the text of a statement;
-- where memory is wanted, behind the text of some first statements, or before there is a world
abbrev pub RunFailsSo : Setup → List Statement → Option (List ℕ) → Option (List ℕ) → Failure
    → Type 0
RunFailsSo setup statements old new failure =
    ((failure ≡ Output) × IsCutShort run.Write setup statements old new)
    ⊎ ((failure ≡ Memory)
    × ((new ≡ old) ⊎ IsCutShort run.Memory setup statements old new))

-- what was read, where that is known, is a script without a fault, and this is so of it
pub record IsScriptThat (text : Option (List ℕ)) (is_so : Setup → List Statement → Type 0)
    : Type 0 where
  pub setup : Setup
  pub statements : List Statement
  pub spelled : IfSome text (λ t. IsScript 1 (script_lines t) setup statements)
  pub fault : IfSome text (λ t. script_fault (start true) 1 (script_lines t) ≡ None)
  pub run : is_so setup statements

-- what was read, where that is known, is a script without a fault, and the text of its run was
-- written
abbrev pub IsRunOfText : Option (List ℕ) → Option (List ℕ) → Option (List ℕ) → Type 0
IsRunOfText text old new = IsScriptThat text (λ setup statements. IsRunOf setup statements old new)

-- .. but its run ended early for this
abbrev pub IsCutShortText : RunError → Option (List ℕ) → Option (List ℕ) → Option (List ℕ) → Type 0
IsCutShortText error text old new =
    IsScriptThat text (λ setup statements. IsCutShort error setup statements old new)

-- Why a run fails. Where the output took no more, the text of some first statements is written, and
-- a beginning of that of the next one, which was run. Where memory was wanted, nothing is written,
-- or the text of some first statements. For any other failure nothing is written.
pub record RunHasFailed (text old new : Option (List ℕ)) (failure : Failure) : Type 0 where
  pub cause : IfSome text (λ t. IsFailureOf true t failure)
  pub untouched : failure ≢ Output → failure ≢ Memory → new ≡ old
  pub output : failure ≡ Output → IsCutShortText run.Write text old new
  pub memory : failure ≡ Memory → (new ≡ old) ⊎ IsCutShortText run.Memory text old new

-- the run was printed, and no fault was told
pub record RunIsPrinted (text old_out new_out old_err new_err : Option (List ℕ))
    (answer : ℕ) : Type 0
  where
    pub status : answer ≡ 0
    pub run : IsRunOfText text old_out new_out
    pub quiet : new_err ≡ old_err

-- there is no run, and this was done with the line that says why
pub record FailureIsReported (text old_out new_out : Option (List ℕ)) (answer : ℕ)
    (done : List ℕ → Type 0) : Type 0
  where
    pub status : answer ≡ 1
    pub failure : Failure
    pub failed : RunHasFailed text old_out new_out failure
    pub told : done (failure_line failure)

-- how a run ends: with status 0 it was printed, with status 1 it is told why not
abbrev pub RunEnds : Option (List ℕ) → Option (List ℕ) → Option (List ℕ) → Option (List ℕ)
    → Option (List ℕ) → ℕ → Type 0
RunEnds text old_out new_out old_err new_err answer =
    RunIsPrinted text old_out new_out old_err new_err answer
    ⊎ FailureIsReported text old_out new_out answer (Appends old_err new_err)

-- how a run ends, where standard error may take only a beginning of the line
abbrev pub RunEndsAs : Option (List ℕ) → Option (List ℕ) → Option (List ℕ) → Option (List ℕ)
    → Option (List ℕ) → ℕ → Type 0
RunEndsAs text old_out new_out old_err new_err answer =
    RunIsPrinted text old_out new_out old_err new_err answer
    ⊎ FailureIsReported text old_out new_out answer (AppendsPart old_err new_err)

-- nothing was run, and the usage line was told, or a beginning of it
pub record UsageIsReported (old_out new_out old_err new_err : Option (List ℕ)) (answer : ℕ) : Type 0
  where
    pub status : answer ≡ 2
    pub untouched : new_out ≡ old_out
    pub told : AppendsPart old_err new_err usage_line

-- how the words `lab ..` end, and those that name no command, whatever was read
abbrev pub LabOrUsage : Option (List ℕ) → Option (List ℕ) → Option (List ℕ) → Option (List ℕ)
    → ℕ → Type 0
LabOrUsage old_out new_out old_err new_err answer =
    RunEndsAs None old_out new_out old_err new_err answer
    ⊎ UsageIsReported old_out new_out old_err new_err answer
