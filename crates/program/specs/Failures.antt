-- Why a run ends early, and the line that says so.
use Rattle.std.specs.Prelude.{ℕ, Bool, List, [], ◌∷◌, ◌++◌, codes}
use Rattle.std.specs.Fmt.{decimal}
use Rattle.program.specs.declared.failure.Failure.{Failure}
use Rattle.program.specs.declared.failure.Failure.TheVariants.{Unreadable, Script, Output}
use Rattle.program.specs.declared.failure.Failure.TheVariants.{Memory}
use Rattle.client.specs.declared.run_error.RunError.{RunError}
use Rattle.client.specs.declared.run_error.RunError.TheVariants as run
use Rattle.script_words.specs.Lines.{script_lines}
use Rattle.scripts.specs.Faults.{IsReported}
use Rattle.client.specs.Text.{fault_text}

-- why a run ended early
abbrev pub failure_text : Failure → List ℕ
failure_text Unreadable = codes "script: unreadable"
failure_text (Script f) = codes "line " ++ (decimal f.line ++ (codes ": " ++ fault_text f.error))
failure_text Output = codes "output: write"
failure_text Memory = codes "run: memory"

-- the failure that is reported of a run of a script that ended early
abbrev pub failure_of : RunError → Failure
failure_of run.Write = Output
failure_of run.Memory = Memory

-- the line that tells of a failure
abbrev pub failure_line : Failure → List ℕ
failure_line failure = failure_text failure ++ 10 ∷ []

-- a fault of the script is the least of its first faulty line, or want of memory at a line that was
-- begun; faults of disks may be spelled, or not
abbrev pub IsFailureOf : Bool → List ℕ → Failure → Type 0
IsFailureOf faults text (Script f) = IsReported faults (script_lines text) f.line f.error
IsFailureOf faults text Unreadable = Unit {0}
IsFailureOf faults text Output = Unit {0}
IsFailureOf faults text Memory = Unit {0}

-- a script is refused for these alone, before anything runs
abbrev pub IsOfReading : Failure → Type 0
IsOfReading Unreadable = Unit {0}
IsOfReading (Script f) = Unit {0}
IsOfReading Output = ⊥
IsOfReading Memory = Unit {0}

-- a script cannot be read for these alone
abbrev pub IsOfInput : Failure → Type 0
IsOfInput Unreadable = Unit {0}
IsOfInput (Script f) = ⊥
IsOfInput Output = ⊥
IsOfInput Memory = Unit {0}
