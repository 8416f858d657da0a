-- A run of a script in a world, and what is printed of it, statement by statement.
use Rattle.std.specs.Prelude.{◌≡◌, ◌<◌, ℕ, suc, List, [], ◌∷◌, ◌++◌, Option, All, length, take}
use Rattle.std.specs.Io.KnownBytes.{Appends}
use Rattle.disk.specs.declared.disk.Disk.{Ghosts}
use Rattle.carriers.specs.declared.Carrier.{Ghosts as Carriers}
use Rattle.lab.specs.declared.world.World.{World}
use Rattle.lab.specs.Worlds.{HasHistory, IsRunSoFar}
use Rattle.client.specs.declared.run_error.RunError.{RunError}
use Rattle.client.specs.declared.run_error.RunError.TheVariants.{Memory, Write}
use Rattle.scripts.specs.declared.setup.Setup.{Setup}
use Rattle.scripts.specs.declared.statement.Statement.{Statement}
use Rattle.client.specs.declared.statement_result.StatementResult.{StatementResult}
use Rattle.client.specs.ScriptRuns.{AreResults, HasRunTo, Stretch, followed_by, no_stretch, run_of}
use Rattle.scripts.specs.Scripts.{Names}
use Rattle.client.specs.Text.{event_lines, result_text, run_text}
use Rattle.store_texts.specs.Writing.{AppendsPart}

module _ {D C : Type 0} {g : Ghosts D} where
  -- the world has run no event at the nodes that were set up, and the statements name only these
  pub record IsReadyToRun (h : Carriers C) (world : World D C g) (setup : Setup)
      (statements : List Statement) : Type 0 where
    pub none : HasRunTo h world setup no_stretch
    pub named : All (λ it. Names setup.configs it.action) statements

  -- the world has run these statements, one after another, and no other event: their results, and
  -- all that came of them is of one history
  pub record HasRunStatements (h : Carriers C) (world : World D C g) (setup : Setup)
      (statements : List Statement) (turns : List StatementResult) (all : Stretch) : Type 0 where
    pub results : AreResults g h setup no_stretch [] statements turns all
    pub run : HasRunTo h world setup all
    pub so_far : IsRunSoFar h world (run_of setup all)
    pub history : HasHistory world (run_of setup all)

  -- the world has run these statements, and exactly their text was written
  pub record IsPrintedRun (h : Carriers C) (world : World D C g) (setup : Setup)
      (statements : List Statement) (old new : Option (List ℕ)) : Type 0 where
    pub turns : List StatementResult
    pub all : Stretch
    pub run : HasRunStatements h world setup statements turns all
    pub wrote : Appends old new (run_text turns all.steps)

  -- behind the first of these statements the world has run one more, and this is a beginning of the
  -- text of that one
  pub record HasRunOneMore (h : Carriers C) (world : World D C g) (setup : Setup)
      (statements : List Statement) (done : ℕ) (turns : List StatementResult) (all : Stretch)
      (part : List ℕ) : Type 0 where
    pub turn : StatementResult
    pub own : Stretch
    pub run : HasRunStatements h world setup (take (suc done) statements) (turns ++ turn ∷ [])
        (followed_by all own)
    pub count : ℕ
    pub beginning : part ≡
        take count (result_text (event_lines (turns ++ turn ∷ [])) turn own.steps)

  -- what is written of the statement at which a run ended: a beginning of its text, where the
  -- output took no more; nothing, where memory was short
  abbrev pub IsPartOfNext : Carriers C → RunError → World D C g → Setup → List Statement → ℕ
      → List StatementResult → Stretch → List ℕ → Type 0
  IsPartOfNext h Write world setup statements done turns all part =
      HasRunOneMore h world setup statements done turns all part
  IsPartOfNext h Memory world setup statements done turns all part = part ≡ []

  -- A run ended early, at the statement behind so many first ones. These were run, as a world was
  -- behind them, and their text is written, and what is written of the next one.
  pub record HasEndedEarly (h : Carriers C) (error : RunError) (world : World D C g) (setup : Setup)
      (statements : List Statement) (old new : Option (List ℕ)) : Type 0 where
    pub done : ℕ
    pub within : done < length statements
    pub turns : List StatementResult
    pub all : Stretch
    pub behind : World D C g
    pub run : HasRunStatements h behind setup (take done statements) turns all
    pub part : List ℕ
    pub next : IsPartOfNext h error world setup statements done turns all part
    pub wrote : Appends old new (run_text turns all.steps ++ part)
