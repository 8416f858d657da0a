-- How a run in folders ends.
use Rattle.std.proofs.Common.{◌≡◌, ◌⊎◌, inl, inr, ℕ, Bool, Option, None, Some, refl, sym, subst}
use Rattle.std.proofs.Common.{true, false, List, [], ◌++◌, ap, ◌∙◌, arith}
use Rattle.std.specs.Prelude.{Result, Ok, Err, IfErr, IfOk, IfSome, MatchResult, All}
use Rattle.std.proofs.lemmas.List.Elements.{All-weaker}
use Rattle.disk.specs.declared.disk.Disk.{Ghosts}
use Rattle.dir_disk.specs.declared.folder.DirDisk.{DirDisk}
use Rattle.carriers.specs.declared.Carrier.{Ghosts as Carriers}
use Rattle.lab.specs.declared.Line.{Line}
use Rattle.lab.specs.declared.SimNode.{SimNode}
use Rattle.lab.specs.declared.world.World.{World}
use Rattle.lab.specs.declared.node_state.NodeState.{NodeState}
use Rattle.lab.specs.SimNodes.{StateHasLimits}
use Rattle.lab.specs.Worlds.{HaveLimits, WorldHasEnded}
use Rattle.lab.specs.{HasRunNothing, WorldHasLimits, configs_of, lines_so_far, nodes_of}
use Rattle.lab.specs.NodeLists.{Configurations, at_epoch}
use Rattle.client.specs.declared.run_error.RunError.{RunError}
use Rattle.client.specs.declared.run_error.RunError.TheVariants as run
use Rattle.client.specs.PrintedRuns.{HasEndedEarly}
use Rattle.store_texts.specs.Writing.{AppendsPart}
use Rattle.client.specs.ReportedRuns.{ReportIsCut, ReportIsPrinted}
use Rattle.folder_nodes.specs.Finding.{sim_ids}
use Rattle.folder_nodes.specs.FoundNodes.{IsFoundIn}
use Rattle.tcp_carrier.specs.declared.carrier.TcpCarrier.{TcpCarrier}
use Rattle.script_words.specs.Lines.{script_lines}
use Rattle.scripts.specs.Faults.{script_fault, start}
use Rattle.scripts.specs.Scripts.{IsScript, Names}
use Rattle.scripts.specs.declared.setup.Setup.{Setup}
use Rattle.scripts.specs.declared.statement.Statement.{Statement}
use Rattle.program.specs.declared.failure.Failure.{Failure}
use Rattle.program.specs.declared.failure.Failure.TheVariants.{Memory, Output, Script, Unreadable}
use Rattle.program.specs.declared.folder_failure.LoopFailure.{LoopFailure}
use Rattle.program.specs.declared.folder_failure.LoopFailure.TheVariants.{Folder, Network, Run}
use Rattle.program.specs.Failures.{IsFailureOf, IsOfReading, failure_of}
use Rattle.program.specs.FolderFailures.{IsLoopFailureOf, loop_failure_line}
use Rattle.program.specs.FolderRuns.{EndsEarly, FailsInFolders, HasFoundNodes}
use Rattle.program.specs.FolderRuns.{IsOfScript, IsPrintedReport, IsRunInFolders}
use Rattle.program.specs.FolderRuns.{IsWorldOfFound, LoopEnds, LoopHasFailed, ReportFails}
use Rattle.program.specs.FolderRuns.{SpellsStatements, has_stop, loopback, stopped_status}

-- ---- a run in a world

pub ends_early : {D C : Type 0} {g : Ghosts D} (h : Carriers C) (world : World D C g)
    (setup : Setup) (statements : List Statement) (old new : Option (List ℕ)) (error : RunError) →
    HasEndedEarly h error world setup statements old new →
    EndsEarly g h setup statements old new (failure_of error)
ends_early h world setup statements old new run.Write ended =
    record { world = world; ended = ended }
ends_early h world setup statements old new run.Memory ended =
    record { world = world; ended = ended }

pub output_or_memory : (error : RunError) →
    (failure_of error ≡ Output) ⊎ (failure_of error ≡ Memory)
output_or_memory run.Write = inl refl
output_or_memory run.Memory = inr refl

-- statements were printed as a world without lines reported them
pub printed_report : {D C : Type 0} {g : Ghosts D} (h : Carriers C) (world now : World D C g)
    (statements : List Statement) (old new : Option (List ℕ)) (steps : List (List Line))
    (stopped : Bool) → lines_so_far world ≡ [] → ReportIsPrinted h world now statements old new →
    steps ≡ lines_so_far now → stopped ≡ has_stop steps →
    IsPrintedReport h world statements old new stopped
printed_report h world now statements old new steps stopped none report is stops = record {
  now = now;
  report = report;
  stops = stops ∙ ap has_stop (is ∙ report.added
      ∙ ap (λ (l : List (List Line)). l ++ report.steps) none);
}

-- statements were run in a world, and this ended them early
pub report_fails : {D C : Type 0} {g : Ghosts D} (h : Carriers C) (world now : World D C g)
    (statements : List Statement) (old new : Option (List ℕ)) (error : RunError) →
    ReportIsCut h error world now statements old new →
    ReportFails h world statements old new (failure_of error)
report_fails h world now statements old new run.Write cut = record { now = now; cut = cut }
report_fails h world now statements old new run.Memory cut = record { now = now; cut = cut }

-- ---- a run at the nodes of a script

any_text : (text : Option (List ℕ)) (f : LoopFailure) → ((t : List ℕ) → IsLoopFailureOf t f) →
    IfSome text (λ t. IsLoopFailureOf t f)
any_text None f is = tt
any_text (Some t) f is = is t

-- a node that was found has its limits
found_limits : {R : Type 0} {g : Ghosts (DirDisk R)} (folder : List ℕ) (setup : Setup)
    (sim : SimNode (DirDisk R) g) → IsFoundIn folder setup.limits sim →
    StateHasLimits sim.state setup.limits
found_limits {R} {g} folder setup sim is =
    subst (λ (s : NodeState (DirDisk R) g). StateHasLimits s setup.limits) (sym is.up)
    is.limits_are

-- the nodes of these configurations were found, which are those that were set up
module _ {R : Type 0} {g : Ghosts (DirDisk R)} (folder : List ℕ) (setup : Setup)
    (configs : Configurations) (nodes : List (SimNode (DirDisk R) g))
    (set_up : configs ≡ setup.configs) (ids : sim_ids nodes ≡ at_epoch configs 0)
    (each : All (IsFoundIn folder setup.limits) nodes) where
  pub found_nodes : HasFoundNodes g folder setup
  found_nodes = record {
    nodes = nodes;
    ids = subst (λ (cs : Configurations). sim_ids nodes ≡ at_epoch cs 0) set_up ids;
    each = each;
  }

  -- a world was made of them
  pub world_of_found : (world : World (DirDisk R) (TcpCarrier R) g) → nodes_of world ≡ nodes →
      configs_of world ≡ configs → HasRunNothing world →
      (HaveLimits nodes setup.limits → WorldHasLimits world setup.limits) →
      (WorldHasEnded world → ⊥) → IsWorldOfFound folder setup world
  world_of_found world are is none limits goes_on = record {
    found = record {
      nodes = nodes;
      ids = subst (λ (cs : Configurations). sim_ids nodes ≡ at_epoch cs 0) set_up ids;
      each = each;
    };
    nodes = are;
    configs = is ∙ set_up;
    none = none;
    limits = limits (All-weaker (IsFoundIn folder setup.limits)
        (λ (sim : SimNode (DirDisk R) g). StateHasLimits sim.state setup.limits)
        (found_limits folder setup) nodes each);
    goes_on = goes_on;
    has = ap sim_ids are ∙ ids ∙ ap (λ (cs : Configurations). at_epoch cs 0) (sym is);
  }

-- there was no listener
pub no_carrier : {R : Type 0} {g : Ghosts (DirDisk R)} (folder : List ℕ) (setup : Setup)
    (statements : List Statement) (out : Option (List ℕ)) (f : LoopFailure) →
    HasFoundNodes g folder setup → (f ≡ Run Memory) ⊎ (f ≡ Network) →
    FailsInFolders g folder setup statements out out f
no_carrier {R} {g} folder setup statements out f found (inl is) =
    subst (λ (x : LoopFailure). FailsInFolders g folder setup statements out out x) (sym is)
    (inl refl)
no_carrier {R} {g} folder setup statements out f found (inr is) =
    subst (λ (x : LoopFailure). FailsInFolders g folder setup statements out out x) (sym is)
    (refl, found)

-- the run ended early
pub cut_short : {R : Type 0} {g : Ghosts (DirDisk R)} (folder : List ℕ) (setup : Setup)
    (statements : List Statement) (old new : Option (List ℕ))
    (world : World (DirDisk R) (TcpCarrier R) g) (f : Failure) →
    IsWorldOfFound folder setup world → ReportFails loopback world statements old new f →
    FailsInFolders g folder setup statements old new (Run f)
cut_short folder setup statements old new world Output is fails =
    record { world = world; is = is; cut = fails }
cut_short folder setup statements old new world Memory is fails =
    inr (record { world = world; is = is; cut = fails })
cut_short folder setup statements old new world Unreadable is fails = absurd fails
cut_short folder setup statements old new world (Script fault) is fails = absurd fails

-- ---- a run in folders

-- no script was read
pub not_a_script : {R : Type 0} (g : Ghosts (DirDisk R)) (folder : List ℕ)
    (text out : Option (List ℕ)) (f : Failure) → IsOfReading f →
    IfSome text (λ t. IsFailureOf false t f) → LoopHasFailed g folder text out out (Run f)
not_a_script g folder text out f reading cause =
    record { cause = cause; did = inl (reading, refl) }

of_a_run : {R : Type 0} (g : Ghosts (DirDisk R)) (folder : List ℕ) (setup : Setup)
    (statements : List Statement) (text old new : Option (List ℕ)) (f : LoopFailure) →
    FailsInFolders g folder setup statements old new f → IfSome text (λ t. IsLoopFailureOf t f)
of_a_run g folder setup statements text old new (Run Unreadable) fails = absurd fails
of_a_run g folder setup statements text old new (Run (Script fault)) fails = absurd fails
of_a_run g folder setup statements text old new (Run Output) fails =
    any_text text (Run Output) (λ t. tt)
of_a_run g folder setup statements text old new (Run Memory) fails =
    any_text text (Run Memory) (λ t. tt)
of_a_run g folder setup statements text old new (Folder fault) fails =
    any_text text (Folder fault) (λ t. tt)
of_a_run g folder setup statements text old new Network fails =
    any_text text Network (λ t. tt)

-- the run of a script failed
pub failed_loop : {R : Type 0} {g : Ghosts (DirDisk R)} (folder : List ℕ)
    (text old new : Option (List ℕ)) (setup : Setup) (statements : List Statement)
    (f : LoopFailure) → IfSome text (λ t. IsScript 1 (script_lines t) setup statements) →
    IfSome text (λ t. script_fault (start false) 1 (script_lines t) ≡ None) →
    All (λ it. Names setup.configs it.action) statements →
    FailsInFolders g folder setup statements old new f → LoopHasFailed g folder text old new f
failed_loop {R} {g} folder text old new setup statements f spelled lawful named fails = record {
  cause = of_a_run g folder setup statements text old new f fails;
  did = inr (record {
    setup = setup;
    statements = statements;
    spelled = spelled;
    lawful = lawful;
    named = named;
    so = fails;
  });
}

-- ---- the status

-- a run whose status is answered
pub loop_ended : {R : Type 0} {g : Ghosts (DirDisk R)} (folder : List ℕ)
    (ran : Result Bool LoopFailure) (answer : ℕ)
    (text old_out new_out old_err new_err : Option (List ℕ)) →
    MatchResult ran (λ stopped. (answer ≡ stopped_status stopped) × (new_err ≡ old_err))
    (λ failure. (answer ≡ 1) × AppendsPart old_err new_err (loop_failure_line failure)) →
    IfOk ran (λ stopped. SpellsStatements text
    (λ setup statements. IsRunInFolders g folder setup statements old_out new_out stopped)) →
    IfErr ran (LoopHasFailed g folder text old_out new_out) →
    LoopEnds g folder text old_out new_out old_err new_err answer
loop_ended folder (Ok stopped) answer text old_out new_out old_err new_err is printed failed =
    inl (record { stopped = stopped; printed = printed; status = is.0; quiet = is.1 })
loop_ended folder (Err failure) answer text old_out new_out old_err new_err is printed failed =
    inr (record { status = is.0; failure = failure; failed = failed; told = is.1 })

unread : (text : Option (List ℕ)) (is_so : Setup → List Statement → Type 0) →
    SpellsStatements text is_so → SpellsStatements None is_so
unread text is_so spells = record {
  setup = spells.setup;
  statements = spells.statements;
  spelled = tt;
  lawful = tt;
  named = spells.named;
  so = spells.so;
}

unread_or_not : {P : Type 0} (text : Option (List ℕ)) (is_so : Setup → List Statement → Type 0) →
    P ⊎ SpellsStatements text is_so → P ⊎ SpellsStatements None is_so
unread_or_not text is_so (inl p) = inl p
unread_or_not text is_so (inr spells) = inr (unread text is_so spells)

-- whatever was read
pub of_any_loop : {R : Type 0} {g : Ghosts (DirDisk R)} (folder : List ℕ)
    (text old_out new_out old_err new_err : Option (List ℕ)) (answer : ℕ) →
    LoopEnds g folder text old_out new_out old_err new_err answer →
    LoopEnds g folder None old_out new_out old_err new_err answer
of_any_loop folder text old_out new_out old_err new_err answer (inl ran) = inl (record {
  stopped = ran.stopped;
  printed = unread text _ ran.printed;
  status = ran.status;
  quiet = ran.quiet;
})
of_any_loop folder text old_out new_out old_err new_err answer (inr fails) = inr (record {
  status = fails.status;
  failure = fails.failure;
  failed = record { cause = tt; did = unread_or_not text _ fails.failed.did };
  told = fails.told;
})

-- nothing was run
pub loop_reported : {R : Type 0} {g : Ghosts (DirDisk R)} (folder : List ℕ) (failure : LoopFailure)
    (out old_err new_err : Option (List ℕ)) (answer : ℕ) → IsOfScript failure → answer ≡ 1 →
    AppendsPart old_err new_err (loop_failure_line failure) →
    LoopEnds g folder None out out old_err new_err answer
loop_reported folder failure out old_err new_err answer none one told = inr (record {
  status = one;
  failure = failure;
  failed = record { cause = tt; did = inl (none, refl) };
  told = told;
})

-- the status of a run is not that of the usage
stopped_not_usage : (stopped : Bool) → stopped_status stopped ≡ 2 → ⊥
stopped_not_usage true two = omega (arith, two)
stopped_not_usage false two = omega (arith, two)

-- nor is that of a run in folders
pub loop_not_usage : {R : Type 0} {g : Ghosts (DirDisk R)} (folder : List ℕ)
    (text old_out new_out old_err new_err : Option (List ℕ)) (answer : ℕ) →
    LoopEnds g folder text old_out new_out old_err new_err answer → answer ≡ 2 → ⊥
loop_not_usage folder text old_out new_out old_err new_err answer (inl ran) two =
    stopped_not_usage ran.stopped (sym ran.status ∙ two)
loop_not_usage folder text old_out new_out old_err new_err answer (inr fails) two =
    omega (arith, fails.status, two)
