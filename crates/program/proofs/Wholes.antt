-- How a whole run ends.
use Rattle.std.proofs.Common.{◌≡◌, ℕ, List, [], ◌∷◌, Option, None, Some, refl, sym, ap, subst, inl}
use Rattle.std.proofs.Common.{inr, true}
use Rattle.std.proofs.Common.{length, take, arith}
use Rattle.std.specs.Prelude.{true, ◌⊎◌, Result, Ok, Err, OnErr, IfErr, IfOk}
use Rattle.std.specs.Prelude.{IfSome}
use Rattle.std.specs.Result.{result_unwrap_or}
use Rattle.std.specs.Io.KnownBytes.{Appends}
use Rattle.lab.specs.{MemWorld, direct_carrier}
use Rattle.program.specs.declared.failure.Failure.{Failure}
use Rattle.program.specs.declared.failure.Failure.TheVariants.{Unreadable, Script, Output}
use Rattle.program.specs.declared.failure.Failure.TheVariants as failure
use Rattle.client.specs.declared.run_error.RunError.{RunError}
use Rattle.client.specs.declared.run_error.RunError.TheVariants as run
use Rattle.scripts.specs.declared.setup.Setup.{Setup}
use Rattle.scripts.specs.declared.statement.Statement.{Statement}
use Rattle.script_words.specs.Lines.{script_lines}
use Rattle.scripts.specs.Scripts.{IsScript}
use Rattle.scripts.specs.Faults.{script_fault, start}
use Rattle.program.specs.Failures.{failure_line, failure_of, IsFailureOf, IsOfReading}
use Rattle.client.specs.PrintedRuns.{HasEndedEarly}
use Rattle.store_texts.specs.Writing.{AppendsPart}
use Rattle.program.specs.Runs.{FailureIsReported, IsCutShort, IsCutShortText, IsRunOf}
use Rattle.program.specs.Runs.{IsScriptThat, RunEnds, RunEndsAs, RunFailsSo, RunHasFailed}

-- nothing is said of what was read
any_text : (text : Option (List ℕ)) → IfSome text (λ t. Unit {0})
any_text None = tt
any_text (Some t) = tt

-- no world was made
pub no_world : (setup : Setup) (statements : List Statement) (out : Option (List ℕ))
    → RunFailsSo setup statements out out failure.Memory
no_world setup statements out = inr (refl, inl refl)

-- a run in a world in memory that ended early
pub fails_so : (world : MemWorld) (setup : Setup) (statements : List Statement)
    (old new : Option (List ℕ)) (error : RunError)
    → HasEndedEarly direct_carrier error world setup statements old new
    → RunFailsSo setup statements old new (failure_of error)
fails_so world setup statements old new run.Write ended =
    inl (refl, record { world = world; ended = ended })
fails_so world setup statements old new run.Memory ended =
    inr (refl, inr (record { world = world; ended = ended }))

-- what is known of an error gives more
pub if_err_weaker : {T E : Type 0} {P Q : E → Type 0} (r : Result T E)
    → ((e : E) → P e → Q e) → IfErr r P → IfErr r Q
if_err_weaker (Ok x) gives is = tt
if_err_weaker (Err e) gives is = gives e is

-- a run of a script that failed
pub failed_run : (text old new : Option (List ℕ)) (setup : Setup) (statements : List Statement)
    (f : Failure) → IfSome text (λ t. IsScript 1 (script_lines t) setup statements)
    → IfSome text (λ t. script_fault (start true) 1 (script_lines t) ≡ None)
    → RunFailsSo setup statements old new f → RunHasFailed text old new f
failed_run text old new setup statements f spelled fault (inl (is, cut)) =
    subst (λ (x : Failure). RunHasFailed text old new x) (sym is) (record {
      cause = any_text text;
      untouched = λ other _. absurd (other refl);
      output = λ _. record {
        setup = setup;
        statements = statements;
        spelled = spelled;
        fault = fault;
        run = cut;
      };
      memory = λ h. absurd (cc);
    })
failed_run text old new setup statements f spelled fault (inr (is, inl same)) =
    subst (λ (x : Failure). RunHasFailed text old new x) (sym is) (record {
      cause = any_text text;
      untouched = λ _ other. absurd (other refl);
      output = λ h. absurd (cc);
      memory = λ _. inl same;
    })
failed_run text old new setup statements f spelled fault (inr (is, inr cut)) =
    subst (λ (x : Failure). RunHasFailed text old new x) (sym is) (record {
      cause = any_text text;
      untouched = λ _ other. absurd (other refl);
      output = λ h. absurd (cc);
      memory = λ _. inr (record {
        setup = setup;
        statements = statements;
        spelled = spelled;
        fault = fault;
        run = cut;
      });
    })

-- a script that was not read
pub failed_reading : (text out : Option (List ℕ)) (f : Failure) → IsOfReading f
    → IfSome text (λ t. IsFailureOf true t f) → RunHasFailed text out out f
failed_reading text out Unreadable is cause = record {
  cause = cause;
  untouched = λ _ _. refl;
  output = λ h. absurd (cc);
  memory = λ h. absurd (cc);
}
failed_reading text out (Script fault) is cause = record {
  cause = cause;
  untouched = λ _ _. refl;
  output = λ h. absurd (cc);
  memory = λ h. absurd (cc);
}
failed_reading text out Output is cause = absurd is
failed_reading text out failure.Memory is cause = record {
  cause = cause;
  untouched = λ _ _. refl;
  output = λ h. absurd (cc);
  memory = λ _. inl refl;
}

-- nothing is said of what was read
any_script : (text : Option (List ℕ)) (P : Setup → List Statement → Type 0) → IsScriptThat text P
    → IsScriptThat None P
any_script text P it = record {
  setup = it.setup;
  statements = it.statements;
  spelled = tt;
  fault = tt;
  run = it.run;
}

any_memory : (text old new : Option (List ℕ)) → (new ≡ old)
    ⊎ IsCutShortText run.Memory text old new → (new ≡ old)
    ⊎ IsCutShortText run.Memory None old new
any_memory text old new (inl same) = inl same
any_memory text old new (inr cut) = inr (any_script text
    (λ setup statements. IsCutShort run.Memory setup statements old new) cut)

of_any : (text old_out new_out old_err new_err : Option (List ℕ)) (answer : ℕ)
    → RunEndsAs text old_out new_out old_err new_err answer
    → RunEndsAs None old_out new_out old_err new_err answer
of_any text old_out new_out old_err new_err answer (inl prints) = inl (record {
  status = prints.status;
  run = any_script text (λ setup statements. IsRunOf setup statements old_out new_out) prints.run;
  quiet = prints.quiet;
})
of_any text old_out new_out old_err new_err answer (inr fails) = inr (record {
  status = fails.status;
  failure = fails.failure;
  failed = record {
    cause = tt;
    untouched = fails.failed.untouched;
    output = λ is. any_script text
        (λ setup statements. IsCutShort run.Write setup statements old_out new_out)
        (fails.failed.output is);
    memory = λ is. any_memory text old_out new_out (fails.failed.memory is);
  };
  told = fails.told;
})

take_whole : (text : List ℕ) → take (length text) text ≡ text
take_whole [] = refl
take_whole (b ∷ text) = ap (λ (l : List ℕ). b ∷ l) (take_whole text)

-- a whole text is a beginning of it
all_of : (old new : Option (List ℕ)) (text : List ℕ) → Appends old new text
    → AppendsPart old new text
all_of old new text wrote = record {
  count = length text;
  wrote = subst (λ (l : List ℕ). Appends old new l) (sym (take_whole text)) wrote;
}

in_part : (text old_out new_out old_err new_err : Option (List ℕ)) (answer : ℕ)
    → RunEnds text old_out new_out old_err new_err answer
    → RunEndsAs text old_out new_out old_err new_err answer
in_part text old_out new_out old_err new_err answer (inl prints) = inl prints
in_part text old_out new_out old_err new_err answer (inr fails) = inr (record {
  status = fails.status;
  failure = fails.failure;
  failed = fails.failed;
  told = all_of old_err new_err (failure_line fails.failure) fails.told;
})

-- a run whose status is answered
pub answered : {E : Type 0} (status : Result ℕ E) (answer : ℕ)
    (text old_out new_out old_err new_err : Option (List ℕ))
    → answer ≡ result_unwrap_or status 1
    → IfOk status (RunEnds text old_out new_out old_err new_err)
    → OnErr status (FailureIsReported text old_out new_out 1 (AppendsPart old_err new_err))
    → RunEndsAs text old_out new_out old_err new_err answer
answered (Ok s) answer text old_out new_out old_err new_err is ends refused =
    subst (λ (a : ℕ). RunEndsAs text old_out new_out old_err new_err a) (sym is)
    (in_part text old_out new_out old_err new_err s ends)
answered (Err e) answer text old_out new_out old_err new_err is ends refused =
    subst (λ (a : ℕ). RunEndsAs text old_out new_out old_err new_err a) (sym is) (inr refused)

-- .. whatever was read
pub answered_any : {E : Type 0} (status : Result ℕ E) (answer : ℕ)
    (text old_out new_out old_err new_err : Option (List ℕ))
    → answer ≡ result_unwrap_or status 1
    → IfOk status (RunEnds text old_out new_out old_err new_err)
    → OnErr status (FailureIsReported text old_out new_out 1 (AppendsPart old_err new_err))
    → RunEndsAs None old_out new_out old_err new_err answer
answered_any status answer text old_out new_out old_err new_err is ends refused =
    of_any text old_out new_out old_err new_err answer
    (answered status answer text old_out new_out old_err new_err is ends refused)

-- nothing was run
pub reported : (failure : Failure) (out old_err new_err : Option (List ℕ)) (answer : ℕ)
    → IsOfReading failure → answer ≡ 1 → AppendsPart old_err new_err (failure_line failure)
    → RunEndsAs None out out old_err new_err answer
reported failure out old_err new_err answer is one told = inr (record {
  status = one;
  failure = failure;
  failed = failed_reading None out failure is tt;
  told = told;
})

-- a run does not end with the status of the usage
pub not_usage : (text old_out new_out old_err new_err : Option (List ℕ)) (answer : ℕ)
    → RunEndsAs text old_out new_out old_err new_err answer → answer ≡ 2 → ⊥
not_usage text old_out new_out old_err new_err answer (inl prints) two =
    omega (arith, prints.status, two)
not_usage text old_out new_out old_err new_err answer (inr fails) two =
    omega (arith, fails.status, two)
