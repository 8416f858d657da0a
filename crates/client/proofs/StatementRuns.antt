-- Statements that ran one after another, and one more of them.
use Rattle.std.proofs.Common.{◌≡◌, ◌<◌, ℕ, suc, List, [], ◌∷◌, ◌++◌, length, take, get_or}
use Rattle.std.proofs.Common.{refl, sym, ap, subst, ◌∙◌, arith, append_assoc, append-nil}
use Rattle.std.proofs.Common.{length-append}
use Rattle.std.proofs.Math.Seq.{take-suc}
use Rattle.std.proofs.lemmas.Grind.{flat_map-append}
use Rattle.std.proofs.Common.{replicate}
use Rattle.disk.specs.declared.disk.Disk.{Ghosts}
use Rattle.carriers.specs.declared.Carrier.{Ghosts as Carriers}
use Rattle.lab.specs.declared.world.World.{World}
use Rattle.lab.specs.{frames_in_steps}
use Rattle.lab.specs.Worlds.{HasHistory, IsRunSoFar}
use Rattle.scripts.specs.declared.setup.Setup.{Setup}
use Rattle.scripts.specs.declared.statement.Statement.{Statement}
use Rattle.client.specs.declared.statement_result.StatementResult.{StatementResult}
use Rattle.client.specs.PrintedRuns.{HasRunStatements}
use Rattle.client.specs.ScriptRuns.{HasRunTo, HasTurned, Stretch, followed_by, no_stretch}
use Rattle.client.specs.ScriptRuns.{IsRising, AreResults, run_of}
use Rattle.client.specs.Text.{event_lines}
use Rattle.client.proofs.Leaving.{left_rises}
use Rattle.client.proofs.Flowing.{joined_assoc, joined_nothing, frames_in_steps-more}
use Rattle.client.proofs.Printed.{replicate-length}

module _ {D C : Type 0} {g : Ghosts D} where
  -- the first statements ran so far, and with those that follow they make a whole
  pub record Goes (h : Carriers C) (world : World D C g) (setup : Setup) (left : List ℕ)
      (done : List Statement) (turns : List StatementResult) (past : Stretch) : Type 0 where
    pub run : HasRunTo h world setup past
    pub rising : IsRising 0 (frames_in_steps past.steps) left
    pub whole : (behind : List Statement) (ts : List StatementResult) (rest : Stretch) →
        AreResults g h setup past left behind ts rest →
        AreResults g h setup no_stretch [] (done ++ behind) (turns ++ ts) (followed_by past rest)
    pub each : length (event_lines turns) ≡ length past.steps

module _ {D C : Type 0} {g : Ghosts D} {h : Carriers C} where
  pub goes_nowhere : (world : World D C g) (setup : Setup) → HasRunTo h world setup no_stretch →
      Goes h world setup [] [] [] no_stretch
  goes_nowhere world setup run = record {
    run = run;
    rising = omega arith;
    whole = λ behind ts rest c. c;
    each = refl;
  }

  -- in a stretch between two worlds something was chosen in each event
  chosen_each : (old new : World D C g) (setup : Setup) (past own : Stretch) →
      HasRunTo h old setup past → HasRunTo h new setup (followed_by past own) →
      length own.choices ≡ length own.events
  chosen_each old new setup past own before after = omega (
    arith,
    before.run.made.trace.one_each,
    after.run.made.trace.one_each,
    length-append past.choices own.choices,
    length-append past.events own.events,
  )

  -- one statement more
  pub goes_on : (old new : World D C g) (setup : Setup) (left next : List ℕ) (it : Statement)
      (done : List Statement) (turns : List StatementResult) (turn : StatementResult)
      (past : Stretch) → Goes h old setup left done turns past →
      (t : HasTurned h setup past it turn old new left next) →
      Goes h new setup next (done ++ it ∷ []) (turns ++ turn ∷ []) (followed_by past t.own)
  goes_on old new setup left next it done turns turn past s t = record {
    run = t.run;
    rising = rw (t.left, frames_in_steps-more past.steps t.own.steps)
        (left_rises it.action left (frames_in_steps past.steps)
        (frames_in_steps t.own.steps) s.rising);
    whole = λ behind ts rest c.
        let one = s.whole (it ∷ behind) (turn ∷ ts) (followed_by t.own rest) (
          turn,
          t.own,
          ts,
          rest,
          t.did,
          chosen_each old new setup past t.own s.run t.run,
          record { world = old; run = s.run; numbers = t.shown },
          refl,
          refl,
          subst (λ (l : List ℕ). AreResults g h setup (followed_by past t.own) l behind ts rest)
              t.left c,
        ) in
        rw (
          append_assoc done (it ∷ []) behind,
          append_assoc turns (turn ∷ []) ts,
          joined_assoc past t.own rest,
        ) one;
    each = omega (
      arith,
      s.each,
      t.did.count,
      t.did.each,
      ap length (flat_map-append (λ (r : StatementResult). replicate r.events r.line) turns
          (turn ∷ [])),
      length-append (event_lines turns) (event_lines (turn ∷ [])),
      length-append (replicate turn.events turn.line) [],
      replicate-length turn.events turn.line,
      length-append past.steps t.own.steps,
    );
  }

  -- the next statement of all
  pub goes_next : (old new : World D C g) (setup : Setup) (left next : List ℕ)
      (all : List Statement) (i : ℕ) (d it : Statement) (turns : List StatementResult)
      (turn : StatementResult) (past : Stretch) → i < length all → it ≡ get_or all i d →
      Goes h old setup left (take i all) turns past →
      (t : HasTurned h setup past it turn old new left next) →
      Goes h new setup next (take (suc i) all) (turns ++ turn ∷ []) (followed_by past t.own)
  goes_next old new setup left next all i d it turns turn past within at s t =
      let more : take (suc i) all ≡ take i all ++ it ∷ [] = take-suc all i d within
      ∙ ap (λ (x : Statement). take i all ++ x ∷ []) (sym at) in
      rw more (goes_on old new setup left next it (take i all) turns turn past s t)

  -- these statements ran, and no other
  pub gone : (world : World D C g) (setup : Setup) (left : List ℕ) (done : List Statement)
      (turns : List StatementResult) (past : Stretch) → Goes h world setup left done turns past →
      IsRunSoFar h world (run_of setup past) → HasHistory world (run_of setup past) →
      HasRunStatements h world setup done turns past
  gone world setup left done turns past s so_far history = record {
    results = rw (append-nil done, append-nil turns, joined_nothing past)
        at (s.whole [] [] no_stretch (refl, refl));
    run = s.run;
    so_far = so_far;
    history = history;
  }
