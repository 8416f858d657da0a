-- One event more.
use Rattle.std.proofs.Common.{◌≡◌, ℕ, suc, ◌+◌, ◌≤◌, List, [], ◌∷◌, ◌++◌, length, map, refl, sym}
use Rattle.std.proofs.Common.{ap, ap₂}
use Rattle.std.proofs.Common.{subst, ◌∙◌, length-append, arith}
use Rattle.std.specs.Prelude.{All}
use Rattle.disk.specs.declared.disk.Disk.{Ghosts}
use Rattle.std.specs.List.{AllZip}
use Rattle.std.proofs.lemmas.Slice.Zip.{AllZip-long}
use Rattle.kv_types.specs.declared.Limits.{Limits}
use Rattle.kv_types.specs.{Edits}
use Rattle.configurations.specs.{Configurations, at_epoch}
use Rattle.chain_model.specs.{SystemState, run, reached, first_state}
use Rattle.chain_model.specs.{state_after, outcome}
use Rattle.events.specs.declared.EventContent.{EventContent}
use Rattle.lab.specs.declared.delivery.Posted.{Posted}
use Rattle.lab.specs.declared.report.Line.{Line}
use Rattle.lab.specs.declared.sim_node.SimNode.{SimNode}
use Rattle.lab.specs.Disks.{DisksFollow, AllFollow}
use Rattle.lab.specs.Events.{modelled, reported_lines, ChoiceFits}
use Rattle.lab.specs.SimNodes.{Choice, IsUnarmed}
use Rattle.lab.specs.Traces.{modelled_from, lines_from, AllFit}
use Rattle.lab.specs.Worlds.{AllNodesFollow, HaveLimits, NodesFollow, NodesRefine, PostedRefines}
use Rattle.lab.specs.Worlds.{RunRefines, SimNodeRefines, WorldRun, extended, frames_in_steps}
use Rattle.lab.specs.Worlds.{frames_of_step}

-- one event more at the end
module _ (cs : Configurations) (e : EventContent) (ch : Choice) where
  pub run-push : (i k : ℕ) (es : List EventContent) (chs : List Choice)
      (w : SystemState Edits) →
      length chs ≡ length es → k ≡ i + length es →
      run cs (modelled_from i (es ++ e ∷ []) (chs ++ ch ∷ [])) w ≡ state_after cs
      (run cs (modelled_from i es chs) w) (modelled k e.kind ch)
  run-push i k [] [] w same at = ap (λ (j : ℕ). state_after cs w (modelled j e.kind ch))
      (omega arith)
  run-push i k [] (c ∷ chs) w same at = absurd (omega arith)
  run-push i k (f ∷ es) [] w same at = absurd (omega arith)
  run-push i k (f ∷ es) (c ∷ chs) w same at = run-push (suc i) k es chs
      (state_after cs w (modelled i f.kind c)) (omega arith) (omega arith)

  pub lines_from-push : (i k : ℕ) (es : List EventContent) (chs : List Choice)
      (w : SystemState Edits) →
      length chs ≡ length es → k ≡ i + length es →
      let u = run cs (modelled_from i es chs) w in
      lines_from cs i (es ++ e ∷ []) (chs ++ ch ∷ []) w ≡ lines_from cs i es chs w ++ reported_lines
      (length u.frames) e ch (outcome u cs (modelled k e.kind ch)) ∷ []
  lines_from-push i k [] [] w same at = ap
      (λ (j : ℕ). reported_lines (length w.frames) e ch
      (outcome w cs (modelled j e.kind ch)) ∷ []) (omega arith)
  lines_from-push i k [] (c ∷ chs) w same at = absurd (omega arith)
  lines_from-push i k (f ∷ es) [] w same at = absurd (omega arith)
  lines_from-push i k (f ∷ es) (c ∷ chs) w same at =
      ap (λ (l : List (List Line)). reported_lines (length w.frames) f c
      (outcome w cs (modelled i f.kind c)) ∷ l)
      (lines_from-push (suc i) k es chs (state_after cs w (modelled i f.kind c)) (omega arith)
      (omega arith))

  pub fit-push : (i k : ℕ) (es : List EventContent) (chs : List Choice)
      (w : SystemState Edits) →
      length chs ≡ length es → k ≡ i + length es → AllFit cs i es chs w →
      let u = run cs (modelled_from i es chs) w in
      ChoiceFits u.frames e ch (outcome u cs (modelled k e.kind ch)) →
      AllFit cs i (es ++ e ∷ []) (chs ++ ch ∷ []) w
  fit-push i k [] [] w same at all one = (
    subst (λ (j : ℕ). ChoiceFits w.frames e ch (outcome w cs (modelled j e.kind ch))) (omega arith)
        one,
    tt,
  )
  fit-push i k [] (c ∷ chs) w same at all one = absurd (omega arith)
  fit-push i k (f ∷ es) [] w same at all one = absurd all
  fit-push i k (f ∷ es) (c ∷ chs) w same at all one = (
    all.0,
    fit-push (suc i) k es chs (state_after cs w (modelled i f.kind c)) (omega arith) (omega arith)
        all.1 one,
  )

module _ {D : Type 0} {g : Ghosts D} where
  module _ (cs : Configurations) (e : EventContent) (ch : Choice) where
    pub follow-push : (i k : ℕ) (es : List EventContent) (chs : List Choice)
        (w : SystemState Edits)
        (old disks new : ℕ → D) → length chs ≡ length es → k ≡ i + length es →
        AllFollow g cs i es chs w old disks →
        let u = run cs (modelled_from i es chs) w in
        DisksFollow g e ch
        (outcome u cs (modelled k e.kind ch)) disks new →
        AllFollow g cs i (es ++ e ∷ []) (chs ++ ch ∷ []) w old new
    follow-push i k [] [] w old disks new same at all one = (
      new,
      subst (λ (d : ℕ → D). DisksFollow g e ch
          (outcome w cs (modelled i e.kind ch)) d new) all
          (subst (λ (j : ℕ). DisksFollow g e ch
          (outcome w cs (modelled j e.kind ch)) disks new) (omega arith) one),
      refl,
    )
    follow-push i k [] (c ∷ chs) w old disks new same at all one = absurd (omega arith)
    follow-push i k (f ∷ es) [] w old disks new same at all one = absurd all
    follow-push i k (f ∷ es) (c ∷ chs) w old disks new same at all one = (
      all.0,
      all.1,
      follow-push (suc i) k es chs (state_after cs w (modelled i f.kind c)) all.0 disks new
          (omega arith) (omega arith) all.2 one,
    )

    pub nodes-push : (limits : Limits) (i k : ℕ) (es : List EventContent) (chs : List Choice)
        (w : SystemState Edits) (old sims new : List (SimNode D g)) →
        length chs ≡ length es → k ≡ i + length es →
        AllNodesFollow cs limits i es chs w old sims →
        let u = run cs (modelled_from i es chs) w in
        let o = outcome u cs (modelled k e.kind ch) in
        NodesFollow o.acted_on e ch o sims new → HaveLimits new limits →
        NodesRefine (state_after cs u (modelled k e.kind ch)).nodes new →
        AllNodesFollow cs limits i (es ++ e ∷ []) (chs ++ ch ∷ []) w old new
    nodes-push limits i k [] [] w old sims new same at all one has are = (
      new,
      subst (λ (l : List (SimNode D g)). let o = outcome w cs (modelled i e.kind ch) in
          NodesFollow o.acted_on e ch o l new) all
          (subst (λ (j : ℕ). let o = outcome w cs (modelled j e.kind ch) in
          NodesFollow o.acted_on e ch o sims new) (omega arith) one),
      has,
      subst (λ (j : ℕ). NodesRefine (state_after cs w (modelled j e.kind ch)).nodes new)
          (omega arith) are,
      refl,
    )
    nodes-push limits i k [] (c ∷ chs) w old sims new same at all one has are = absurd (omega arith)
    nodes-push limits i k (f ∷ es) [] w old sims new same at all one has are = absurd all
    nodes-push limits i k (f ∷ es) (c ∷ chs) w old sims new same at all one has are = (
      all.0,
      all.1,
      all.2,
      all.3,
      nodes-push limits (suc i) k es chs (state_after cs w (modelled i f.kind c)) all.0 sims new
          (omega arith) (omega arith) all.4 one has are,
    )

  -- nodes that follow from some with these limits have them
  pub follow_limited : (cs : Configurations) (limits : Limits) (i : ℕ) (es : List EventContent)
      (chs : List Choice)
      (w : SystemState Edits) (old new : List (SimNode D g)) →
      AllNodesFollow cs limits i es chs w old new → HaveLimits old limits → HaveLimits new limits
  follow_limited cs limits i [] chs w old new all has =
      subst (λ (l : List (SimNode D g)). HaveLimits l limits) (sym all) has
  follow_limited cs limits i (e ∷ es) [] w old new all has = absurd all
  follow_limited cs limits i (e ∷ es) (ch ∷ chs) w old new all has =
      follow_limited cs limits (suc i) es chs (state_after cs w (modelled i e.kind ch)) all.0 new
      all.4
      all.2

-- each event has its lines
pub length-lines_from : (cs : Configurations) (i : ℕ) (es : List EventContent) (chs : List Choice)
    (w : SystemState Edits) → length chs ≡ length es →
    length (lines_from cs i es chs w) ≡ length es
length-lines_from cs i [] chs w same = refl
length-lines_from cs i (e ∷ es) [] w same = absurd (omega arith)
length-lines_from cs i (e ∷ es) (ch ∷ chs) w same =
    ap suc (length-lines_from cs (suc i) es chs (state_after cs w (modelled i e.kind ch))
    (omega arith))

-- so many frames more have lines
pub frames_in_steps-push : (steps : List (List Line)) (lines : List Line) →
    frames_in_steps (steps ++ lines ∷ []) ≡ frames_in_steps steps + frames_of_step lines
frames_in_steps-push [] lines = omega arith
frames_in_steps-push (step ∷ steps) lines = omega (arith, frames_in_steps-push steps lines)

module _ {D : Type 0} {g : Ghosts D} where
  -- what the event in place i makes of a world, and its lines
  pub record Next (cs : Configurations) (w : SystemState Edits) (old : ℕ → D) (i : ℕ)
      (event : EventContent) (choice : Choice) (sims : List (SimNode D g)) (posted : List Posted)
      (lines : List Line)
      : Type 0 where
    pub traced : lines ≡ reported_lines (length w.frames) event choice
        (outcome w cs (modelled i event.kind choice))
    pub fits : ChoiceFits w.frames event choice (outcome w cs (modelled i event.kind choice))
    pub counted : frames_of_step lines ≡ length (outcome w cs (modelled i event.kind choice)).frames
    pub frames : AllZip PostedRefines posted (state_after cs w
        (modelled i event.kind choice)).frames
    pub nodes : map (λ sim. sim.id) sims ≡ at_epoch cs 0
    pub disks : ℕ → D
    pub follow : DisksFollow g event choice
        (outcome w cs (modelled i event.kind choice)) old disks
    pub few : (x : ℕ) → g.failures (disks x) ≤ i
    pub unarmed : (x : ℕ) → IsUnarmed g (disks x)
    pub each : All (SimNodeRefines (state_after cs w (modelled i event.kind choice)).nodes disks)
        sims

module _ {D : Type 0} {g : Ghosts D} (past : WorldRun) (sims : List (SimNode D g))
    (posted : List Posted)
    (made : RunRefines sims posted past)
  where
    abbrev cs : Configurations
    cs = past.configs

    abbrev events : List EventContent
    events = past.events

    abbrev choices : List Choice
    choices = past.choices

    -- the world of the model so far
    abbrev pub so_far : SystemState Edits
    so_far = reached cs (modelled_from 1 events choices)

    -- there are as many steps as events
    pub length-steps : length past.steps ≡ length events
    length-steps = ap length made.trace.traced
        ∙ length-lines_from cs 1 events choices (first_state cs) made.trace.one_each

    -- the next step is one event more
    pub grown : (i : ℕ) (event : EventContent) (choice : Choice) (now : List (SimNode D g))
        (more : List Posted)
        (lines : List Line) → i ≡ length events + 1 →
        Next cs so_far made.disks i event choice now more lines →
        RunRefines now more (extended past event choice lines)
    grown i event choice now more lines at next =
        let place : i ≡ 1 + length events = omega (arith, at) in
        let here = run-push cs event choice 1 i events choices (first_state cs)
        made.trace.one_each place in
        record {
          lawful = made.lawful;
          trace = record {
            one_each = omega (
              arith,
              length-append choices (choice ∷ []),
              length-append events (event ∷ []),
              made.trace.one_each,
            );
            fits = fit-push cs event choice 1 i events choices (first_state cs)
                made.trace.one_each place made.trace.fits next.fits;
            traced = ap₂ (λ (a : List (List Line)) (b : List Line). a ++ b ∷ []) made.trace.traced
                next.traced
                ∙ sym (lines_from-push cs event choice 1 i events choices (first_state cs)
                made.trace.one_each place);
          };
          frames = subst (λ (v : SystemState Edits). AllZip PostedRefines more v.frames)
              (sym here)
              next.frames;
          sent = omega (
            arith,
            frames_in_steps-push past.steps lines,
            made.sent,
            next.counted,
            AllZip-long PostedRefines posted so_far.frames made.frames,
            AllZip-long PostedRefines more
                (state_after cs so_far (modelled i event.kind choice)).frames next.frames,
            length-append so_far.frames
                (outcome so_far cs (modelled i event.kind choice)).frames,
          );
          nodes = next.nodes;
          disks = next.disks;
          after = record {
            first = made.after.first;
            begun = made.after.begun;
            occurred = made.after.occurred;
            follow = follow-push cs event choice 1 i events choices (first_state cs)
                made.after.first made.disks next.disks made.trace.one_each place made.after.follow
                next.follow;
          };
          few = λ x. omega (arith, next.few x, at, length-append events (event ∷ []));
          unarmed = next.unarmed;
          each = subst (λ (v : SystemState Edits). All (SimNodeRefines v.nodes next.disks)
              now)
              (sym here)
              next.each;
        }
