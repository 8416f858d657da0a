-- What an event adds to the events of a world and their lines.
use Rattle.std.proofs.Common.{◌≡◌, ◌≤◌, Bool, List, [], ◌∷◌, ◌++◌, ◌∙◌, append-nil, ap, refl, sym}
use Rattle.std.proofs.Common.{Err, Ok, Result, arith, drop, false, inl, inr, length, length-append}
use Rattle.std.proofs.Common.{true}
use Rattle.std.specs.Prelude.{OnErr, OnOk}
use Rattle.std.proofs.lemmas.Result.{on_ok_weaker}
use Rattle.std.proofs.lemmas.List.Elements.{All-from_recursion}
use Rattle.configurations.specs.{at_epoch}
use Rattle.disk.specs.declared.disk.Disk.{Ghosts}
use Rattle.events.specs.declared.EventContent.{EventContent}
use Rattle.lab.specs.declared.report.Line.{Line}
use Rattle.lab.specs.declared.world.World.{World}
use Rattle.lab.specs.Events.{NamesNode}
use Rattle.lab.specs.LinesSoFar.{AreEventLines, EventAddsLines, HasItsNodes, HasNotBegun}
use Rattle.lab.specs.LinesSoFar.{HasPartlyKept, KeepsLines, LosesCarried, configs_of}
use Rattle.lab.specs.LinesSoFar.{events_so_far, lines_so_far}
use Rattle.lab.specs.LinesSoFar.{lost_so_far, sent_so_far, sim_node_ids}
use Rattle.lab.specs.Worlds.{HasBegunEvent, HasKept}
use Rattle.lab.proofs.SentLines.{ShowsSent}

-- what holds anyway holds of an error, and of an answer
pub on_err : {T E P : Type 0} (result : Result T E) → P → OnErr result P
on_err (Ok x) p = tt
on_err (Err e) p = p

pub on_ok : {T E P : Type 0} (result : Result T E) → P → OnOk result P
on_ok (Ok x) p = p
on_ok (Err e) p = tt

-- one more of one kind is none of the other
pushed_apart : (noted : List Bool) → noted ++ false ∷ [] ≡ noted ++ true ∷ [] → ⊥
pushed_apart [] is = absurd cc
pushed_apart (b ∷ noted) is = pushed_apart noted (ap (λ (l : List Bool). drop 1 l) is)

module _ {D C : Type 0} {g : Ghosts D} where
  -- none, where it names a node that the world does not have
  pub adds_none : (world : World D C g) (event : EventContent) →
      (NamesNode (configs_of world) event.kind → ⊥) → EventAddsLines event world world
  adds_none world event unknown = record {
    own = [];
    took = sym (append-nil (events_so_far world));
    all = λ named. absurd (unknown named);
    of = All-from_recursion (λ (it : EventContent). it ≡ event) [] tt;
    more = [];
    added = sym (append-nil (lines_so_far world));
    each = λ named. absurd (unknown named);
    pairs = refl;
    lost = sym (append-nil (lost_so_far world));
    shown = omega arith;
    few = omega arith;
    are = λ _. All-from_recursion (AreEventLines event.kind) [] tt;
    unknown = λ _. refl;
    configs = refl;
    nodes = λ its. its;
  }

  -- the event was begun, and its lines were kept
  pub adds_one : (old begun mid new : World D C g) (event : EventContent) (lost : Bool)
      (lines : List Line) → HasBegunEvent old begun event →
      events_so_far mid ≡ events_so_far begun → lines_so_far mid ≡ lines_so_far begun →
      lost_so_far mid ≡ lost_so_far begun →
      ShowsSent (sent_so_far begun) (sent_so_far mid) lost lines →
      configs_of mid ≡ configs_of begun →
      sim_node_ids mid.nodes.items ≡ sim_node_ids begun.nodes.items →
      NamesNode (configs_of old) event.kind →
      (HasItsNodes old → AreEventLines event.kind lines) → HasKept mid new lost lines →
      EventAddsLines event old new
  adds_one old begun mid new event lost lines begins same_events same same_lost shows same_configs
      same_ids named are keeps =
      let sent_now = ap (λ (w : World D C g). sent_so_far w) keeps.others in
      let sent_then = ap (λ (w : World D C g). sent_so_far w) begins.others in
      let configs = ap (λ (w : World D C g). w.configs) keeps.others ∙ (same_configs
      ∙ ap (λ (w : World D C g). w.configs) begins.others) in
      record {
        own = event ∷ [];
        took = ap (λ (w : World D C g). w.events.items) keeps.others ∙ same_events ∙ begins.taken;
        all = λ _. refl;
        of = All-from_recursion (λ (it : EventContent). it ≡ event) (event ∷ []) (refl, tt);
        more = lines ∷ [];
        added = keeps.kept ∙ ap (λ (l : List (List Line)). l ++ lines ∷ [])
            (same ∙ ap (λ (w : World D C g). w.steps.items) begins.others);
        each = λ _. refl;
        pairs = refl;
        lost = keeps.noted ∙ (ap (λ (l : List Bool). l ++ lost ∷ [])
            (same_lost ∙ ap (λ (w : World D C g). w.lost.items) begins.others)
            ∙ ap (λ (b : Bool). lost_so_far old ++ b ∷ []) shows.loss);
        shown = omega (arith, sent_now, sent_then, shows.shown);
        few = omega (arith, sent_now, sent_then, shows.few);
        are = λ its. All-from_recursion (AreEventLines event.kind) (lines ∷ []) (are its, tt);
        unknown = λ unknown. absurd (unknown named);
        configs = configs;
        nodes = λ its. ap (λ (w : World D C g). sim_node_ids w.nodes.items) keeps.others
            ∙ same_ids
            ∙ ap (λ (w : World D C g). sim_node_ids w.nodes.items) begins.others
            ∙ its ∙ ap (λ cs. at_epoch cs 0) (sym configs);
      }

  -- ---- an event that was not lost

  pub loses_none : {T E : Type 0} (r : Result T E) (loses : Type 0) (event : EventContent)
      {old begun : World D C g} (mid new : World D C g) (lines : List Line) →
      HasBegunEvent old begun event → OnOk r (HasKept mid new false lines) →
      lost_so_far mid ≡ lost_so_far begun → OnOk r (LosesCarried loses event old new)
  loses_none r loses event {old = old} mid new lines begins keeps same_lost =
      on_ok_weaker r (λ kept is. absurd (pushed_apart (lost_so_far old)
      (sym (kept.noted ∙ ap (λ (l : List Bool). l ++ false ∷ [])
      (same_lost ∙ ap (λ (w : World D C g). w.lost.items) begins.others)) ∙ is))) keeps

  pub loses_nothing : (loses : Type 0) (world : World D C g) (event : EventContent) →
      LosesCarried loses event world world
  loses_nothing loses world event = λ is.
      absurd (omega (arith, ap length is, length-append (lost_so_far world) (true ∷ [])))

  -- ---- a step that was refused

  pub keeps_nothing : (event : EventContent) (world : World D C g) → KeepsLines event world world
  keeps_nothing event world = record { begun = inl (refl, refl); lost = refl; configs = refl }

  -- the event was not begun
  pub keeps_unbegun : (old new : World D C g) (event : EventContent) → HasNotBegun old new →
      KeepsLines event old new
  keeps_unbegun old new event n = record {
    begun = inl (n.taken, ap (λ (w : World D C g). w.steps.items) n.others);
    lost = ap (λ (w : World D C g). w.lost.items) n.others;
    configs = ap (λ (w : World D C g). w.configs) n.others;
  }

  -- it was begun, and has no lines yet, or its lines were kept
  module _ (old begun mid : World D C g) (event : EventContent)
      (begins : HasBegunEvent old begun event)
      (same_events : events_so_far mid ≡ events_so_far begun)
      (same : lines_so_far mid ≡ lines_so_far begun)
      (same_lost : lost_so_far mid ≡ lost_so_far begun)
      (same_configs : configs_of mid ≡ configs_of begun) where
    lines_then : lines_so_far mid ≡ lines_so_far old
    lines_then = same ∙ ap (λ (w : World D C g). w.steps.items) begins.others

    lost_then : lost_so_far mid ≡ lost_so_far old
    lost_then = same_lost ∙ ap (λ (w : World D C g). w.lost.items) begins.others

    configs_then : configs_of mid ≡ configs_of old
    configs_then = same_configs ∙ ap (λ (w : World D C g). w.configs) begins.others

    pub keeps_begun : KeepsLines event old mid
    keeps_begun = record {
      begun = inr (same_events ∙ begins.taken, inl lines_then);
      lost = lost_then;
      configs = configs_then;
    }

    pub keeps_partly : (new : World D C g) (lines : List Line) → HasPartlyKept mid new lines →
        KeepsLines event old new
    keeps_partly new lines p = record {
      begun = inr (
        ap (λ (w : World D C g). w.events.items) p.others ∙ same_events ∙ begins.taken,
        elim p.kept [
          | inl is ↦ inl (is ∙ lines_then)
          | inr is ↦ inr (
            lines,
            is ∙ ap (λ (l : List (List Line)). l ++ lines ∷ []) lines_then,
          )
        ],
      );
      lost = p.noted ∙ lost_then;
      configs = ap (λ (w : World D C g). w.configs) p.others ∙ configs_then;
    }
