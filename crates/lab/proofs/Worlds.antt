-- A step of a world's node is a step of the model's.
use Rattle.std.proofs.Common.{◌≡◌, ℕ, suc, ◌+◌, ◌≤◌, List, [], ◌∷◌, ◌++◌, length, get_or, slice_set}
use Rattle.std.proofs.Common.{Bool, true, false, refl, sym, ap, ap₂, subst, ◌∙◌, arith, append-nil}
use Rattle.std.proofs.Math.Seq.{map-set_same}
use Rattle.std.specs.Prelude.{All, Option}
use Rattle.disk.specs.declared.disk.Disk.{Ghosts}
use Rattle.std.proofs.lemmas.Bool.{cond-false, false≢true}
use Rattle.std.specs.List.{AllZip, AllByRecursion}
use Rattle.std.proofs.lemmas.List.Elements.{recursion_from_All, All-from_recursion}
use Rattle.std.proofs.lemmas.Slice.Zip.{AllZip-long}
use Rattle.kv_types.specs.declared.bounds.TheConstants.{MAX_NUMBER}
use Rattle.kv_types.specs.declared.Limits.{Limits}
use Rattle.kv_types.specs.{AllDifferent, Edits, has}
use Rattle.disk.specs.declared.Junk.{Junk}
use Rattle.configurations.specs.{Configurations, Lawful, at_epoch}
use Rattle.chain_model.specs.{Message as ModelFrame, InOrder, SystemEvent as ModelEvent}
use Rattle.chain_model.specs.{SystemState, Outcome, reached, first_state, outcome}
use Rattle.chain_model.specs.{state_after, after, nothing}
use Rattle.chain_core.specs.{Machine}
use Rattle.carriers.specs.declared.NodeInput.{NodeInput}
use Rattle.events.specs.declared.EventContent.{EventContent}
use Rattle.events.specs.declared.EventKind.{EventKind}
use Rattle.events.specs.declared.EventKind.TheVariants.{Deliver, Notice}
use Rattle.lab.specs.declared.delivery.Posted.{Posted}
use Rattle.lab.specs.declared.report.Line.{Line}
use Rattle.lab.specs.declared.report.Line.TheVariants as line
use Rattle.lab.specs.declared.sim_node.SimNode.{SimNode}
use Rattle.lab.specs.Events.{MayBeLost, NamesNode, arrived, lines_of_event, modelled, reply_count}
use Rattle.lab.specs.Events.{reported_lines}
use Rattle.lab.specs.SimNodes.{StateRefines, Choice, HasArrived, IsUnarmed, disk_in}
use Rattle.carriers.specs.declared.Delivery.{Delivery}
use Rattle.carriers.specs.declared.Delivery.TheVariants as delivery
use Rattle.carriers.specs.{Transmission, unless_lost}
use Rattle.lab.specs.Deliveries.{IsDeliverable, IsDeliveryOf}
use Rattle.lab.specs.Outcomes.{DiskFits, IncidentsFit, IsExplained, OutcomeRefines, StateFollows}
use Rattle.lab.specs.Outcomes.{has_struck_in}
use Rattle.lab.specs.OutcomeLines.{sent_by}
use Rattle.lab.specs.Disks.{DiskFollows, HasGrown, StaysReliable, junk_of}
use Rattle.lab.specs.Posting.{FramesFollow}
use Rattle.lab.specs.Traces.{modelled_from}
use Rattle.lab.specs.Transmissions.{frame_sent, replies_sent, transmissions_of}
use Rattle.lab.specs.Worlds.{FollowRun, HasNoNode, NodesFollow, PostedRefines}
use Rattle.lab.specs.Worlds.{RunRefines, SimNodeRefines, WorldRun, asked_after, extended}
use Rattle.lab.specs.Worlds.{frames_in, frames_of_step, outcome_after}
use Rattle.lab.proofs.AnswerLines.{counts_arrived}
use Rattle.lab.proofs.Posting.{frames_of, zip_both}
use Rattle.lab.proofs.Deliveries.{refined, nothing_done, junk_same}
use Rattle.lab.proofs.Disks.{MayRise, with_disk, all_follow, none_follow, follows, few_more}
use Rattle.lab.proofs.Disks.{at_most_one, none_armed, stops_so}
use Rattle.lab.proofs.Dispatching.{sound}
use Rattle.lab.proofs.SimNodes.{ids_of, has_one, refined_at}
use Rattle.lab.proofs.Growing.{grown, run-push}
use Rattle.lab.proofs.Addressees.{IsNumbered, addressed, all_numbered, back, kept_all}
use Rattle.lab.proofs.Moves.{HasStepped, crash_of, honest_of, struck_by, tended_so}
use Rattle.lab.proofs.Rises.{at_rest, no_rise, not_lost}
use Rattle.lab.proofs.Arrivals.{RepliesArrive}
use Rattle.lab.proofs.Transmissions.{sent_alone, sent_by_both}

-- the delivery that was found is that of the event, by the configurations and the frames that are
-- posted
abbrev pub FitsDelivery : Configurations → List Posted → ℕ → EventKind → Delivery → Type 0
FitsDelivery cs posted i kind found = (frames : List (ModelFrame Edits)) →
    AllZip PostedRefines posted frames → IsDeliverable cs frames i kind found

-- the number is the place of the event behind these
pub record IsNext (events : List EventContent) (i : ℕ) : Type 0 where
  pub at : i ≡ length events + 1
  pub fits : i ≤ MAX_NUMBER

-- in every run frames are in order
abbrev pub AlwaysInOrder : Type 0
AlwaysInOrder = (cs : Configurations) (es : List (ModelEvent Edits)) → Lawful cs →
    InOrder cs es

module _ {D : Type 0} {g : Ghosts D} (in_order : AlwaysInOrder) (past : WorldRun)
    (sims : List (SimNode D g)) (posted : List Posted) (made : RunRefines sims posted past)
    (i : ℕ) (next : IsNext past.events i) (event : EventContent) where
  abbrev cs : Configurations
  cs = past.configs

  abbrev events : List EventContent
  events = past.events

  abbrev choices : List Choice
  choices = past.choices

  -- the world of the model so far
  abbrev pub w : SystemState Edits
  w = reached cs (modelled_from 1 events choices)

  -- what the event sends is numbered
  sent_numbered : (choice : Choice) →
      AllByRecursion IsNumbered (outcome w cs (modelled i event.kind choice)).frames
  sent_numbered choice =
      let more = modelled_from 1 (events ++ event ∷ []) (choices ++ choice ∷ []) in
      let here = run-push cs event choice 1 i events choices (first_state cs)
      made.trace.one_each (omega (arith, next.at)) in
      back IsNumbered w.frames (outcome w cs (modelled i event.kind choice)).frames
      (subst (λ (v : SystemState Edits). AllByRecursion IsNumbered v.frames) here
      (all_numbered cs more (in_order cs more made.lawful)))

  -- the world has the node that an event is for
  has_its_node : (x : ℕ) (node_input : NodeInput) → NamesNode cs event.kind →
      IsDeliveryOf cs w.frames i event.kind x node_input → HasNoNode sims x → ⊥
  has_its_node x node_input names brings none = has_one sims x
      (subst (λ (c : List ℕ). has c x ≡ true) (sym made.nodes) (has_it event.kind names brings))
      none
    where
      has_it : (kind : EventKind) → NamesNode cs kind →
          IsDeliveryOf cs w.frames i kind x node_input → has (at_epoch cs 0) x ≡ true
      has_it (Deliver p) names brings =
          let es = modelled_from 1 events choices in
          addressed cs es (in_order cs es made.lawful) p x brings.it brings.frame
          brings.there brings.same
      has_it (Notice node epoch) names brings =
          subst (λ (y : ℕ). has (at_epoch cs 0) y ≡ true) (sym brings.same) names
      has_it kind names brings =
          subst (λ (y : ℕ). has (at_epoch cs 0) y ≡ true) (sym brings.0) names

  -- nodes, frames and lines refine one event more, in which something was chosen, the nodes and
  -- the frames follow, and this is asked of the carrier
  pub record Grows (loses : Type 0) (lost : Bool) (now : List (SimNode D g)) (more : List Posted)
      (asked : List Transmission) (lines : List Line) : Type 0 where
    pub choice : Choice
    pub lost_so : choice.lost ≡ lost
    pub arrives : (loses → ⊥) → HasArrived choice
    pub ran : RunRefines now more (extended past event choice lines)
    pub nodes : FollowRun past event choice sims now
    pub frames : FramesFollow (outcome_after past event choice).acted_on posted more
    pub sent : asked_after past posted event choice ≡ asked

  -- what holds by the outcome in the event's place holds behind the run
  behind : (P : ℕ → Outcome Edits → Type 0) (choice : Choice) →
      P i (outcome w cs (modelled i event.kind choice)) →
      P (suc (length events)) (outcome_after past event choice)
  behind P choice is = subst (λ (k : ℕ). P k (outcome w cs (modelled k event.kind choice)))
      (omega (arith, next.at)) is

  -- what follows by the outcome in the next place
  followed : (choice : Choice) (now : List (SimNode D g)) →
      (let o = outcome w cs (modelled i event.kind choice) in
      NodesFollow o.acted_on event choice o sims now) →
      FollowRun past event choice sims now
  followed choice now is =
      behind (λ (k : ℕ) (o : Outcome Edits). NodesFollow o.acted_on event choice o sims now)
      choice is

  -- a step of the node refines one event more, of whose lines so much arrives
  refined_next : (loses : Type 0) (asks : List Transmission → Type 0) (x : ℕ)
      (node_input : NodeInput) (limits : Limits) (given lines : List Line)
      (now : List (SimNode D g)) (more : List Posted) →
      IsDeliveryOf cs w.frames i event.kind x node_input →
      HasStepped sims posted x node_input event limits given now more →
      (heard : RepliesArrive loses asks x given lines) → Grows loses false now more
      (frame_sent posted i event.kind (unless_lost false) ++ replies_sent x heard.told given) lines
  refined_next loses asks x node_input limits given lines now more brings t heard =
      let sim = t.took.sim in
      let all = recursion_from_All (SimNodeRefines w.nodes made.disks) sims made.each in
      let old = get_or sims t.took.index sim in
      let was : old.id ≡ x = t.took.at.id sim in
      let before : StateRefines g.is_honest g.state old.state x (w.nodes x) =
      subst (λ (y : ℕ). StateRefines g.is_honest g.state old.state y (w.nodes y)) was
      (made.each t.took.index sim t.took.at.within).is in
      let honest = honest_of old.state x (w.nodes x) before in
      let slots : disk_in old.state ≡ made.disks x =
      (made.each t.took.index sim t.took.at.within).disk ∙ ap made.disks was in
      let own = disk_in sim.state in
      let struck = struck_by event.fault old sim in
      let out = refined cs w i x event.fault struck heard.told old.state sim.state t.did event.kind
      node_input
      brings
      (t.took.dispatched.refines x (w.nodes x) before) in
      let so : out.choice.struck ≡ has_struck_in g.past event.fault (made.disks x) sim.state =
      out.chose
      ∙ ap (λ (d : D). has_struck_in g.past event.fault d sim.state) slots in
      let left : DiskFits g.state g.failures g.past
      (junk_of event.kind) event.fault out.choice.struck
      t.did (made.disks x) sim.state =
      subst (λ (b : Bool). DiskFits g.state g.failures g.past
      (junk_of event.kind) event.fault b t.did
      (made.disks x) sim.state) (sym out.chose)
      (subst (λ (d : D). DiskFits g.state g.failures g.past
      (junk_of event.kind) event.fault struck
      t.did d sim.state) slots
      (subst (λ (j : Option Junk). DiskFits g.state g.failures g.past j event.fault struck t.did
      (disk_in old.state) sim.state)
      (junk_same cs w.frames i x event.kind node_input brings) (t.took.dispatched.disk honest))) in
      let occurred : IncidentsFit g.state g.past g.incidents
      (junk_of event.kind) event.fault out.choice.struck
      t.did (made.disks x) sim.state =
      subst (λ (b : Bool). IncidentsFit g.state g.past g.incidents (junk_of event.kind) event.fault
      b t.did (made.disks x) sim.state) (sym out.chose)
      (subst (λ (d : D). IncidentsFit g.state g.past g.incidents
      (junk_of event.kind) event.fault struck
      t.did d sim.state) slots
      (subst (λ (j : Option Junk). IncidentsFit g.state g.past g.incidents j event.fault struck
      t.did (disk_in old.state) sim.state)
      (junk_same cs w.frames i x event.kind node_input brings) (t.took.dispatched.occurred honest)))
      in
      let few = made.few x in
      let may : MayRise g (made.disks x) = omega (arith, few, next.at, next.fits) in
      let why : StaysReliable g (made.disks x) →
      IsExplained (g.state (made.disks x)) out.choice.struck t.did =
      λ stays. subst (λ (b : Bool). IsExplained (g.state (made.disks x)) b t.did) (sym out.chose)
      (subst (λ (d : D). IsExplained (g.state d) struck t.did) slots
      (t.took.dispatched.only (sound g old.state x (w.nodes x) before)
      (subst g.is_reliable (sym slots) (stays may)))) in
      let grows = subst (λ (d : D). HasGrown g.past d own) slots
      (t.took.dispatched.grows x (w.nodes x) before) in
      let o = outcome w cs (modelled i event.kind out.choice) in
      let follow = follows (made.disks x) sim.state may event out.choice o x out.node t.did out.is
      so
      out.ends left occurred why grows in
      let id : sim.id ≡ x = t.took.id in
      let long = AllZip-long PostedRefines posted w.frames made.frames in
      let gives_posted = t.traced ∙ out.traced (length posted) in
      let gives : given ≡ lines_of_event (length w.frames) event out.choice o =
      gives_posted ∙ ap (λ n. lines_of_event n event out.choice o) (sym long) in
      let came = grown past sims posted made i event out.choice now more lines
      next.at (record {
        traced = heard.kept
            ∙ ap₂ (λ (b : List Bool) (l : List Line). arrived b l) (sym out.heard_so) gives
            ∙ sym (cond-false out.choice.lost _ _ out.arrives);
        fits = record {
          cause = out.fits;
          struck = stops_so (made.disks x) sim.state may event out.choice o x out.node t.did
              out.ends left;
          tends = out.tends;
          lost = λ lost. absurd (false≢true (sym out.arrives ∙ lost));
          told = ap length out.heard_so ∙ heard.each ∙ ap reply_count gives;
        };
        counted = ap frames_of_step heard.kept ∙ counts_arrived heard.told given
            ∙ ap frames_of_step t.traced ∙ out.counted (length posted);
        frames = subst (λ (l : List Posted). AllZip PostedRefines l (w.frames ++ o.frames))
            (sym t.sent.whole)
            (zip_both PostedRefines posted t.sent.more w.frames o.frames made.frames
            (kept_all x t.sent.more (sent_by t.did) o.frames t.sent.each out.frames
            (sent_numbered out.choice)));
        nodes = ap ids_of t.took.others
            ∙ map-set_same (λ (s : SimNode D g). s.id) sims t.took.index sim sim
            (t.took.id ∙ sym was) ∙ made.nodes;
        disks = with_disk made.disks x own;
        follow = all_follow event out.choice o x out.node made.disks own out.came follow;
        few = few_more g made.disks x own (length events) i next.at made.few
            (at_most_one (junk_of event.kind) event.fault out.choice.struck t.did (made.disks x)
            sim.state left may);
        unarmed = none_armed g made.disks x own made.unarmed
            (t.took.dispatched.forgets honest
            (λ _. subst (λ (d : D). IsUnarmed g d) (sym slots) (made.unarmed x)));
        each = subst (λ (l : List (SimNode D g)). All (SimNodeRefines (state_after cs w
            (modelled i event.kind out.choice)).nodes (with_disk made.disks x own)) l)
            (sym t.took.others)
            (All-from_recursion (SimNodeRefines (after w o).nodes (with_disk made.disks x own))
            (slice_set sims t.took.index sim)
            (refined_at g w made.disks o x out.node own out.came sims t.took.index sim
            t.took.at.within
            (subst (λ (c : List ℕ). AllDifferent c) (sym made.nodes) made.lawful.different)
            was id out.is refl all));
      })
      in record {
        choice = out.choice;
        lost_so = out.arrives;
        arrives = λ loses_not. record {
          whole = out.arrives;
          replies = subst (λ (l : List Bool). All (λ b. b ≡ true) l) (sym out.heard_so)
              (heard.all loses_not);
        };
        ran = came;
        nodes = followed out.choice now
            (subst (λ (a : Option (ℕ × Machine)). NodesFollow a event out.choice o sims now)
            (sym out.came)
            (record {
              index = t.took.index;
              at = t.took.at;
              sim = sim;
              others = t.took.others;
              id = t.took.id;
              disk = subst (λ (d : D). DiskFollows g event
                  out.choice o
                  out.node d own) (sym slots) follow;
              stops = λ junk is own runs.
                  let stop = subst (λ (k : EventKind). IsDeliveryOf cs w.frames i k x node_input)
                  is brings in
                  crash_of junk own old.state sim.state honest runs
                  (subst (λ (k : NodeInput). StateFollows g.is_honest g.state g.failures g.past
                  old.state k sim.state) stop.1 t.took.dispatched.follows);
              tends = λ is.
                  let turn = subst (λ (k : EventKind). IsDeliveryOf cs w.frames i k x node_input)
                  is brings in
                  tended_so event.fault struck x (w.nodes x) old.state sim.state t.did out.choice
                  before
                  (subst (λ (k : NodeInput). OutcomeRefines g.is_honest g.state event.fault struck x
                  (w.nodes x) k old.state sim.state t.did) turn.1
                  (t.took.dispatched.refines x (w.nodes x) before)) out.told out.risen;
            }));
        frames = behind (λ (k : ℕ) (v : Outcome Edits). FramesFollow v.acted_on posted more)
            out.choice (subst (λ (a : Option (ℕ × Machine)). FramesFollow a posted more)
            (sym out.came) (frames_of x out.node posted more (sent_by t.did) t.sent));
        sent = behind (λ (k : ℕ) (v : Outcome Edits).
            transmissions_of posted k event out.choice v
            ≡ frame_sent posted i event.kind (unless_lost false) ++ replies_sent x heard.told given)
            out.choice (sent_by_both posted i event out.choice o x out.node false heard.told given
            out.arrives out.came out.heard_so gives_posted);
      }

  -- an event that the model has as nothing, with this line
  nothing_next : (loses : Type 0) (lost : Bool) (line : Line) →
      (let choice = at_rest lost in
      outcome w cs (modelled i event.kind choice) ≡ nothing) →
      (line ∷ [] ≡ reported_lines (length w.frames) event (at_rest lost) nothing) →
      frames_in line ≡ 0 → (lost ≡ true → loses) →
      (lost ≡ true → MayBeLost w.frames event.kind) →
      Grows loses lost sims posted (frame_sent posted i event.kind (unless_lost lost)) (line ∷ [])
  nothing_next loses lost line none traced silent may fits =
      let choice = at_rest lost in
      let same : after w nothing ≡ state_after cs w (modelled i event.kind choice) =
      ap (after w) (sym none) in
      let idle = ap (λ (o : Outcome Edits). o.acted_on) none in
      let came = grown past sims posted made i event choice sims posted
      (line ∷ []) next.at (record {
        traced = traced ∙ ap (reported_lines (length w.frames) event choice) (sym none);
        fits = record {
          cause = λ stops. absurd (false≢true
              (ap (λ (o : Outcome Edits). o.stopped) (sym none) ∙ stops));
          struck = λ strikes. absurd (false≢true strikes);
          tends = no_rise event.kind choice
              (outcome w cs (modelled i event.kind choice)) (refl, refl);
          lost = fits;
          told = ap (λ (o : Outcome Edits). reply_count
              (lines_of_event (length w.frames) event choice o)) (sym none);
        };
        counted = omega (arith, silent)
            ∙ ap (λ (o : Outcome Edits). length o.frames) (sym none);
        frames = subst (λ (v : SystemState Edits). AllZip PostedRefines posted v.frames) same
            (subst (λ (l : List (ModelFrame Edits)). AllZip PostedRefines posted l)
            (sym (append-nil w.frames)) made.frames);
        nodes = made.nodes;
        disks = made.disks;
        follow = none_follow event choice (outcome w cs (modelled i event.kind choice)) made.disks
            idle;
        few = λ x. omega (arith, made.few x, next.at);
        unarmed = made.unarmed;
        each = subst (λ (v : SystemState Edits). All (SimNodeRefines v.nodes made.disks)
            sims) same
            made.each;
      })
      in record {
        choice = choice;
        lost_so = refl;
        arrives = λ loses_not. record {
          whole = not_lost lost (λ is. loses_not (may is));
          replies = All-from_recursion (λ (b : Bool). b ≡ true) [] tt;
        };
        ran = came;
        nodes = followed choice sims (subst (λ (a : Option (ℕ × Machine)).
            NodesFollow a event choice (outcome w cs (modelled i event.kind choice)) sims sims)
            (sym idle) refl);
        frames = behind (λ (k : ℕ) (o : Outcome Edits).
            FramesFollow o.acted_on posted posted) choice
            (subst (λ (a : Option (ℕ × Machine)). FramesFollow a posted posted) (sym idle) refl);
        sent = behind (λ (k : ℕ) (o : Outcome Edits).
            transmissions_of posted k event choice o ≡ frame_sent posted i event.kind (unless_lost
            lost)) choice
            (sent_alone posted i event choice (outcome w cs (modelled i event.kind choice)) idle);
      }

  -- the same, by what became of an event on its way
  module _ (loses : Type 0) (found : Delivery) (fits : FitsDelivery cs posted i event.kind found)
    where
      -- no frame has the place, or no configuration the epoch
      pub nothing_after : found ≡ delivery.Nothing → Grows loses false sims posted
          (frame_sent posted i event.kind (unless_lost false)) (line.Nothing ∷ [])
      nothing_after is =
          nothing_next loses false line.Nothing
          (nothing_done cs w i event.kind (at_rest false)
          (subst (IsDeliverable cs w.frames i event.kind) is (fits w.frames made.frames)))
          refl refl (λ lost. absurd (false≢true lost)) (λ lost. absurd (false≢true lost))

      -- it was lost
      pub lost_after : found ≡ delivery.Lost → loses → Grows loses true sims posted
          (frame_sent posted i event.kind (unless_lost true)) (line.Lost ∷ [])
      lost_after is may =
          nothing_next loses true line.Lost refl refl refl (λ _. may)
          (λ _. subst (IsDeliverable cs w.frames i event.kind) is (fits w.frames made.frames))

      module _ (x : ℕ) (node_input : NodeInput) (is : found ≡ delivery.To x node_input) where
        brings : IsDeliveryOf cs w.frames i event.kind x node_input
        brings = subst (IsDeliverable cs w.frames i event.kind) is (fits w.frames made.frames)

        pub node_after : NamesNode cs event.kind → HasNoNode sims x → ⊥
        node_after names none = has_its_node x node_input names brings none

        pub refined_after : (asks : List Transmission → Type 0) (limits : Limits)
            (given lines : List Line) (now : List (SimNode D g)) (more : List Posted) →
            HasStepped sims posted x node_input event limits given now more →
            (heard : RepliesArrive loses asks x given lines) → Grows loses false now more
            (frame_sent posted i event.kind (unless_lost false) ++ replies_sent x heard.told given)
            lines
        refined_after asks limits given lines now more t heard =
            refined_next loses asks x node_input limits given lines now more brings t heard
