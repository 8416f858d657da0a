-- A run of the model has one history; so have a report of it, and a world that goes on.
use Rattle.std.proofs.Common.{◌≡◌, ℕ, List, true, sym, subst, ◌∙◌}
use Rattle.std.specs.Prelude.{All, IfOk, Result, Ok, Err}
use Rattle.std.specs.List.{AllZip, flat_map}
use Rattle.std.proofs.lemmas.List.Elements.{All-weaker, recursion_from_All}
use Rattle.kv_types.specs.declared.Limits.{Limits}
use Rattle.kv_types.specs.{Edits, IsPrefix, has}
use Rattle.kv_types.specs.Pages.{PagesAgree}
use Rattle.disk.specs.{Slots}
use Rattle.configurations.specs.{Configurations, last_of}
use Rattle.chain_model.specs.{ExactlyOnce, ResponseAgrees, OneList, batches}
use Rattle.chain_model.specs.{RunIsOutcomes, Response, Outcome, submitted}
use Rattle.chain_model.specs.{SystemEvent as ModelEvent}
use Rattle.chain_model.specs.{outcomes, first_state, reached, node_of}
use Rattle.chain_core.specs.{Machine}
use Rattle.disk.specs.declared.Disk.{Ghosts}
use Rattle.node.specs.declared.Node.{Node}
use Rattle.node.specs.{NodeRefines, DiskAlwaysRefines, disk_of}
use Rattle.events.specs.declared.EventContent.{EventContent}
use Rattle.lab.specs.declared.node_state.NodeState.{NodeState}
use Rattle.lab.specs.declared.node_state.NodeState.TheVariants.{Up, Down}
use Rattle.lab.specs.declared.delivery.Posted.{Posted}
use Rattle.lab.specs.declared.report.Line.{Line}
use Rattle.lab.specs.declared.report.NodeReport.{NodeReport}
use Rattle.lab.specs.declared.report.Report.{Report}
use Rattle.lab.specs.declared.sim_node.SimNode.{SimNode}
use Rattle.lab.specs.Disks.{HaveDisks, IsDiskOf}
use Rattle.lab.specs.Freshness.{NodesKeepEnough, ReadsAreFresh}
use Rattle.lab.specs.History.{HasAll, IsHistory, LineAgrees}
use Rattle.lab.specs.SimNodes.{Arrives, Choice, IsUnarmed, StateRefines, disk_in, in_memory}
use Rattle.lab.specs.SimNodes.{state}
use Rattle.lab.specs.Runs.{IsRun, IsRunOver, RunningRefines}
use Rattle.lab.specs.Traces.{modelled_from, IsTrace}
use Rattle.lab.specs.Worlds.{AreLeft, AreNodesAfter, AreReportsAfter, HasRun, IsLeft, IsReportOf}
use Rattle.lab.specs.Worlds.{MemNode, MemWorld, RunRefines, SimNodeRefines, WorldHasLimits}
use Rattle.lab.specs.Worlds.{WorldRun, direct_carrier}
use Rattle.lab.proofs.Acknowledged.{all_named}
use Rattle.lab.proofs.Histories.{numbered_same, submitted_part, all_agree}
use Rattle.lab.proofs.Submits.{all_ordered, all_submitted, part_of_part, submitted_from}
use Rattle.lab.proofs.Nodes.{reported_ids}

-- the model's one list is that of the lines and of the disks
pub one_of : {D N : Type 0} (g : Ghosts D) (id : N → ℕ) (disk : N → D)
    (cs : Configurations) (events : List EventContent) (choices : List Choice)
    (steps : List (List Line))
    (nodes : List N) → IsTrace cs events choices steps →
    HaveDisks g id disk cs events choices nodes →
    (one : OneList cs (modelled_from 1 events choices)) →
    ExactlyOnce cs (modelled_from 1 events choices) one.B →
    RunIsOutcomes cs (modelled_from 1 events choices) → PagesAgree →
    IsHistory g.state id disk cs events steps nodes
one_of g id disk cs events choices steps nodes trace disks one once made pages =
    let es = modelled_from 1 events choices in
    let same = numbered_same 1 events choices in
    let asked = submitted 1 es in
    let agrees = subst (λ (l : List (ModelEvent Edits)). All (ResponseAgrees asked one.B)
    (reached cs l).replies) same one.agrees in
    let joined = flat_map (λ (o : Outcome Edits). o.replies)
    (outcomes cs es (first_state cs))
    in
    let replies = recursion_from_All (ResponseAgrees asked one.B) joined
    (subst (λ (l : List (Response Edits)). All (ResponseAgrees asked one.B) l) made.replies agrees)
    in
    let begins = subst (λ (l : List (ModelEvent Edits)). (x : ℕ) → has (last_of cs) x ≡ true
    → IsPrefix (batches one.B) (node_of cs l x).list) same one.stands in
    let asked_part = submitted_part 1 events choices trace.one_each in
    let part = part_of_part one.B asked (submitted_from 1 events) one.taken asked_part in
    let lines_agree = subst (λ (l : List (List Line)).
    AllZip (λ event lines. All (LineAgrees events one.B event.kind) lines) events l)
    (sym trace.traced)
    (all_agree pages events asked asked_part one.B cs 1 events choices (first_state cs)
    trace.one_each replies) in
    let were_submitted = all_submitted one.B events part in
    record {
      B = one.B;
      clients = record {
        submitted = were_submitted;
        ordered = all_ordered one.B events part;
        agrees = lines_agree;
        once = once.once;
        named = all_named events one.B were_submitted events steps lines_agree;
      };
      disks = All-weaker
          (λ node. IsDiskOf g.state (id node) (node_of cs es (id node)) (disk node)
          (disks.disks (id node)))
          (λ node. has (last_of cs) (id node) ≡ true → HasAll one.B (id node) (g.state (disk node)))
          (λ node own last. λ after now. (
            (node_of cs es (id node)).epoch,
            (node_of cs es (id node)).ids,
            (node_of cs es (id node)).list,
            (node_of cs es (id node)).floor,
            (node_of cs es (id node)).kept,
            own.stands after now,
            begins (id node) last,
          )) nodes disks.each;
    }

-- the disk of a node represents its machine, up or down, where that of each node that is up does
pub disk_represents : {D : Type 0} {g : Ghosts D} → ((node : Node D g) (x : ℕ) (n : Machine) →
    NodeRefines g.is_honest g.state node x n → DiskAlwaysRefines (g.state (disk_of node)) x n) →
    (new : NodeState D g) (x : ℕ) (n : Machine) → StateRefines g.is_honest g.state new x n →
    DiskAlwaysRefines (g.state (disk_in new)) x n
disk_represents law (Up node) x n is = law node.value x n is
disk_represents law (Down disk) x n is = is.1

module _ {D : Type 0} {g : Ghosts D} (sims : List (SimNode D g)) (posted : List Posted)
    (past : WorldRun)
    (made : RunRefines sims posted past) where
  abbrev cs : Configurations
  cs = past.configs

  abbrev events : List EventContent
  events = past.events

  abbrev choices : List Choice
  choices = past.choices

  -- no disk of its nodes has a fault
  pub unarmed_so_far : All (λ (sim : SimNode D g). IsUnarmed g (disk_in sim.state)) sims
  unarmed_so_far =
      All-weaker (SimNodeRefines (node_of cs (modelled_from 1 events choices)) made.disks)
      (λ sim. IsUnarmed g (disk_in sim.state))
      (λ sim refined_at. subst (λ (d : D). IsUnarmed g d) (sym refined_at.disk)
      (made.unarmed sim.id)) sims made.each

  -- and the disks of its nodes are those that its run left so far
  pub disks_so_far : ((sim : SimNode D g) (x : ℕ) (n : Machine) →
      StateRefines g.is_honest g.state sim.state x n →
      DiskAlwaysRefines (g.state (disk_in sim.state)) x n) →
      HaveDisks g (λ (sim : SimNode D g). sim.id)
      (λ (sim : SimNode D g). disk_in sim.state) cs
      events choices sims
  disks_so_far law =
      let machines = node_of cs (modelled_from 1 events choices) in
      record {
        ids = made.nodes;
        disks = made.disks;
        after = made.after;
        each = All-weaker (SimNodeRefines machines made.disks)
            (λ sim. IsDiskOf g.state sim.id (machines sim.id) (disk_in sim.state)
            (made.disks sim.id))
            (λ sim refined_at. record {
              same = refined_at.disk;
              stands = law sim sim.id (machines sim.id) refined_at.is;
            }) sims made.each;
      }

module _ (sims : List MemNode) (posted : List Posted) (past : WorldRun)
    (made : RunRefines sims posted past) where
  -- what is left of a world's nodes is a run
  pub run_left : (loses : Type 0) → Arrives loses past.choices → (report : Report) →
      report.steps.items ≡ past.steps →
      AreLeft sims report.nodes.items → ReadsAreFresh past.configs past.events past.choices
      past.steps →
      NodesKeepEnough past.configs past.events past.choices →
      IsRunOver loses past.configs past.events past.choices report
  run_left loses arrives report same left fresh enough =
      let nodes = report.nodes.items in
      let machines = node_of past.configs (modelled_from 1 past.events past.choices) in
      let each = left.each machines made.disks made.each in
      let Left : NodeReport → Type 0 = λ n. IsLeft (machines n.id) (made.disks n.id) n in
      record {
        trace = subst (λ (l : List (List Line)). IsTrace past.configs past.events past.choices l)
            (sym same)
            made.trace;
        arrives = arrives;
        disks = record {
          ids = reported_ids sims nodes left.own ∙ made.nodes;
          disks = made.disks;
          after = made.after;
          each = All-weaker Left
              (λ n. IsDiskOf state n.id (machines n.id) n.disk (made.disks n.id))
              (λ n left. left.disk) nodes each;
        };
        reliable = λ disk few. few;
        unarmed = All-weaker Left (λ n. IsUnarmed in_memory n.disk)
            (λ n left. subst (λ (d : Slots). IsUnarmed in_memory d) (sym left.disk.same)
            (made.unarmed n.id)) nodes each;
        numbers = All-weaker Left (λ n. RunningRefines n.running (machines n.id))
            (λ n left. left.numbers)
            nodes each;
        fresh = subst (λ (l : List (List Line)). ReadsAreFresh past.configs past.events past.choices
            l) (sym same)
            fresh;
        enough = enough;
      }

-- a report of a world that has run these events is of the nodes that they left, with its limits
pub reported_run : {E : Type 0} (world : MemWorld) (limits : Limits) (past : WorldRun) →
    HasRun direct_carrier world past → WorldHasLimits world limits → (result : Result Report E) →
    IfOk result (IsRun past.configs past.events past.choices) →
    IfOk result (λ report. AllZip IsReportOf world.nodes.items report.nodes.items) →
    IfOk result (λ report. (choices : List Choice) × IsRun past.configs past.events choices report
    × AreReportsAfter past.configs limits past.events choices report.nodes.items)
reported_run world limits past run has (Ok report) is own = (
  past.choices,
  is,
  record {
    sims = world.nodes.items;
    after = subst (λ (own : Limits). AreNodesAfter past.configs own past.events past.choices
        world.nodes.items) has.given run.came;
    own = own;
  },
)
reported_run world limits past run has (Err e) is own = tt
