-- A running node after its store's part, and what its disk leaves.
use Rattle.std.proofs.Common.{◌≡◌, ℕ, List, [], ◌∷◌, ◌++◌, inl}
use Rattle.std.proofs.Common.{inr}
use Rattle.std.proofs.Common.{refl, sym, ap, subst, ◌∙◌}
use Rattle.std.specs.Prelude.{◌⊎◌, ◌↔◌, IfErr, IsErrOf, Result, Ok, Err, OnOk}
use Rattle.kv_types.specs.{BatchContent, Edits}
use Rattle.disk.specs.declared.Disk.{Ghosts}
use Rattle.disk.specs.{AlwaysLeaves, Contents, IsCrashOutcome, IsSame, IsStill, KeepsDisk, State}
use Rattle.disk.specs.MomentsLemmas.{join, weaker}
use Rattle.disk.specs.StillLemmas.{still, still_more}
use Rattle.engine.specs.EngineError.TheVariants as engine
use Rattle.engine.specs.declared.Engine.{Engine}
use Rattle.engine.specs.EngineError.{EngineError}
use Rattle.engine.specs.{EngineHolds, Facts, FilesRepresent, HasEnded, IsOneOf}
use Rattle.engine.specs.{IsNearlyFull, IsOwned}
use Rattle.engine.specs.{KeepsEngine, LookUps, engine_disk, facts_of, look_ups}
use Rattle.disk.specs.KeepingLemmas.{kept_as, kept_behind, kept_but, neither, same_files}
use Rattle.disk.specs.KeepingLemmas.{same_then_same}
use Rattle.disk.specs.KeepingLemmas.{unchanged}
use Rattle.chain_model.specs.{Answer}
use Rattle.chain_core.specs.declared.Done.{Done}
use Rattle.chain_core.specs.{Machine, Core, CoreRefines, StepLeaves}
use Rattle.chain_core.specs.{list_after}
use Rattle.node.specs.declared.stop.Stop.TheVariants as stop
use Rattle.node.specs.declared.node.Node.{Node}
use Rattle.node.specs.Steps.{DiskRefines, NodeRefines, DiskAlwaysRefines, disk_of}
use Rattle.node.specs.Steps.{IsReady, facts_for}
use Rattle.node.specs.declared.stop.Stop.{Stop}
use Rattle.node.specs.Stops.{EndsCreated}
use Rattle.node.specs.Outputs.{AlwaysRefines, CallRefines, HasAppended, IsOnlyRead, KeepsNode}
use Rattle.node.proofs.Causes.{done_told}
use Rattle.node.proofs.Counts.{appended_config, appended_list, list_is, same_facts}

module _ {D : Type 0} (g : Ghosts D) where
  -- every crash outcome of its disk represents the node
  pub rests : (node : Node D g) (x : ℕ) (n : Machine) →
      NodeRefines g.is_honest g.state node x n → DiskAlwaysRefines (g.state (disk_of node)) x n
  rests node x n r left leaves =
      subst (λ (f : Facts). FilesRepresent f n.list left) r.facts (r.store.crash left leaves)

  -- calls that leave nothing new leave its disk
  pub still_refines : (old : Node D g) (new : D) (x : ℕ) (n m : Machine) →
      NodeRefines g.is_honest g.state old x n → AlwaysLeaves g (disk_of old) new
      (IsCrashOutcome (g.state (disk_of old))) → AlwaysRefines g (disk_of old) new x n m
  still_refines old new x n m r run =
      weaker (IsCrashOutcome (g.state (disk_of old)))
      (λ left. DiskRefines left x n ⊎ DiskRefines left x m) (g.state (disk_of old))
      (g.past (disk_of old)) (g.state new) (g.past new)
      (λ left leaves. inl (rests old x n r left leaves)) run

  -- no call leaves it
  pub at_rest : (old : Node D g) (x : ℕ) (n m : Machine) →
      NodeRefines g.is_honest g.state old x n → AlwaysRefines g (disk_of old) (disk_of old) x n m
  at_rest old x n m r =
      still_refines old (disk_of old) x n m r
      (still (g.state (disk_of old)) (g.past (disk_of old)))

  -- a call that leaves these facts and this list, or the old ones, leaves it before or after
  pub changes : (old : Node D g) (new : D) (x : ℕ) (n m : Machine) (facts : Facts)
      (list : List BatchContent) → facts ≡ facts_for x m → list ≡ m.list →
      NodeRefines g.is_honest g.state old x n →
      AlwaysLeaves g (disk_of old) new (IsOneOf (facts_of old.engine) n.list facts list) →
      AlwaysRefines g (disk_of old) new x n m
  changes old new x n m facts list facts_are list_is r run =
      weaker (IsOneOf (facts_of old.engine) n.list facts list)
      (λ left. DiskRefines left x n ⊎ DiskRefines left x m) (g.state (disk_of old))
      (g.past (disk_of old)) (g.state new) (g.past new) one_of run
    where
      one_of : (left : Contents) → IsOneOf (facts_of old.engine) n.list facts list left →
          DiskRefines left x n ⊎ DiskRefines left x m
      one_of left (inl it) =
          inl (subst (λ (f : Facts). FilesRepresent f n.list left) r.facts it)
      one_of left (inr it) =
          inr (subst (λ (l : List BatchContent). FilesRepresent (facts_for x m) l left) list_is
          (subst (λ (f : Facts). FilesRepresent f list left) facts_are it))

  -- an append leaves it before or after
  pub appends : (old : Node D g) (new : D) (x : ℕ) (n : Machine) (batch : BatchContent) (d : Done)
      (a : Answer Edits) → StepLeaves x n batch d a → HasAppended d →
      NodeRefines g.is_honest g.state old x n →
      AlwaysLeaves g (disk_of old) new (IsOneOf (facts_of old.engine) n.list (facts_of old.engine)
      (n.list ++ batch ∷ [])) → AlwaysRefines g (disk_of old) new x n a.node
  appends old new x n batch d a leaves has r =
      changes old new x n a.node (facts_of old.engine) (n.list ++ batch ∷ [])
      (r.facts ∙ sym (same_facts x n batch d a (appended_config d has) leaves))
      (sym (list_is x n batch d a leaves has)) r

  -- a node whose engine holds what it held runs on
  pub still_runs : (old new : Node D g) (x : ℕ) (n : Machine) →
      NodeRefines g.is_honest g.state old x n → EngineHolds g new.engine n.list →
      facts_of new.engine ≡ facts_of old.engine → new.core ≡ old.core →
      NodeRefines g.is_honest g.state new x n
  still_runs old new x n r holds facts same = record {
    honest = holds.reads.honest;
    store = holds;
    facts = facts ∙ r.facts;
    core = subst (λ (k : Core). CoreRefines k n) (sym same) r.core;
    id = ap (λ (k : Core). k.id) same ∙ r.id;
  }

  -- a node that did its store's part runs as the machine after the rule
  pub goes_on : (old new : Node D g) (x : ℕ) (n : Machine) (batch : BatchContent) (d : Done)
      (a : Answer Edits) → StepLeaves x n batch d a →
      NodeRefines g.is_honest g.state old x n → EngineHolds g new.engine (list_after n batch d) →
      facts_of new.engine ≡ facts_for x a.node → CoreRefines new.core a.node →
      new.core.id ≡ x → NodeRefines g.is_honest g.state new x a.node
  goes_on old new x n batch d a leaves r holds facts is id = record {
    honest = holds.reads.honest;
    store = subst (λ (l : List BatchContent). EngineHolds g new.engine l) (sym leaves.list) holds;
    facts = facts;
    core = is;
    id = id;
  }

  -- an engine with one batch more holds what the step leaves
  pub list_after_is : (engine : Engine D g) (n : Machine) (batch : BatchContent) (d : Done) →
      HasAppended d → EngineHolds g engine (n.list ++ batch ∷ []) →
      EngineHolds g engine (list_after n batch d)
  list_after_is engine n batch d has holds =
      subst (λ (l : List BatchContent). EngineHolds g engine l) (sym (appended_list n batch d has))
      holds

  -- what is kept of a disk is kept of the same disk
  pub kept_on : {failed cause : Type 0} {R : State → State → Type 0} {old new same : D} →
      new ≡ same → KeepsDisk g old new failed cause R → KeepsDisk g old same failed cause R
  kept_on {failed = failed} {cause = cause} {R = R} {old = old} is kept =
      subst (λ (d : D). KeepsDisk g old d failed cause R) is kept

  -- ---- what calls keep

  -- a call that leaves the disk as it is keeps it
  pub keeps_same : {T cause : Type 0} (old new : D) (result : Result T Stop) → new ≡ old →
      (IsErrOf result stop.Disk → ⊥) → KeepsDisk g old new (IsErrOf result stop.Disk) cause IsOwned
  keeps_same old new result same spared =
      kept_on (sym same)
      (kept_as g (neither (λ none. none) spared) (λ a b kept. tt)
      (unchanged g {R = IsSame} same_files))

  -- an engine that was not read yet
  pub unread : {T : Type 0} (engine : Engine D g) (x : T) → (HasEnded engine → ⊥) →
      IsOnlyRead g engine engine (Ok x)
  unread engine x works = record {
    keeps = kept_as g (neither (λ none. none) done_told) (λ a b same. same)
        (unchanged g {R = IsSame} same_files);
    told = refl;
    works = works;
    still = λ honest. still (g.state (engine_disk engine)) (g.past (engine_disk engine));
  }

  -- another step can follow an answer
  pub ready_after : {T : Type 0} (old new : Node D g) (result : Result T Stop) → IsReady old →
      look_ups new.engine ≡ look_ups old.engine → new.core ≡ old.core →
      OnOk result (HasEnded new.engine → ⊥) → OnOk result (IsReady new)
  ready_after old new (Ok x) ready told same works = record {
    works = works;
    id = ap (λ (k : Core). k.id) same ∙ ready.id
        ∙ sym (ap (λ (l : LookUps). l.facts.id) told);
    epoch = ap (λ (k : Core). k.epoch) same ∙ ready.epoch
        ∙ sym (ap (λ (l : LookUps). l.facts.epoch) told);
    ids = ap (λ (k : Core). k.ids) same ∙ ready.ids
        ∙ sym (ap (λ (l : LookUps). l.facts.ids) told);
    count = ap (λ (k : Core). k.count) same ∙ ready.count
        ∙ sym (ap (λ (l : LookUps). l.count) told);
    floor = ap (λ (k : Core). k.floor) same ∙ ready.floor
        ∙ sym (ap (λ (l : LookUps). l.facts.floor) told);
    kept = ap (λ (k : Core). k.kept) same ∙ ready.kept
        ∙ sym (ap (λ (l : LookUps). l.facts.kept) told);
    committed = ap (λ (k : Core). k.committed) same ∙ ready.committed
        ∙ sym (ap (λ (l : LookUps). l.committed) told);
    snapshots = ap (λ (k : Core). k.snapshots) same ∙ ready.snapshots
        ∙ sym (ap (λ (l : LookUps). l.snapshots) told);
  }
  ready_after old new (Err e) ready told same works = tt

  -- a node whose engine was only read is kept
  pub kept_read : {T U : Type 0} (old new : Node D g) (called : Result T Stop)
      (result : Result U Stop) → IsReady old → IsOnlyRead g old.engine new.engine called →
      new.core ≡ old.core → (IsErrOf called stop.Disk ↔ IsErrOf result stop.Disk) →
      OnOk result (HasEnded new.engine → ⊥) → IfErr result EndsCreated → KeepsNode g old new result
  kept_read old new called result ready read same fails works causes = record {
    disk = kept_but g (λ none. absurd none) (kept_as g fails (λ a b same. tt) read.keeps);
    works = ready_after old new result ready read.told same works;
    limits = ap (λ (l : LookUps). l.limits) read.told;
    causes = causes;
  }

  -- an engine that is read once more
  pub read_more : {S T U : Type 0} {x : S} (old mid new : Engine D g)
      (called : Result T EngineError) (result : Result U Stop) → IsOnlyRead g old mid (Ok x) →
      KeepsEngine g mid new called ⊥ IsSame → look_ups new ≡ look_ups mid →
      IsStill g (engine_disk mid) (engine_disk new) →
      (IsErrOf called engine.Disk ↔ IsErrOf result stop.Disk) →
      OnOk result (HasEnded new → ⊥) → IsOnlyRead g old new result
  read_more old mid new called result before keeps told leaves fails works = record {
    keeps = kept_behind g same_then_same before.keeps done_told
        (kept_as g fails (λ a b same. same) keeps.disk);
    told = told ∙ before.told;
    works = works;
    still = λ honest. still_more (before.still honest) (leaves (before.keeps.honest.1 honest));
  }

  -- ---- a step behind a read of the store

  -- a node that is kept behind it is kept
  pub kept_after_read : {S T : Type 0} {x : S} (old mid new : Node D g) (result : Result T Stop) →
      IsOnlyRead g old.engine mid.engine (Ok x) →
      (IsNearlyFull mid.engine → IsNearlyFull old.engine) → KeepsNode g mid new result →
      KeepsNode g old new result
  kept_after_read old mid new result read full kept = record {
    disk = kept_behind g (λ a b c first second. tt) read.keeps done_told
        (kept_but g full kept.disk);
    works = kept.works;
    limits = kept.limits ∙ ap (λ (l : LookUps). l.limits) read.told;
    causes = kept.causes;
  }

  -- a step that is ended as the machine ends it behind the read is so from before it on
  pub ends_after_read : {T : Type 0} (old mid new : Node D g) (x : ℕ) (n : Machine)
      (a : Answer Edits) (IsDone : T → Type 0) (result : Result T Stop) →
      NodeRefines g.is_honest g.state old x n → IsStill g (disk_of old) (disk_of mid) →
      CallRefines g mid new x n a IsDone result → CallRefines g old new x n a IsDone result
  ends_after_read old mid new x n a IsDone result r leaves ends = record {
    done = ends.done;
    honest = ends.honest;
    any_moment = join (λ left. DiskRefines left x n ⊎ DiskRefines left x a.node)
        (g.state (disk_of old)) (g.state (disk_of mid)) (g.state (disk_of new))
        (g.past (disk_of old)) (g.past (disk_of mid)) (g.past (disk_of new))
        (still_refines old (disk_of mid) x n a.node r (leaves r.honest)) ends.any_moment;
  }
