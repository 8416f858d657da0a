-- The node of an engine that was opened.
use Rattle.std.proofs.Common.{◌≡◌, ℕ}
use Rattle.std.proofs.Common.{inl, inr}
use Rattle.std.proofs.Common.{sym, ap, subst}
use Rattle.std.specs.Prelude.{Result, Ok, Err, IfOk, IfErr, IsErrAnd}
use Rattle.disk.specs.declared.Disk.{Ghosts}
use Rattle.disk.specs.{Contents, IsEnvironmental}
use Rattle.engine.specs.declared.Engine.{Engine}
use Rattle.engine.specs.{EngineHolds, Facts}
use Rattle.engine.specs.{OpensAs, SparesFound, facts_of, look_ups}
use Rattle.chain_model.specs.{started}
use Rattle.chain_core.specs.{Machine, CoreRefines}
use Rattle.node.specs.declared.node.Node.{Node}
use Rattle.node.specs.declared.stop.Stop.{Stop}
use Rattle.node.specs.declared.stop.Stop.TheVariants as stop
use Rattle.node.specs.Steps.{NodeRefines}
use Rattle.node.specs.Starts.{BeginsAs, ExplainsStart, RunsOpened, StartRefusal}
use Rattle.node.specs.Steps.{HasNumbersOf, facts_for}

module _ {D : Type 0} (g : Ghosts D) where
  -- the node of an engine that was opened, which holds the machine's list
  pub runs_opened : (node : Node D g) (x : ℕ) (n : Machine) →
      EngineHolds g node.engine n.list → facts_of node.engine ≡ facts_for x n →
      CoreRefines node.core (started x n) → node.core.id ≡ x →
      NodeRefines g.is_honest g.state node x (started x n)
  runs_opened node x n holds facts is id = record {
    honest = holds.reads.honest;
    store = holds;
    facts = facts;
    core = is;
    id = id;
  }

  -- the numbers of an engine are those of a machine with its facts and its list
  pub numbers_of : (engine : Engine D g) (x : ℕ) (n : Machine) → EngineHolds g engine n.list →
      facts_of engine ≡ facts_for x n → HasNumbersOf (look_ups engine) n
  numbers_of engine x n holds facts = record {
    epoch = sym (ap (λ (f : Facts). f.epoch) facts);
    count = sym holds.reads.count;
    floor = sym (ap (λ (f : Facts). f.floor) facts);
    kept = sym (ap (λ (f : Facts). f.kept) facts);
  }

  -- the node runs, or the disk is returned for want of memory
  pub started_or_memory : (engine : Engine D g) (result : Result (Node D g) (Stop × D)) (x : ℕ)
      (n : Machine) → EngineHolds g engine n.list → facts_of engine ≡ facts_for x n →
      IfOk result (RunsOpened g engine) → IfErr result (λ refused. refused.0 ≡ stop.Memory) →
      BeginsAs x (started x n) result
  started_or_memory engine (Ok node) x n holds facts opened memory = opened.runs x n holds facts
  started_or_memory engine (Err refused) x n holds facts opened memory = inr memory

  -- so it was not refused for the files
  pub never_for_files : (result : Result (Node D g) (Stop × D)) →
      IfErr result (λ refused. refused.0 ≡ stop.Memory) →
      IsErrAnd result (λ refused. IsEnvironmental stop.Disk stop.Memory refused.0 → ⊥) → ⊥
  never_for_files (Ok node) memory other = other
  never_for_files (Err refused) memory other = other (inr memory)

  -- nor for the device
  pub never_for_disk : (result : Result (Node D g) (Stop × D)) →
      IfErr result (λ refused. refused.0 ≡ stop.Memory) →
      IsErrAnd result (λ refused. refused.0 ≡ stop.Disk) → ⊥
  never_for_disk (Ok node) memory other = other
  never_for_disk (Err refused) memory other = cc

  -- what is left where one cause holds is left where another holds only with it
  pub spares_as : (old new : D) {cause other : Type 0} → SparesFound g old new cause →
      (other → cause) → SparesFound g old new other
  spares_as old new spares same = record {
    shut = λ h. elim h [
      | inl shut ↦ spares.shut (inl shut)
      | inr is ↦ spares.shut (inr (same is))
    ];
    named = spares.named;
  }

  -- the files open as what the running node's store tells
  pub started_from : (result : Result (Node D g) (Stop × D)) (left : Contents)
      (engine : Engine D g) → OpensAs left (facts_of engine) (look_ups engine).count →
      IfOk result (RunsOpened g engine) → IfErr result (λ refused. refused.0 ≡ stop.Memory) →
      ExplainsStart left result
  started_from (Ok node) left engine opens opened memory =
      subst (λ (k : ℕ). OpensAs left (facts_of node.engine) k) (sym opened.count)
      (subst (λ (f : Facts). OpensAs left f (look_ups engine).count) (sym opened.facts) opens)
  started_from (Err refused) left engine opens opened memory =
      subst (λ (e : Stop). StartRefusal e left) (sym memory) tt
