-- A step that opens or closes a snapshot, in the store and in the node's state, or changes only
-- which requests are pending.
use Rattle.std.proofs.Common.{◌≡◌, ℕ, List, ap, inr, sym, subst, ◌∙◌}
use Rattle.std.specs.Prelude.{Result, IfOk, IsErrAnd}
use Rattle.std.specs.declared.alloc.AllocError.{AllocError}
use Rattle.std.proofs.lemmas.Result.{err_from_is_err_and}
use Rattle.kv_types.specs.{BatchContent, Edits}
use Rattle.disk.specs.declared.Disk.{Ghosts}
use Rattle.chain_model.specs.{Answer, Response}
use Rattle.chain_core.specs.declared.Done.{Done}
use Rattle.chain_core.specs.declared.Input.{Input}
use Rattle.chain_core.specs as core
use Rattle.chain_core.specs.{CoreRefines, Machine, StepsLeave, done_of, list_after, snapshots_after}
use Rattle.engine.specs.{EngineHolds, HasEnded, LookUps, look_ups}
use Rattle.node.specs.declared.node.Node.{Node}
use Rattle.node.specs.declared.output.Output.{Output}
use Rattle.node.specs.declared.stop.Stop.{Stop}
use Rattle.node.specs.declared.stop.Stop.TheVariants as stop
use Rattle.node.specs.Outputs.{AlwaysRefines, FollowsRule, OutputRefines}
use Rattle.node.specs.Steps.{IsReady, disk_of, node_limits}
use Rattle.node.proofs.Causes.{StopsForMemory, memory_ends, memory_told, on_ok, only_memory}
use Rattle.node.proofs.Causes.{only_memory_ends}
use Rattle.node.proofs.Counts.{FollowsDone, counts_same, keeps_floor, keeps_kept, empty_batch}
use Rattle.node.proofs.Counts.{KeepsConfig, epoch_left, ids_left, keeps_committed, machine_with}
use Rattle.node.proofs.Counts.{same_facts, snapshots_left}
use Rattle.node.proofs.Ends.{ends, ends_stopped}
use Rattle.node.proofs.Running.{at_rest, goes_on, keeps_same}

-- the store's part of a step changes the snapshots, and neither the batches, what is committed, nor
-- the configuration
pub record ChangesSnapshots (d : Done) (change : List ℕ → List ℕ) : Type 0 where
  pub list : (n : Machine) → list_after n empty_batch d ≡ n.list
  pub snapshots : (n : Machine) → snapshots_after n d ≡ change n.snapshots
  pub committed : (x : ℕ) (n : Machine) → (done_of x n empty_batch d).node.committed ≡ n.committed
  pub config : KeepsConfig d

module _ {D : Type 0} (g : Ghosts D) (old new : Node D g) (same : disk_of new ≡ disk_of old)
    (IsFor : Machine → Input → Type 0) (result : Result Output Stop) where
  -- memory ran out, and the disk is as it was
  pub stopped_for_memory : (rule : ℕ → Machine → Answer Edits) →
      node_limits new ≡ node_limits old → IsErrAnd result (λ s. s ≡ stop.Memory) →
      FollowsRule g old new IsFor rule result
  stopped_for_memory rule limits err =
      let p = err_from_is_err_and result err in record {
        kept = record {
          disk = keeps_same g (disk_of old) (disk_of new) result same (memory_told result err);
          works = rw p.1 tt;
          limits = limits;
          causes = memory_ends result err;
        };
        ends = λ x n input is r.
            let a = rule x n in
            ends_stopped g old new x n a _ result p.0 p.1 (inr p.2)
            (subst g.is_honest (sym same) r.honest)
            (subst (λ (disk : D). AlwaysRefines g (disk_of old) disk x n a.node) (sym same)
            (at_rest g old x n a.node r));
      }

  -- the snapshots of the store and of the state changed alike
  pub snapshots_changed : StepsLeave → (d : Done) (change : List ℕ → List ℕ)
      (replies : List (Response Edits)) → IsReady old → ChangesSnapshots d change →
      FollowsDone old.core new.core d replies → new.core.id ≡ old.core.id →
      (HasEnded new.engine → ⊥) →
      look_ups new.engine ≡ record (look_ups old.engine) {
        snapshots = change (look_ups old.engine).snapshots;
      } →
      ((list : List BatchContent) → EngineHolds g old.engine list → EngineHolds g new.engine list)
      → (made : Result Output AllocError) → ((x : ℕ) (n : Machine) (input : Input) →
      CoreRefines new.core (done_of x n empty_batch d).node →
      (done_of x n empty_batch d).replies ≡ replies →
      IfOk made (OutputRefines input (done_of x n empty_batch d))) → StopsForMemory made result →
      FollowsRule g old new IsFor (λ x n. done_of x n empty_batch d) result
  snapshots_changed law d change replies ready goes after id works told kept made says so = record {
    kept = record {
      disk = keeps_same g (disk_of old) (disk_of new) result same (only_memory made result so);
      works = on_ok result (record {
        works = works;
        id = id ∙ ready.id ∙ sym (ap (λ (l : LookUps). l.facts.id) told);
        epoch = epoch_left law old.core new.core d replies after
            ∙ goes.config.epoch (machine_with old.core) ∙ ready.epoch
            ∙ sym (ap (λ (l : LookUps). l.facts.epoch) told);
        ids = ids_left law old.core new.core d replies after
            ∙ goes.config.ids (machine_with old.core) ∙ ready.ids
            ∙ sym (ap (λ (l : LookUps). l.facts.ids) told);
        count = counts_same law old.core new.core d replies goes.list after ∙ ready.count
            ∙ sym (ap (λ (l : LookUps). l.count) told);
        floor = keeps_floor law old.core new.core d replies after ∙ ready.floor
            ∙ sym (ap (λ (l : LookUps). l.facts.floor) told);
        kept = keeps_kept law old.core new.core d replies after ∙ ready.kept
            ∙ sym (ap (λ (l : LookUps). l.facts.kept) told);
        committed = keeps_committed old.core new.core d replies (goes.committed old.core.id) after
            ∙ ready.committed ∙ sym (ap (λ (l : LookUps). l.committed) told);
        snapshots = snapshots_left law old.core new.core d replies after
            ∙ goes.snapshots (machine_with old.core) ∙ ap change ready.snapshots
            ∙ sym (ap (λ (l : LookUps). l.snapshots) told);
      });
      limits = ap (λ (l : LookUps). l.limits) told;
      causes = only_memory_ends made result so;
    };
    ends = λ x n input is r.
        let a = done_of x n empty_batch d in
        let leaves = law x n empty_batch d in
        let follows = subst (λ (y : ℕ).
        core.CoreFollows new.core (done_of y n empty_batch d) replies) r.id
        (after n empty_batch r.core) in
        let holds = subst (λ (l : List BatchContent). EngineHolds g new.engine l)
        (sym (goes.list n)) (kept n.list r.store) in
        let runs = goes_on g old new x n empty_batch d a leaves r holds
        (ap (λ (l : LookUps). l.facts) told ∙ r.facts
        ∙ sym (same_facts x n empty_batch d a goes.config leaves)) follows.is (id ∙ r.id) in
        let moments = subst (λ (disk : D). AlwaysRefines g (disk_of old) disk x n a.node)
        (sym same) (at_rest g old x n a.node r) in
        ends g old new x n input a made result moments runs
        (says x n input follows.is follows.replied) so;
  }
