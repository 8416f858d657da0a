-- Ends of steps.
use Rattle.std.proofs.Common.{◌≡◌, ℕ, List}
use Rattle.std.proofs.Common.{inr}
use Rattle.std.proofs.Common.{map, None, refl, sym, subst}
use Rattle.std.specs.Prelude.{Result, Ok, Err, IfOk}
use Rattle.std.specs.declared.alloc.AllocError.{AllocError}
use Rattle.kv_types.specs.{BatchContent, Edits}
use Rattle.disk.specs.{IsEnvironmental}
use Rattle.disk.specs.declared.Disk.{Ghosts}
use Rattle.chain_model.specs.{Answer, Message}
use Rattle.chain_core.specs.declared.Done.{Done}
use Rattle.chain_core.specs.declared.Input.{Input}
use Rattle.chain_core.specs.declared.PendingSubmit.{PendingSubmit}
use Rattle.chain_core.specs.{Machine, rule_of, StepLeaves}
use Rattle.chain_core.specs.{frames_after}
use Rattle.chain_core.specs as core
use Rattle.chain_core.specs.declared.Decision.{Decision}
use Rattle.node.specs.declared.node.Node.{Node}
use Rattle.node.specs.declared.output.Output.{Output}
use Rattle.node.specs.declared.stop.Stop.{Stop}
use Rattle.node.specs.declared.stop.Stop.TheVariants as stop
use Rattle.node.specs.Steps.{NodeRefines, StepRefines, disk_of}
use Rattle.node.proofs.Outputs.{tells_rule}
use Rattle.node.specs.Outputs.{OutputHas, OutputRefines, committed_reply, CallRefines}
use Rattle.node.specs.Outputs.{AlwaysRefines, ExecutesDecision}
use Rattle.node.specs.Steps.{IsReady}
use Rattle.chain_core.specs.{CoreRefines}
use Rattle.node.proofs.Causes.{StopsForMemory, on_ok, only_memory, only_memory_ends}
use Rattle.node.proofs.Running.{at_rest, keeps_same}

module _ {D : Type 0} (g : Ghosts D) where
  -- the output is the machine's answer, and for want of memory the node stops
  pub ends : (old node : Node D g) (x : ℕ) (n : Machine) (input : Input)
      (a : Answer Edits) (made : Result Output AllocError) (result : Result Output Stop) →
      AlwaysRefines g (disk_of old) (disk_of node) x n a.node →
      NodeRefines g.is_honest g.state node x a.node →
      IfOk made (OutputRefines input a) → StopsForMemory made result →
      CallRefines g old node x n a (StepRefines g.is_honest g.state node x input a) result
  ends old node x n input a (Ok output) result moments r tells stops = rw stops (record {
    done = record {
      runs = r;
      dropped = tells.dropped;
      frames = tells.frames;
      replied = tells.replied;
    };
    honest = r.honest;
    any_moment = moments;
  })
  ends old node x n input a (Err e) (Ok output) moments r tells stops = absurd stops
  ends old node x n input a (Err e) (Err s) moments r tells stops = record {
    done = inr stops;
    honest = r.honest;
    any_moment = moments;
  }

  -- the rule is that of the decision
  pub executes_as : (old new : Node D g) (decision known : Decision) (result : Result Output Stop) →
      decision ≡ known → ExecutesDecision g old new known result →
      ExecutesDecision g old new decision result
  executes_as old new decision known result is done =
      subst (λ (d : Decision). ExecutesDecision g old new d result) (sym is) done

  -- a rule that leaves the node as it is: its output follows from the node's numbers
  pub executes_at_rest : (node : Node D g) (decision : Decision) (made : Result Output AllocError)
      (result : Result Output Stop) → IsReady node →
      ((x : ℕ) (n : Machine) → (rule_of x n decision).node ≡ n) →
      ((n : Machine) (input : Input) → CoreRefines node.core n →
      IfOk made (OutputRefines input (rule_of node.core.id n decision))) →
      StopsForMemory made result → ExecutesDecision g node node decision result
  executes_at_rest node decision made result ready stays tells stops = record {
    kept = record {
      disk = keeps_same g (disk_of node) (disk_of node) result refl
          (only_memory made result stops);
      works = on_ok result ready;
      limits = refl;
      causes = only_memory_ends made result stops;
    };
    ends = λ x n input read r.
        let same = sym (stays x n) in
        ends node node x n input (rule_of x n decision) made result
        (subst (λ (m : Machine). AlwaysRefines g (disk_of node) (disk_of node) x n m) same
        (at_rest g node x n n r))
        (subst (λ (m : Machine). NodeRefines g.is_honest g.state node x m) same r)
        (subst (λ (y : ℕ). IfOk made (OutputRefines input (rule_of y n decision))) r.id
        (tells n input r.core)) stops;
  }

  -- the rule is that of the decision, also after the store's part
  pub ends_rule : (old node : Node D g) (x : ℕ) (n : Machine) (input : Input)
      (batch : BatchContent) (d : Done) (a : Answer Edits) (due told : List PendingSubmit)
      (sent : ℕ → List (Message Edits)) (made : Result Output AllocError)
      (result : Result Output Stop) →
      AlwaysRefines g (disk_of old) (disk_of node) x n a.node →
      StepLeaves x n batch d a → NodeRefines g.is_honest g.state node x a.node →
      a.replies ≡ core.committed_responses due → told ≡ due → sent x ≡ frames_after x n d a.node →
      IfOk made (OutputHas None (sent node.core.id) (map committed_reply told)) →
      StopsForMemory made result →
      CallRefines g old node x n a (StepRefines g.is_honest g.state node x input a) result
  ends_rule old node x n input batch d a due told sent made result moments leaves runs replied same
      frames says stops =
      let by_x = subst (λ (y : ℕ). IfOk made (OutputHas None (sent y) (map committed_reply told)))
      runs.id says in
      let of_due = subst (λ (l : List PendingSubmit). IfOk made
      (OutputHas None (sent x) (map committed_reply l)))
      same by_x in
      ends old node x n input a made result moments runs
      (tells_rule x n input batch d a due (sent x) made leaves replied frames of_due)
      stops

  -- a call that stops
  pub ends_stopped : {T : Type 0} (old node : Node D g) (x : ℕ) (n : Machine) (a : Answer
      Edits)
      (IsDone : T → Type 0) (result : Result T Stop) (e : Stop) → result ≡ Err e →
      IsEnvironmental stop.Disk stop.Memory e → g.is_honest (disk_of node) →
      AlwaysRefines g (disk_of old) (disk_of node) x n a.node →
      CallRefines g old node x n a IsDone result
  ends_stopped old node x n a IsDone result e is machine honest moments =
      rw is (record { done = machine; honest = honest; any_moment = moments })
