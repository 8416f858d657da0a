-- A step that only reads the store: it is refused for the environment alone, or it answers.
use Rattle.std.proofs.Common.{◌≡◌, ℕ, ◌≤◌, List, Err, Ok, ap, arith, refl, sym, subst}
use Rattle.std.specs.Prelude.{Result, IfOk, IsErrAnd}
use Rattle.std.specs.declared.alloc.AllocError.{AllocError}
use Rattle.std.proofs.lemmas.Result.{err_from_is_err_and}
use Rattle.kv_types.specs.{BatchContent}
use Rattle.disk.specs.declared.Disk.{Ghosts}
use Rattle.disk.specs.{IsEnvironmental, IsSame, IsStill}
use Rattle.chain_model.specs.{reply_read}
use Rattle.chain_core.specs.declared.Input.{Input}
use Rattle.chain_core.specs.{Machine}
use Rattle.engine.specs.declared.Engine.{Engine}
use Rattle.engine.specs.EngineError.{EngineError}
use Rattle.engine.specs.EngineError.TheVariants as engine
use Rattle.engine.specs.{EngineHolds, EngineReads, Facts, HasEnded, IsReadableAnswer, KeepsEngine}
use Rattle.engine.specs.{LookUps, engine_disk, look_ups}
use Rattle.disk.specs.KeepingLemmas.{answered, neither}
use Rattle.node.specs.declared.node.Node.{Node}
use Rattle.node.specs.declared.output.Output.{Output}
use Rattle.node.specs.declared.stop.Stop.{Stop}
use Rattle.node.specs.declared.stop.Stop.TheVariants as stop
use Rattle.node.specs.Outputs.{FollowsRule, OutputRefines}
use Rattle.node.specs.Steps.{IsReady}
use Rattle.node.specs.Stops.{engine_stop}
use Rattle.node.proofs.Causes.{StopsForMemory, env_of, on_ok, only_memory, only_memory_ends}
use Rattle.node.proofs.Causes.{passed_ends, read_ends, read_env, stop_passed}
use Rattle.node.proofs.Ends.{ends, ends_stopped}
use Rattle.node.proofs.Running.{kept_read, read_more, still_refines, still_runs, unread}

module _ {D T : Type 0} (g : Ghosts D) (old : Node D g) (read : Engine D g)
    (called : Result T EngineError) (ready : IsReady old)
    (keeps : KeepsEngine g old.engine read called ⊥ IsSame)
    (told : look_ups read ≡ look_ups old.engine)
    (still : IsStill g (engine_disk old.engine) (engine_disk read))
    (IsFor : Machine → Input → Type 0) (request at : ℕ) where
  abbrev new : Node D g
  new = record old { engine = read }

  -- the store could not be read
  pub read_refused : (e : EngineError) (result : Result Output Stop) → called ≡ Err e →
      IsErrAnd result (λ s. s ≡ engine_stop e) →
      IsReadableAnswer {T = T} (look_ups old.engine) at (Err e) → (e ≡ engine.Failed → ⊥) →
      ((list : List BatchContent) → EngineReads g old.engine list → e ≡ engine.Damaged → ⊥) →
      ((n : Machine) (input : Input) → IsFor n input → (n.floor ≤ at) × (at ≤ n.committed)) →
      FollowsRule g old new IsFor (λ x n. reply_read n request at) result
  read_refused e result was err answer works sound bounds =
      let p = err_from_is_err_and result err in record {
        kept = kept_read g old new result result ready
            (read_more g old.engine old.engine read called result
            (unread g old.engine at ready.works) keeps told still
            (stop_passed called e result was err) (rw p.1 tt)) refl (λ stops. stops, λ stops. stops)
            (rw p.1 tt)
            (passed_ends result err (read_ends T (look_ups old.engine) at e answer));
        ends = λ x n input is r.
            let a = reply_read n request at in
            let within = bounds n input is in
            let floor = ap (λ (f : Facts). f.floor) r.facts in
            let why = read_env T (look_ups old.engine) at e answer (sound n.list r.store.reads)
            works (omega (arith, within.0, floor))
            (omega (arith, within.1, r.core.committed, ready.committed)) in
            ends_stopped g old new x n a _ result p.0 p.1
            (subst
            (IsEnvironmental stop.Disk stop.Memory) (sym p.2) (env_of e why))
            (keeps.disk.honest.1 r.honest)
            (still_refines g old (engine_disk read) x n a.node r (still r.honest));
      }

  -- what was read is shown
  pub read_answered : (value : T) (made : Result Output AllocError) (result : Result Output Stop) →
      called ≡ Ok value →
      (HasEnded read → ⊥) →
      ((list : List BatchContent) → EngineHolds g old.engine list → EngineHolds g read list) →
      ((n : Machine) (input : Input) → IsFor n input → EngineReads g old.engine n.list →
      IfOk made (OutputRefines input (reply_read n request at))) → StopsForMemory made result →
      FollowsRule g old new IsFor (λ x n. reply_read n request at) result
  read_answered value made result was works kept tells stops = record {
    kept =
        let fails = neither (answered called was) (only_memory made result stops) in
        let goes = on_ok result works in
        kept_read g old new result result ready
        (read_more g old.engine old.engine read called result
        (unread g old.engine at ready.works) keeps told still fails goes) refl
        (λ stops. stops, λ stops. stops) goes (only_memory_ends made result stops);
    ends = λ x n input is r.
        let a = reply_read n request at in
        let runs = still_runs g old new x n r (kept n.list r.store)
        (ap (λ (l : LookUps). l.facts) told) refl in
        ends g old new x n input a made result
        (still_refines g old (engine_disk read) x n a.node r (still r.honest)) runs
        (tells n input is r.store.reads) stops;
  }
