use Rattle.std.proofs.Common.{◌≡◌, ◌∷◌, ℕ, List, Ok, Err, ap, refl, subst, true}
use Rattle.chain_model.specs.{Closed}
use Rattle.kv_types.specs.Snapshots.{is_open, without}
use Rattle.chain_model.specs.Rules.{remove_snapshot}
use Rattle.chain_core.specs.{committed_responses}
use Rattle.chain_core.specs.declared.Done.TheVariants as done
use Rattle.engine.specs.{LookUps, look_ups}
use Rattle.node.proofs.Causes.{close_refuses, still_works}
use Rattle.node.proofs.SnapshotSteps.{snapshots_changed, stopped_for_memory}
use Rattle.node.proofs.node.Node.close.Goals as goal

-- the store closes a snapshot that is open
pub returns-in_err-close_snapshot : goal.returns-in_err-close_snapshot
returns-in_err-close_snapshot g c =
    let may = c.requires.may in
    let known = c.in_err-close_snapshot.ensures in
    let there = subst (λ (l : List ℕ). is_open c.args.number l ≡ true) may.snapshots
    c.requires.open in
    absurd (close_refuses (Unit {0}) (look_ups c.args.self.now.engine) c.args.number
    c.in_err-close_snapshot.field-0.0 known.closed
    (λ is. may.works (known.changes.keeps.closed.0 (ap (λ d. Err d) is))) there)

-- it is closed in the store, and memory ran out
pub returns-in_err-after : goal.returns-in_err-after
returns-in_err-after g c =
    stopped_for_memory g.D.Disk c.args.self.now _ c.close_snapshot.ensures.changes.disk _
    c.from_residual-in_err-after.result
    (λ x n. remove_snapshot n c.args.request c.args.number)
    (ap (λ (l : LookUps). l.limits) c.in_ok-close_snapshot.ensures.changes.told)
    c.from_residual-in_err-after.ensures.1

-- it is closed in the store and in the state
pub returns : goal.returns
returns g c =
    let may = c.requires.may in
    let i = c.args.request in
    let s = c.args.number in
    let known = c.in_ok-close_snapshot.ensures in
    snapshots_changed g.D.Disk c.args.self.now _ c.close_snapshot.ensures.changes.disk _
    (Ok c.replying.result)
    c.steps_leave.ensures (done.Closed i s) (λ (l : List ℕ). without s l)
    (Closed i s ∷ committed_responses c.in_ok-after.field-0) may
    (record {
      list = λ n. refl;
      snapshots = λ n. refl;
      committed = λ x n. refl;
      config = record { epoch = λ n. refl; ids = λ n. refl };
    })
    c.in_ok-after.ensures.after c.in_ok-after.ensures.same
    (λ ended. still_works known.changes.keeps.ends may.works ended) known.changes.told
    (λ list. (known.changes.kept list).holds) (Ok c.replying.result)
    (λ x n input is replied. c.replying.ensures)
    refl
