use Rattle.std.proofs.Common.{◌≡◌, ◌∷◌, ℕ, List, Ok, Err, ap, arith, length, refl, subst}
use Rattle.std.specs.Prelude.{IsErrAnd}
use Rattle.chain_model.specs.{Opened}
use Rattle.chain_model.specs.Rules.{add_snapshot}
use Rattle.chain_core.specs.{committed_responses}
use Rattle.chain_core.specs.declared.Done.TheVariants as done
use Rattle.engine.specs.EngineError.{EngineError}
use Rattle.engine.specs.{LookUps, MayOpen, look_ups}
use Rattle.node.specs.Stops.{engine_stop}
use Rattle.node.proofs.Causes.{open_memory, still_works}
use Rattle.node.proofs.SnapshotSteps.{snapshots_changed, stopped_for_memory}
use Rattle.node.proofs.node.Node.open.Goals as goal

-- the store can open it, so it is refused for want of memory
pub returns-in_err-open_snapshot : goal.returns-in_err-open_snapshot
returns-in_err-open_snapshot g c =
    let may = c.requires.may in
    let room = c.requires.room in
    let known = c.in_err-open_snapshot.ensures in
    let result = c.from_residual.result in
    let open_now = ap length may.snapshots in
    let can : MayOpen (look_ups c.args.self.now.engine) c.args.number = (
      (omega (arith, room.floor, may.floor), omega (arith, room.committed, may.committed)),
      omega (arith, room.room, open_now),
    ) in
    let why = open_memory (Unit {0}) (look_ups c.args.self.now.engine) c.args.number
    c.in_err-open_snapshot.field-0.0 known.opened
    (λ is. may.works (known.changes.keeps.closed.0 (ap (λ d. Err d) is))) can in
    stopped_for_memory g.D.Disk c.args.self.now _ c.open_snapshot.ensures.changes.disk _ result
    (λ x n. add_snapshot n c.args.request c.args.number)
    (ap (λ (l : LookUps). l.limits) known.changes.told)
    (subst (λ (d : EngineError). IsErrAnd result (λ s. s ≡ engine_stop d)) why
    c.from_residual.ensures.1)

-- it is open in the store, and memory ran out
pub returns-in_err-after : goal.returns-in_err-after
returns-in_err-after g c =
    stopped_for_memory g.D.Disk c.args.self.now _ c.open_snapshot.ensures.changes.disk _
    c.from_residual-in_err-after.result
    (λ x n. add_snapshot n c.args.request c.args.number)
    (ap (λ (l : LookUps). l.limits) c.in_ok-open_snapshot.ensures.changes.told)
    c.from_residual-in_err-after.ensures.1

-- it is open in the store and in the state
pub returns : goal.returns
returns g c =
    let may = c.requires.may in
    let i = c.args.request in
    let s = c.args.number in
    let known = c.in_ok-open_snapshot.ensures in
    snapshots_changed g.D.Disk c.args.self.now _ c.open_snapshot.ensures.changes.disk _
    (Ok c.replying.result)
    c.steps_leave.ensures (done.Opened i s) (λ (l : List ℕ). s ∷ l)
    (Opened i s ∷ committed_responses c.in_ok-after.field-0) may
    (record {
      list = λ n. refl;
      snapshots = λ n. refl;
      committed = λ x n. refl;
      config = record { epoch = λ n. refl; ids = λ n. refl };
    })
    c.in_ok-after.ensures.after c.in_ok-after.ensures.same
    (λ ended. still_works known.changes.keeps.ends may.works ended) known.changes.told
    (λ list. (known.changes.kept list).holds) (Ok c.replying.result)
    (λ x n input is replied. c.replying.ensures)
    refl
