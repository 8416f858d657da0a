use Rattle.std.proofs.Common.{◌≡◌, ap, List, subst, take, ℕ, ◌∙◌}
use Rattle.std.specs.Prelude.{IfOk, IsErrOf}
use Rattle.kv_types.specs.{BatchContent, stored_span}
use Rattle.kv_types.specs.Pages.{page_of}
use Rattle.embedded_store.proofs.StoreReads.{read_refused, shown_count, shown_said, taken}
use Rattle.embedded_store.specs.Stores.{store_disk, store_engine}
use Rattle.engine.specs.EngineError.TheVariants.{Damaged}
use Rattle.engine.specs.{IsReadableAnswer, OneIsDamagedIn, engine_version, look_ups}
use Rattle.embedded_store.proofs.store.EmbeddedStore.rows.Goals as goal

-- the map is that of the batches up to the number
pub returns-clause-found : goal.returns-clause-found
returns-clause-found g c = λ list shown.
    let store = c.args.self.now in
    let told = look_ups (store_engine c.args.self.now) in
    subst (λ (l : List BatchContent). IfOk c.rows.result (λ it. it ≡ page_of l c.args.range.now))
    (ap (λ (n : ℕ). take n list) c.number_of-at.ensures.number
    ∙ taken told c.args.at list (shown_count store list shown))
    (shown_said store list (λ l. IfOk c.rows.result
    (λ it. it ≡ page_of (take c.number_of-at.result l) c.args.range.now))
    c.rows.ensures.found shown)

-- the number that is read is the one that is asked for
pub returns-clause-readable : goal.returns-clause-readable
returns-clause-readable g c =
    subst (λ (n : ℕ). IsReadableAnswer (look_ups (store_engine c.args.self.now)) n c.rows.result)
    c.number_of-at.ensures.number c.rows.ensures.readable

-- a store that holds its batches works, and has no damage
pub returns-clause-refused : goal.returns-clause-refused
returns-clause-refused g c = λ list holds.
    let told = look_ups (store_engine c.args.self.now) in
    read_refused told c.args.at c.rows.result c.number_of-at.ensures.ordered
    c.args.self.now.committed (subst (λ (n : ℕ). IsReadableAnswer told n c.rows.result)
    c.number_of-at.ensures.number
    c.rows.ensures.readable) (c.rows.ensures.intact list holds.reads)
    (λ fails. holds.reads.works (c.rows.ensures.reads.keeps.closed.0 fails))

-- a damaged block is met only where the engine meets one
pub returns-clause-damaged : goal.returns-clause-damaged
returns-clause-damaged g c = λ list shown damaged.
    let store = c.args.self.now in
    shown_said store list (λ _. IsErrOf c.rows.result Damaged →
    OneIsDamagedIn (stored_span c.args.range.now) (g.D.Disk.state (store_disk store))
    (engine_version (store_engine store)).version.tables) c.rows.ensures.damaged shown damaged
