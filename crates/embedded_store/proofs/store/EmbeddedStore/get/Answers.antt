use Rattle.std.proofs.Common.{◌≡◌, ap, List, subst, sym, take, ℕ, ◌∙◌}
use Rattle.std.specs.Prelude.{IfOk, IsErrOf}
use Rattle.byte_fields.specs.{row_key}
use Rattle.kv_types.specs.{BatchContent, map_of}
use Rattle.embedded_store.proofs.StoreReads.{read_refused, shown_count, shown_said, taken}
use Rattle.embedded_store.specs.Stores.{store_disk, store_engine}
use Rattle.engine.specs.EngineError.TheVariants.{Damaged}
use Rattle.engine.specs.{IsReadableAnswer, MemoryHas, NeedsNoDisk, OneNamedLacksBlock}
use Rattle.engine.specs.{engine_disk, engine_version, look_ups}
use Rattle.embedded_store.proofs.store.EmbeddedStore.get.Goals as goal

-- the map is that of the batches up to the number
pub returns-clause-found : goal.returns-clause-found
returns-clause-found g c = λ list shown.
    let store = c.args.self.now in
    let told = look_ups (store_engine c.args.self.now) in
    subst (λ (l : List BatchContent). IfOk c.get.result (λ it. it ≡ map_of l c.args.key.now))
    (ap (λ (n : ℕ). take n list) c.number_of-at.ensures.number
    ∙ taken told c.args.at list (shown_count store list shown))
    (shown_said store list (λ l. IfOk c.get.result
    (λ it. it ≡ map_of (take c.number_of-at.result l) c.args.key.now))
    c.get.ensures.found shown)

-- the number that is read is the one that is asked for
pub returns-clause-readable : goal.returns-clause-readable
returns-clause-readable g c =
    subst (λ (n : ℕ). IsReadableAnswer (look_ups (store_engine c.args.self.now)) n c.get.result)
    c.number_of-at.ensures.number c.get.ensures.readable

-- a store that holds its batches works, and has no damage
pub returns-clause-refused : goal.returns-clause-refused
returns-clause-refused g c = λ list holds.
    let told = look_ups (store_engine c.args.self.now) in
    read_refused told c.args.at c.get.result c.number_of-at.ensures.ordered
    c.args.self.now.committed (subst (λ (n : ℕ). IsReadableAnswer told n c.get.result)
    c.number_of-at.ensures.number
    c.get.ensures.readable) (c.get.ensures.intact list holds.reads)
    (λ fails. holds.reads.works (c.get.ensures.reads.keeps.closed.0 fails))

-- a damaged block is met only where the engine meets one
pub returns-clause-damaged : goal.returns-clause-damaged
returns-clause-damaged g c = λ list shown damaged.
    let store = c.args.self.now in
    subst (λ (n : ℕ). OneNamedLacksBlock (g.D.Disk.state (store_disk store))
    (engine_version (store_engine store)).version.tables (row_key c.args.key.now) n)
    c.number_of-at.ensures.number
    (shown_said store list (λ _. IsErrOf c.get.result Damaged →
    OneNamedLacksBlock (g.D.Disk.state (store_disk store))
    (engine_version (store_engine store)).version.tables (row_key c.args.key.now)
    c.number_of-at.result)
    c.get.ensures.damaged shown damaged)

-- the engine does not ask the disk
pub returns-clause-memory : goal.returns-clause-memory
returns-clause-memory g c = λ list shown has.
    let store = c.args.self.now in
    let flushed = (engine_version (store_engine store)).version.flushed in
    let key = row_key c.args.key.now in
    shown_said store list (λ l. MemoryHas l flushed c.number_of-at.result key →
    NeedsNoDisk (store_disk store) (engine_disk c.get.new.self) c.get.result) c.get.ensures.memory
    shown (subst (λ (n : ℕ). MemoryHas list flushed n key) (sym c.number_of-at.ensures.number) has)
