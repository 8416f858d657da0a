use Rattle.std.proofs.Common.{◌≡◌, ◌≤◌, ℕ, Option, refl, subst, rules}
use Rattle.disk.specs.{IsEnvironmental, contents}
use Rattle.disk.specs.StillLemmas.{still}
use Rattle.memtable.specs.{TableHolds}
use Rattle.store_tables.specs.declared.error.EngineError.TheVariants as engine
use Rattle.store_tables.specs.Errors.{IsEnd}
use Rattle.store_files.specs.OpenFiles.{known_store}
use Rattle.store_files.specs.ShownValues.{EntriesShow}
use Rattle.store_files.specs.declared.finding.ShownValue.{ShownValue}
use Rattle.store_tables.specs.RefusalLemmas.{if_refuses, passed_cause}
use Rattle.store_files.proofs.LookUps.{found_short, memory_shows, named_lacks, never_long}
use Rattle.store_files.proofs.LookUps.{not_damaged, shown_as, tables_show}
use Rattle.store_files.proofs.Meant.{own_blocks, zip_was}
use Rattle.store_files.proofs.store_files.StoreFiles.find.Goals as goal

-- no call of the disk
pub returns-in_err-shown-clause-reads : goal.returns-in_err-shown-clause-reads
returns-in_err-shown-clause-reads g c = record {
  kept = search rules;
  causes = search rules;
  still = λ honest.
      still (g.D.Disk.state c.args.files.now.disk) (g.D.Disk.past c.args.files.now.disk);
}

pub returns-in-Some-clause-reads : goal.returns-in-Some-clause-reads
returns-in-Some-clause-reads g c = record {
  kept = search rules;
  causes = search rules;
  still = λ honest.
      still (g.D.Disk.state c.args.files.now.disk) (g.D.Disk.past c.args.files.now.disk);
}

-- what memory has is what the batches have
pub returns-in-Some-clause-found : goal.returns-in-Some-clause-found
returns-in-Some-clause-found g c = λ list honest w floor count.
    let h = w.hold in
    let files = c.args.self.now in
    let newest = subst (λ (o : Option (Option ShownValue)).
    EntriesShow c.args.at (TableHolds files.memtable) c.args.key.now o) c.in-Some.is
    c.in_ok-shown.ensures in
    memory_shows c.look_ups_are_maps.ensures.maps c.look_ups_are_maps.ensures.shown list
    (known_store files h.known.tables) h.known.store c.args.at floor
    (subst (λ (n : ℕ). c.args.at ≤ n) h.known.count count) c.args.key.now files.memtable
    h.known.entries c.in-Some.shown newest

-- where it has nothing, what the tables have is
pub returns-clause-found : goal.returns-clause-found
returns-clause-found g c = λ list honest w floor count.
    let h = w.hold in
    let files = c.args.self.now in
    let disk = g.D.Disk.state c.args.files.now.disk in
    let lines = files.manifest.version.version.tables in
    let unseen = subst (λ (o : Option (Option ShownValue)).
    EntriesShow c.args.at (TableHolds files.memtable) c.args.key.now o) c.in_default.is
    c.in_ok-shown.ensures in
    let rise = c.levels_rise.ensures.lines (contents w.meant) lines h.known.tables
    h.known.usable.version.lines.tables_in_order h.known.read in
    let finds = c.in_ok-get.ensures.found w.meant h.known.tables
    (known_store files h.known.tables).flushed honest
    (zip_was disk w.meant files.tables.tables.items h.known.tables h.known.served
    w.disk_is.blocks) h.known.store.tables rise in
    shown_as c.shown_by.result c.shown_by.ensures.shown
    (tables_show c.look_ups_are_maps.ensures.maps c.look_ups_are_maps.ensures.shown list
    (known_store files h.known.tables) h.known.store c.args.at floor
    (subst (λ (n : ℕ). c.args.at ≤ n) h.known.count count) c.args.key.now files.memtable
    h.known.entries c.table_look_ups_are_maps.ensures.maps c.in_ok-get.field-0 unseen finds)

-- what undamaged tables have is no value that is too long
pub returns-clause-intact : goal.returns-clause-intact
returns-clause-intact g c = λ list honest h.
    let files = c.args.self.now in
    let disk = g.D.Disk.state c.args.files.now.disk in
    let lines = files.manifest.version.version.tables in
    let rise = c.levels_rise.ensures.lines (contents disk) lines h.known.tables
    h.known.usable.version.lines.tables_in_order h.known.read in
    let finds = c.in_ok-get.ensures.found disk h.known.tables
    (known_store files h.known.tables).flushed honest
    (zip_was disk disk files.tables.tables.items h.known.tables h.known.served
    (own_blocks disk files.tables.tables.items)) h.known.store.tables rise in
    never_long c.in_ok-get.field-0 c.shown_by.result c.shown_by.ensures.damaged
    (found_short (contents disk) lines h.known.tables h.known.read c.args.at
    c.args.key.now c.in_ok-get.field-0 finds)

-- so it is where blocks are damaged, for what was found was meant
pub returns-clause-damaged : goal.returns-clause-damaged
returns-clause-damaged g c = λ list honest w refused.
    let h = w.hold in
    let files = c.args.self.now in
    let disk = g.D.Disk.state c.args.files.now.disk in
    let lines = files.manifest.version.version.tables in
    let rise = c.levels_rise.ensures.lines (contents w.meant) lines h.known.tables
    h.known.usable.version.lines.tables_in_order h.known.read in
    let finds = c.in_ok-get.ensures.found w.meant h.known.tables
    (known_store files h.known.tables).flushed honest
    (zip_was disk w.meant files.tables.tables.items h.known.tables h.known.served
    w.disk_is.blocks) h.known.store.tables rise in
    absurd (not_damaged c.in_ok-get.field-0 c.shown_by.result c.shown_by.ensures.damaged
    (found_short (contents w.meant) lines h.known.tables h.known.read c.args.at
    c.args.key.now c.in_ok-get.field-0 finds) refused)

-- a table lacks the block of the key
pub returns-in_err-get-clause-damaged : goal.returns-in_err-get-clause-damaged
returns-in_err-get-clause-damaged g c = λ list honest w refused.
    let h = w.hold in
    let files = c.args.self.now in
    let disk = g.D.Disk.state c.args.files.now.disk in
    let lines = files.manifest.version.version.tables in
    let rise = c.levels_rise.ensures.lines (contents w.meant) lines h.known.tables
    h.known.usable.version.lines.tables_in_order h.known.read in
    let one = c.in_err-get.ensures.damaged w.meant h.known.tables honest
    (zip_was disk w.meant files.tables.tables.items h.known.tables h.known.served
    w.disk_is.blocks)
    (passed_cause c.from_residual-in_err-get.result c.from_residual-in_err-get.ensures.1 refused) in
    named_lacks disk w.meant c.args.key.now c.args.at
    (known_store files h.known.tables).flushed lines h.known.tables
    (record { named = h.known.read; as_meant = w.disk_is.tables }) h.known.store.tables rise one

-- memory has nothing of the key
pub returns-in_err-get-clause-memory : goal.returns-in_err-get-clause-memory
returns-in_err-get-clause-memory g c = λ seen.
    absurd (seen (subst (λ (o : Option (Option ShownValue)).
    EntriesShow c.args.at (TableHolds c.args.self.now.memtable) c.args.key.now o)
    c.in_default.is c.in_ok-shown.ensures))

pub returns-clause-memory : goal.returns-clause-memory
returns-clause-memory g c = λ seen.
    absurd (seen (subst (λ (o : Option (Option ShownValue)).
    EntriesShow c.args.at (TableHolds c.args.self.now.memtable) c.args.key.now o)
    c.in_default.is c.in_ok-shown.ensures))

-- of memory alone
pub returns-in_err-shown-clause-memory : goal.returns-in_err-shown-clause-memory
returns-in_err-shown-clause-memory g c = λ seen. record {
  same = refl;
  causes = if_refuses c.from_residual.result (λ e. IsEnd e → e ≡ engine.Memory)
      c.from_residual.ensures.1 (λ end. refl);
}

pub returns-in-Some-clause-memory : goal.returns-in-Some-clause-memory
returns-in-Some-clause-memory g c = λ seen. record { same = refl; causes = tt }

-- undamaged tables are read
pub returns-in_err-get-clause-intact : goal.returns-in_err-get-clause-intact
returns-in_err-get-clause-intact g c = λ list honest h.
    if_refuses c.from_residual-in_err-get.result (IsEnvironmental engine.Disk engine.Memory)
    c.from_residual-in_err-get.ensures.1
    (c.in_err-get.ensures.intact h.known.tables honest h.known.served)
