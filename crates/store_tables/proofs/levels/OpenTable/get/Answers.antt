use Rattle.std.proofs.Common.{ℕ, Err, subst, sym, Contains, rules}
use Rattle.byte_fields.specs.{StoredKey, lent_key}
use Rattle.disk.specs.{IsEnvironmental}
use Rattle.disk.specs.StillLemmas.{still}
use Rattle.sorted_table.specs.{IsOpenOn, LookupAnswer, table_file}
use Rattle.store_model.specs.{KeyRange, RangeHolds}
use Rattle.store_tables.specs.declared.error.EngineError.TheVariants as engine
use Rattle.store_tables.specs.LevelTables.{EntriesFind}
use Rattle.store_tables.specs.RefusalLemmas.{if_refuses}
use Rattle.store_tables.specs.TableReads.{LacksBlock}
use Rattle.store_tables.proofs.OpenTables.{damage_of_table, found_in, lookup_lacks, of_table}
use Rattle.store_tables.proofs.levels.OpenTable.get.Goals as goal

-- no call of the disk is made
pub returns-then-not-may_have-clause-reads : goal.returns-then-not-may_have-clause-reads
returns-then-not-may_have-clause-reads g c = record {
  kept = search rules;
  causes = search rules;
  still = λ honest. still _ _;
}

-- the table was not read
pub returns-in_err-get_hashed-clause-intact : goal.returns-in_err-get_hashed-clause-intact
returns-in_err-get_hashed-clause-intact g c = λ table honest served.
    if_refuses c.from_residual.result
    (IsEnvironmental engine.Disk engine.Memory) c.from_residual.ensures.1
    (of_table c.in_err-get_hashed.field-0.0
    (c.in_err-get_hashed.ensures.found table.entries honest served.serves))

-- the block of the key is not there
pub returns-in_err-get_hashed-clause-damaged : goal.returns-in_err-get_hashed-clause-damaged
returns-in_err-get_hashed-clause-damaged g c = λ meant table honest was refused.
    let disk = g.D.Disk.state c.args.files.now.disk in
    let it = c.args.self.now in
    let key = c.args.key.now in
    let e = c.in_err-get_hashed.field-0.0 in
    let file = disk (table_file it.table) in
    let in_range = subst (λ (r : KeyRange). RangeHolds r key) (sym was.serves.range)
    (c.may_have.ensures.0 c.if-not-may_have.false) in
    let checked = subst (λ (k : StoredKey).
    IsOpenOn file it.table → LookupAnswer file it.table k c.args.at (Err e)) c.lent.ensures.key
    (subst (λ (n : ℕ). IsOpenOn file it.table →
    LookupAnswer file it.table (lent_key c.lent.result) n (Err e)) c.get.ensures.same
    (c.in_err-get_hashed.ensures.checked honest)) in
    let lacks = lookup_lacks file (meant (table_file it.table)) it.table table.entries table.range
    key c.args.at e in_range was.serves.serves was.blocks
    (c.in_err-get_hashed.ensures.found table.entries honest) checked
    (damage_of_table c.from_residual.result e c.from_residual.ensures.1 refused) in
    subst (λ (f : ℕ). LacksBlock (disk f) table.range key c.args.at) (sym was.serves.file) lacks

-- what the table has
pub returns-clause-found : goal.returns-clause-found
returns-clause-found g c = λ meant table honest served fits.
    let found = c.in_ok-get_hashed.field-0 in
    let here = found_in table.entries (lent_key c.lent.result) c.get.result found
    (c.in_ok-get_hashed.ensures.meant honest (meant (table_file c.args.self.now.table))
    table.entries served.serves.serves served.blocks.blocks) in
    subst (λ (k : StoredKey). EntriesFind c.args.at (Contains table.entries) k found)
    c.lent.ensures.key
    (subst (λ (n : ℕ). EntriesFind n (Contains table.entries) (lent_key c.lent.result) found)
    c.get.ensures.same here)
