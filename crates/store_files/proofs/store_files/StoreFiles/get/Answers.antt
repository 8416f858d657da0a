use Rattle.std.proofs.Common.{◌∙◌, subst, sym, take}
use Rattle.byte_fields.specs.{StoredKey}
use Rattle.store_tables.specs.TableReads.{OneNamedLacksBlock}
use Rattle.store_tables.specs.RefusalLemmas.{if_refuses, passed_cause}
use Rattle.disk.specs.{IsEnvironmental}
use Rattle.store_tables.specs.declared.error.EngineError.TheVariants as engine
use Rattle.store_files.specs.OpenFiles.{MemoryLacks}
use Rattle.store_files.proofs.LookUps.{answered_alike, of_row, unread_passed}
use Rattle.store_files.proofs.store_files.StoreFiles.get.Goals as goal

-- what is shown at the key of a row is what the map has
pub returns-clause-found : goal.returns-clause-found
returns-clause-found g c = λ list honest w floor count.
    c.value_in.ensures ∙ (c.in_ok-find.ensures.found list honest w floor count).left
    ∙ of_row c.rows_are_stored.ensures (take c.args.at list) c.args.key.now
    c.stored-stored.result.now c.stored-stored.ensures

-- a table lacks the block of the key
pub returns-in_err-find-clause-damaged : goal.returns-in_err-find-clause-damaged
returns-in_err-find-clause-damaged g c = λ list honest w refused.
    subst (λ (k : StoredKey). OneNamedLacksBlock (g.D.Disk.state c.args.files.now.disk)
    c.args.self.now.manifest.version.version.tables k c.args.at) c.stored-stored.ensures
    (c.in_err-find.ensures.damaged list honest w
    (passed_cause c.from_residual.result c.from_residual.ensures.1 refused))

-- what memory has needs no disk
pub returns-in_err-find-clause-memory : goal.returns-in_err-find-clause-memory
returns-in_err-find-clause-memory g c = λ seen.
    unread_passed c.from_residual.result c.from_residual.ensures.1
    (c.in_err-find.ensures.memory (λ lacks.
    seen (subst (MemoryLacks c.args.self.now c.args.at) c.stored-stored.ensures lacks)))

pub returns-clause-memory : goal.returns-clause-memory
returns-clause-memory g c = λ seen. record {
  same = (c.in_ok-find.ensures.memory (λ lacks.
      seen (subst (MemoryLacks c.args.self.now c.args.at) c.stored-stored.ensures lacks))).same;
  causes = tt;
}

-- undamaged tables are read
pub returns-in_err-find-clause-intact : goal.returns-in_err-find-clause-intact
returns-in_err-find-clause-intact g c = λ list honest h.
    if_refuses c.from_residual.result (IsEnvironmental engine.Disk engine.Memory)
    c.from_residual.ensures.1 (c.in_err-find.ensures.intact list honest h)

-- no more is read
pub returns-clause-reads : goal.returns-clause-reads
returns-clause-reads g c =
    answered_alike _ c.args.files.now c.find.new.files c.in_ok-find.field-0 c.value_in.result
    c.in_ok-find.ensures.reads
