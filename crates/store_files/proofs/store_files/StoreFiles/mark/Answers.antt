use Rattle.std.proofs.Common.{◌≡◌, ◌≤◌, ℕ, arith, refl, rules, subst}
use Rattle.std.specs.Prelude.{IfOk, IfSome}
use Rattle.disk.specs.{IsEnvironmental}
use Rattle.disk.specs.StillLemmas.{still}
use Rattle.byte_fields.specs.{StoredKey, mark_key}
use Rattle.store_tables.specs.declared.error.EngineError.TheVariants as engine
use Rattle.store_tables.specs.Errors.{IsEnd}
use Rattle.store_tables.specs.TableReads.{OneNamedLacksBlock}
use Rattle.store_tables.specs.RefusalLemmas.{if_refuses, passed_cause}
use Rattle.store_files.specs.OpenFiles.{WereMeantToHold}
use Rattle.store_files.proofs.LookUps.{unread_passed}
use Rattle.store_files.proofs.MarkReads.{MarkLaws, files_show, lacks_client, mark_told}
use Rattle.store_files.proofs.MarkReads.{not_damage, not_refused}
use Rattle.store_files.proofs.Meant.{meant_as_is}
use Rattle.store_files.proofs.store_files.StoreFiles.mark.Goals as goal

-- no call of the disk
pub returns-in_err-key-clause-reads : goal.returns-in_err-key-clause-reads
returns-in_err-key-clause-reads g c = record {
  kept = search rules;
  causes = search rules;
  still = λ honest.
      still (g.D.Disk.state c.args.files.now.disk) (g.D.Disk.past c.args.files.now.disk);
}

-- what is shown at the key of the client is its last mark
pub returns-clause-found : goal.returns-clause-found
returns-clause-found g c = λ list honest w.
    let laws : MarkLaws =
    record { shown = c.views_are_marks.ensures; last = c.held_is_last.ensures } in
    mark_told c.mark_of.result (files_show laws (g.D.Disk.state c.args.files.now.disk)
    c.args.self.now list w c.args.client (omega arith) c.last_number-at.result
    c.last_number-at.ensures c.in_ok-key.key c.in_ok-key.ensures c.in_ok-find.field-0
    (c.in_ok-find.ensures.found list honest w)) c.mark_of.ensures.held

-- its number is one of a batch
pub returns-clause-within : goal.returns-clause-within
returns-clause-within g c =
    subst (λ (n : ℕ). IfOk c.mark_of.result (λ held. IfSome held (λ it. it.number ≤ n)))
    c.last_number-at.ensures c.mark_of.ensures.within

-- which is no damage
pub returns-clause-intact : goal.returns-clause-intact
returns-clause-intact g c = λ list honest h.
    let disk = g.D.Disk.state c.args.files.now.disk in
    let files = c.args.self.now in
    let laws : MarkLaws =
    record { shown = c.views_are_marks.ensures; last = c.held_is_last.ensures } in
    let w : WereMeantToHold disk files list =
    record { meant = disk; hold = h; disk_is = meant_as_is disk files list h } in
    not_refused c.mark_of.result (IsEnvironmental engine.Disk engine.Memory)
    (files_show laws disk files list w c.args.client (omega arith) c.last_number-at.result
    c.last_number-at.ensures c.in_ok-key.key c.in_ok-key.ensures c.in_ok-find.field-0
    (c.in_ok-find.ensures.found list honest w)).entry c.mark_of.ensures.damaged

pub returns-clause-damaged : goal.returns-clause-damaged
returns-clause-damaged g c = λ list honest w refused.
    let laws : MarkLaws =
    record { shown = c.views_are_marks.ensures; last = c.held_is_last.ensures } in
    absurd (not_damage c.mark_of.result
    (files_show laws (g.D.Disk.state c.args.files.now.disk) c.args.self.now list w c.args.client
    (omega arith) c.last_number-at.result c.last_number-at.ensures c.in_ok-key.key
    c.in_ok-key.ensures c.in_ok-find.field-0
    (c.in_ok-find.ensures.found list honest w)).entry c.mark_of.ensures.damaged refused)

-- undamaged tables are read
pub returns-in_err-find-clause-intact : goal.returns-in_err-find-clause-intact
returns-in_err-find-clause-intact g c = λ list honest h.
    if_refuses c.from_residual-in_err-find.result (IsEnvironmental engine.Disk engine.Memory)
    c.from_residual-in_err-find.ensures.1 (c.in_err-find.ensures.intact list honest h)

-- a table lacks the block of the key
pub returns-in_err-find-clause-damaged : goal.returns-in_err-find-clause-damaged
returns-in_err-find-clause-damaged g c = λ list honest w refused.
    let lines = c.args.self.now.manifest.version.version.tables in
    let disk = g.D.Disk.state c.args.files.now.disk in
    subst (λ (n : ℕ). OneNamedLacksBlock disk lines (mark_key c.args.client) n)
    c.last_number-at.ensures
    (subst (λ (k : StoredKey). OneNamedLacksBlock disk lines k c.last_number-at.result)
    c.in_ok-key.ensures
    (c.in_err-find.ensures.damaged list honest w
    (passed_cause c.from_residual-in_err-find.result c.from_residual-in_err-find.ensures.1
    refused)))

-- of memory alone
pub returns-in_err-key-clause-memory : goal.returns-in_err-key-clause-memory
returns-in_err-key-clause-memory g c = λ list honest w seen. record {
  same = refl;
  causes = if_refuses c.from_residual.result (λ e. IsEnd e → e ≡ engine.Memory)
      c.from_residual.ensures.1 (λ end. refl);
}

-- what memory has needs no disk
pub returns-in_err-find-clause-memory : goal.returns-in_err-find-clause-memory
returns-in_err-find-clause-memory g c = λ list honest w seen.
    unread_passed c.from_residual-in_err-find.result c.from_residual-in_err-find.ensures.1
    (c.in_err-find.ensures.memory (λ lacks. seen (lacks_client c.args.self.now
    c.args.client c.last_number-at.result c.last_number-at.ensures c.in_ok-key.key
    c.in_ok-key.ensures lacks)))

pub returns-clause-memory : goal.returns-clause-memory
returns-clause-memory g c = λ list honest w seen.
    let laws : MarkLaws =
    record { shown = c.views_are_marks.ensures; last = c.held_is_last.ensures } in
    let unread = c.in_ok-find.ensures.memory (λ lacks. seen (lacks_client c.args.self.now
    c.args.client c.last_number-at.result c.last_number-at.ensures c.in_ok-key.key
    c.in_ok-key.ensures lacks)) in
    record {
      same = unread.same;
      causes = not_refused c.mark_of.result (λ e. IsEnd e → e ≡ engine.Memory)
          (files_show laws (g.D.Disk.state c.args.files.now.disk) c.args.self.now list w
          c.args.client (omega arith) c.last_number-at.result c.last_number-at.ensures
          c.in_ok-key.key c.in_ok-key.ensures c.in_ok-find.field-0
          (c.in_ok-find.ensures.found list honest w)).entry c.mark_of.ensures.damaged;
    }
