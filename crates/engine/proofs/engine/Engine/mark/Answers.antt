use Rattle.std.proofs.Common.{Err, refl}
use Rattle.byte_fields.specs.{mark_key}
use Rattle.store_tables.specs.declared.error.EngineError.TheVariants as error
use Rattle.disk.specs.KeepingLemmas.{same_files}
use Rattle.store_files.specs.OpenFiles.{batch_count}
use Rattle.engine.specs.Engines.{engine_disk}
use Rattle.engine.proofs.Engines.{held_of, meant_as_held, no_damage, were_meant}
use Rattle.engine.proofs.MemoryReads.{needs_none, refused_unread}
use Rattle.engine.proofs.Results.{answer_or_end}
use Rattle.engine.proofs.Unchanged.{none_keeps, reads_none, reads_so}
use Rattle.engine.proofs.engine.Engine.mark.Goals as goal

-- no call of the disk is made
pub returns-then-self-clause-reads : goal.returns-then-self-clause-reads
returns-then-self-clause-reads g c =
    let it = c.args.self.now in
    reads_none g.D.Disk it error.Failed (Err error.Failed) refl (none_keeps g.D.Disk it error.Failed
    (Err error.Failed) refl (λ end. end) (λ _. c.if-self.true, λ _. refl) same_files)

pub returns-then-self-clause-memory : goal.returns-then-self-clause-memory
returns-then-self-clause-memory g c =
    let unread = refused_unread (engine_disk c.args.self.now) (Err error.Failed) error.Failed refl
    (λ end. end) in
    record { reads = λ list r has. unread; meant = λ list m has. unread }

-- an engine that has ended has no list
pub returns-then-self-clause-damaged : goal.returns-then-self-clause-damaged
returns-then-self-clause-damaged g c = record {
  reads = λ list r damaged. absurd (r.works c.if-self.true);
  meant = λ list m damaged. absurd (m.works c.if-self.true);
}

-- its number is one of a batch, or it is refused as of any disk
pub returns-clause-told : goal.returns-clause-told
returns-clause-told g c =
    answer_or_end c.mark-answer.result _ c.mark-answer.ensures.within
    c.mark-answer.ensures.reads.causes

-- what memory and tables have of the client is what the list has
pub returns-clause-found : goal.returns-clause-found
returns-clause-found g c =
    let found = c.mark-answer.ensures.found in
    record {
      reads = λ list r. found list r.honest (meant_as_held g.D.Disk
          c.held_files_are_left.ensures c.args.self.now list r);
      meant = λ list m. found list m.honest (were_meant g.D.Disk c.args.self.now list m);
    }

-- a table lacks the block of its key
pub returns-clause-damaged : goal.returns-clause-damaged
returns-clause-damaged g c =
    let damaged = c.mark-answer.ensures.damaged in
    record {
      reads = λ list r. damaged list r.honest (meant_as_held g.D.Disk
          c.held_files_are_left.ensures c.args.self.now list r);
      meant = λ list m. damaged list m.honest (were_meant g.D.Disk c.args.self.now list m);
    }

-- what memory has is answered without the disk
pub returns-clause-memory : goal.returns-clause-memory
returns-clause-memory g c =
    let it = c.args.self.now in
    let key = mark_key c.args.client in
    let unread = c.mark-answer.ensures.memory in
    record {
      reads = λ list r.
          let was = meant_as_held g.D.Disk c.held_files_are_left.ensures it list r in
          needs_none g.D.Disk it.files _ it.store (batch_count it.store) key c.mark-answer.result
          (unread list r.honest was) list was;
      meant = λ list m.
          let was = were_meant g.D.Disk it list m in
          needs_none g.D.Disk it.files _ it.store (batch_count it.store) key c.mark-answer.result
          (unread list m.honest was) list was;
    }

pub returns-clause-intact : goal.returns-clause-intact
returns-clause-intact g c = λ list r.
    no_damage c.mark-answer.result (c.mark-answer.ensures.intact list r.honest
    (held_of g.D.Disk c.args.self.now list r))

pub returns-clause-reads : goal.returns-clause-reads
returns-clause-reads g c =
    reads_so g.D.Disk c.held_files_are_left.ensures c.merges_outlive_calls.ensures c.args.self.now _
    c.mark-answer.result (λ h. let off = c.if-self.false in cc) c.mark-answer.ensures.reads refl
    refl c.is_err-self.ensures.value
