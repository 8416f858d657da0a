use Rattle.std.proofs.Common.{Err, refl}
use Rattle.store_tables.specs.declared.error.EngineError.TheVariants as error
use Rattle.disk.specs.KeepingLemmas.{same_files}
use Rattle.engine.proofs.Engines.{meant_as_held, were_meant}
use Rattle.engine.proofs.Results.{ends_or_after}
use Rattle.engine.proofs.Unchanged.{none_keeps, reads_none, reads_so}
use Rattle.engine.proofs.engine.Engine.batch.Goals as goal

-- no call of the disk is made
pub returns-then-self-clause-reads : goal.returns-then-self-clause-reads
returns-then-self-clause-reads g c =
    let it = c.args.self.now in
    reads_none g.D.Disk it error.Failed (Err error.Failed) refl (none_keeps g.D.Disk it error.Failed
    (Err error.Failed) refl (λ end. end) (λ _. c.if-self.true, λ _. refl) same_files)

-- the record of the log is that of the batch
pub returns-clause-found : goal.returns-clause-found
returns-clause-found g c = record {
  reads = λ list r.
      c.batch-answer.ensures.found list r.honest
      (meant_as_held g.D.Disk c.held_files_are_left.ensures c.args.self.now list r);
  meant = λ list m.
      c.batch-answer.ensures.found list m.honest (were_meant g.D.Disk c.args.self.now list m);
}

pub returns-clause-causes : goal.returns-clause-causes
returns-clause-causes g c =
    ends_or_after c.batch-answer.result c.batch-answer.ensures.reads.causes

pub returns-clause-reads : goal.returns-clause-reads
returns-clause-reads g c =
    reads_so g.D.Disk c.held_files_are_left.ensures c.merges_outlive_calls.ensures c.args.self.now _
    c.batch-answer.result (λ h. let off = c.if-self.false in cc) c.batch-answer.ensures.reads refl
    refl c.is_err-self.ensures.value
