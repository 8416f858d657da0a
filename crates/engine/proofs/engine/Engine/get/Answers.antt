use Rattle.std.proofs.lemmas.Grind.{common_steps}
use Rattle.std.proofs.Common.{◌≤◌, arith, refl}
use Rattle.byte_fields.specs.{row_key}
use Rattle.disk.specs.KeepingLemmas.{same_files}
use Rattle.store_files.specs.OpenFiles.{batch_count}
use Rattle.engine.specs.Engines.{engine_disk}
use Rattle.engine.proofs.Engines.{held_of, meant_as_held, no_damage, were_meant}
use Rattle.engine.proofs.MemoryReads.{needs_none, refused_unread}
use Rattle.engine.proofs.Results.{not_for_damage}
use Rattle.engine.proofs.Unchanged.{failed_as, none_keeps, reads_none, reads_so}
use Rattle.engine.proofs.engine.Engine.get.Goals as goal

-- no call of the disk is made
pub returns-in_err-may_read-clause-reads : goal.returns-in_err-may_read-clause-reads
returns-in_err-may_read-clause-reads g c =
    let it = c.args.self.now in
    let e = c.in_err-may_read.field-0.0 in
    let told = c.from_residual.ensures.1 in
    reads_none g.D.Disk it e c.from_residual.result told (none_keeps g.D.Disk it e
    c.from_residual.result told c.in_err-may_read.ensures.lives
    (failed_as c.in_err-may_read.ensures.closed) same_files)

-- what memory and tables have is what the list has
pub returns-clause-found : goal.returns-clause-found
returns-clause-found g c =
    let readable = c.in_ok-may_read.ensures.readable in
    let counted = c.args.self.now.counted.committed in
    let count : c.args.at ≤ batch_count c.args.self.now.store =
    omega (arith, readable.1, counted) in
    let found = c.get-answer.ensures.found in
    record {
      reads = λ list r. found list r.honest (meant_as_held g.D.Disk
          c.held_files_are_left.ensures c.args.self.now list r) readable.0 count;
      meant = λ list m. found list m.honest (were_meant g.D.Disk c.args.self.now list m)
          readable.0 count;
    }

-- and no damage was met
pub returns-in_err-may_read-clause-damaged : goal.returns-in_err-may_read-clause-damaged
returns-in_err-may_read-clause-damaged g c =
    let never = not_for_damage c.from_residual.result c.in_err-may_read.field-0.0
    c.from_residual.ensures.1 c.in_err-may_read.ensures.lives in
    record {
      reads = λ list r damaged. absurd (never damaged);
      meant = λ list m damaged. absurd (never damaged);
    }

-- a table lacks the block of the key
pub returns-clause-damaged : goal.returns-clause-damaged
returns-clause-damaged g c =
    let damaged = c.get-answer.ensures.damaged in
    record {
      reads = λ list r. damaged list r.honest (meant_as_held g.D.Disk
          c.held_files_are_left.ensures c.args.self.now list r);
      meant = λ list m. damaged list m.honest (were_meant g.D.Disk c.args.self.now list m);
    }

-- memory is not asked
pub returns-in_err-may_read-clause-memory : goal.returns-in_err-may_read-clause-memory
returns-in_err-may_read-clause-memory g c =
    let unread = refused_unread (engine_disk c.args.self.now) c.from_residual.result
    c.in_err-may_read.field-0.0 c.from_residual.ensures.1 c.in_err-may_read.ensures.lives in
    record { reads = λ list r has. unread; meant = λ list m has. unread }

-- what memory has is answered without the disk
pub returns-clause-memory : goal.returns-clause-memory
returns-clause-memory g c =
    let it = c.args.self.now in
    record {
      reads = λ list r. needs_none g.D.Disk it.files _ it.store c.args.at (row_key c.args.key.now)
          c.get-answer.result c.get-answer.ensures.memory list
          (meant_as_held g.D.Disk c.held_files_are_left.ensures it list r);
      meant = λ list m. needs_none g.D.Disk it.files _ it.store c.args.at (row_key c.args.key.now)
          c.get-answer.result c.get-answer.ensures.memory list (were_meant g.D.Disk it list m);
    }

pub returns-clause-intact : goal.returns-clause-intact
returns-clause-intact g c = λ list r.
    no_damage c.get-answer.result (c.get-answer.ensures.intact list r.honest
    (held_of g.D.Disk c.args.self.now list r))

pub returns-clause-reads : goal.returns-clause-reads
returns-clause-reads g c =
    reads_so g.D.Disk c.held_files_are_left.ensures c.merges_outlive_calls.ensures c.args.self.now _
    c.get-answer.result (λ h. let failed = c.in_ok-may_read.ensures.closed.1 h in cc)
    c.get-answer.ensures.reads refl refl c.is_err-self.ensures.value

pub returns-in_err-may_read-clause-readable : goal.returns-in_err-may_read-clause-readable
returns-in_err-may_read-clause-readable g c = grind (arith, common_steps)

pub returns-in_err-may_read-clause-intact : goal.returns-in_err-may_read-clause-intact
returns-in_err-may_read-clause-intact g c = grind (arith, common_steps)

pub returns-clause-readable : goal.returns-clause-readable
returns-clause-readable g c = grind (arith, common_steps)
