use Rattle.std.proofs.Common.{◌≡◌, ◌++◌, ◌∷◌, [], false, refl, ◌∙◌, arith}
use Rattle.std.proofs.lemmas.Result.{err_from_is_err_and}
use Rattle.record_log.specs.declared.log.Log.{Log}
use Rattle.record_log.proofs.Appends.{unchanged, is_met, gated, crashed}
use Rattle.record_log.proofs.Appends.{spelled, appended}
use Rattle.record_log.proofs.log.Log.append.Goals as goal

-- ---- what a crash leaves at each moment; before the four calls nothing was done

pub returns-then-self-clause-any_moment : goal.returns-then-self-clause-any_moment
returns-then-self-clause-any_moment g c = λ records honest h.
    unchanged _ _ c.args.self.now records c.args.bytes.now h

pub returns-then-bytes-gt-MAX_RECORD-clause-any_moment :
    goal.returns-then-bytes-gt-MAX_RECORD-clause-any_moment
returns-then-bytes-gt-MAX_RECORD-clause-any_moment g c = λ records honest h.
    unchanged _ _ c.args.self.now records c.args.bytes.now h

pub returns-in_err-spell_behind-clause-any_moment :
    goal.returns-in_err-spell_behind-clause-any_moment
returns-in_err-spell_behind-clause-any_moment g c = λ records honest h.
    unchanged _ _ c.args.self.now records c.args.bytes.now h

pub returns-in_err-reserve-clause-any_moment : goal.returns-in_err-reserve-clause-any_moment
returns-in_err-reserve-clause-any_moment g c = λ records honest h.
    unchanged _ _ c.args.self.now records c.args.bytes.now h

-- on the way a crash leaves the record or not
pub returns-in_err-write_gated-clause-any_moment : goal.returns-in_err-write_gated-clause-any_moment
returns-in_err-write_gated-clause-any_moment g c = λ records honest h.
    let old = g.D.Disk.state c.args.disk.now in
    let new = g.D.Disk.state c.write_gated.new.disk in
    let behind = c.deref.ensures.value ∙ c.in_ok-spell_behind.ensures in
    crashed old c.args.self.now records c.args.bytes.now c.gate-gate.result h (omega arith)
    c.gate-gate.ensures.gate new (g.D.Disk.past c.args.disk.now)
    (g.D.Disk.past c.write_gated.new.disk)
    c.deref.result.now behind (λ all. c.write_gated.ensures.any_moment all honest)

-- and so it does at the end
pub returns-clause-any_moment : goal.returns-clause-any_moment
returns-clause-any_moment g c = λ records honest h.
    let old = g.D.Disk.state c.args.disk.now in
    let new = g.D.Disk.state c.write_gated.new.disk in
    let behind = c.deref.ensures.value ∙ c.in_ok-spell_behind.ensures in
    crashed old c.args.self.now records c.args.bytes.now c.gate-gate.result h (omega arith)
    c.gate-gate.ensures.gate new (g.D.Disk.past c.args.disk.now)
    (g.D.Disk.past c.write_gated.new.disk)
    c.deref.result.now behind (λ all. c.write_gated.ensures.any_moment all honest)

-- ---- what it answers

-- the device's failure and want of memory are all that the four calls meet
pub returns-in_err-write_gated-clause-appended : goal.returns-in_err-write_gated-clause-appended
returns-in_err-write_gated-clause-appended g c = λ records honest h.
    let old = g.D.Disk.state c.args.disk.now in
    let behind = c.deref.ensures.value ∙ c.in_ok-spell_behind.ensures in
    let why = c.in_err-write_gated.ensures.done _ honest
    (gated old c.args.self.now records c.args.bytes.now c.gate-gate.result h (omega arith)
    c.gate-gate.ensures.gate c.deref.result.now behind) in
    let p = err_from_is_err_and c.from_residual-in_err-write_gated.result
    c.from_residual-in_err-write_gated.ensures.1 in
    rw (p.1, p.2) (is_met c.in_err-write_gated.field-0.0 why)

-- the bytes up to the gate stay, and behind it stand those of the record
pub returns-clause-spelled : goal.returns-clause-spelled
returns-clause-spelled g c = λ records honest h.
    let old = g.D.Disk.state c.args.disk.now in
    let new = g.D.Disk.state c.write_gated.new.disk in
    let behind = c.deref.ensures.value ∙ c.in_ok-spell_behind.ensures in
    spelled old c.args.self.now records c.args.bytes.now c.gate-gate.result h (omega arith)
    c.gate-gate.ensures.gate new c.deref.result.now behind
    (c.in_ok-write_gated.ensures.done _ honest
    (gated old c.args.self.now records c.args.bytes.now c.gate-gate.result h (omega arith)
    c.gate-gate.ensures.gate c.deref.result.now behind)).0

-- the record is one more, and the log knows where it ends
pub returns-clause-appended : goal.returns-clause-appended
returns-clause-appended g c = λ records honest h.
    let log = c.args.self.now in
    let one = c.args.bytes.now in
    let old = g.D.Disk.state c.args.disk.now in
    let behind = c.deref.ensures.value ∙ c.in_ok-spell_behind.ensures in
    let end = c.saturating_add-self.result in
    let after : Log = record {
      file = log.file;
      start = log.start;
      ends = c.push_reserved.new.self;
      end = end;
      has_failed = false;
      behind = c.spell_behind.new.out;
    } in
    let ends : c.push_reserved.new.self.items ≡ log.ends.items ++ end ∷ [] =
    rw (c.push_reserved.ensures.items, c.reserve.ensures.items) refl in
    appended old log records one c.gate-gate.result h (omega arith) c.gate-gate.ensures.gate
    (g.D.Disk.state c.write_gated.new.disk) after c.deref.result.now c.saturating_add.result behind
    (c.in_ok-write_gated.ensures.done _ honest
    (gated old log records one c.gate-gate.result h (omega arith) c.gate-gate.ensures.gate
    c.deref.result.now behind)) refl refl c.saturating_add.ensures
    c.saturating_add-self.ensures ends
