use Rattle.std.proofs.Common.{ℕ, List, false, refl, subst}
use Rattle.std.proofs.lemmas.Result.{err_from_is_err_and}
use Rattle.disk.specs.{seen}
use Rattle.record_log.specs.declared.log.Log.{Log}
use Rattle.record_log.specs.declared.log.OpenedLog.{OpenedLog}
use Rattle.record_log.specs.Error.{log_error}
use Rattle.record_log.specs.Grammar.{Represents}
use Rattle.record_log.specs.Logs.{HasRead}
use Rattle.record_log.proofs.Opens.{declines_bytes, declined, had_them, holds_them, read_them}
use Rattle.record_log.proofs.log.Log.open.Goals as goal

-- what is no bytes from that place on is no log
pub returns-in_err-bytes-clause-told : goal.returns-in_err-bytes-clause-told
returns-in_err-bytes-clause-told g c = λ honest.
    let p = err_from_is_err_and c.from_residual.result c.from_residual.ensures.1 in
    rw (p.1, p.2) (declines_bytes c.in_err-bytes.field-0.0 (g.D.Disk.state c.args.disk.now)
    c.args.file c.args.start (c.in_err-bytes.ensures.read honest))

-- opening a file that represents records is refused for environment errors alone
pub returns-in_err-bytes-clause-opened : goal.returns-in_err-bytes-clause-opened
returns-in_err-bytes-clause-opened g c = λ records honest stood.
    let p = err_from_is_err_and c.from_residual.result c.from_residual.ensures.1 in
    let e = c.in_err-bytes.field-0.0 in
    let bytes = seen (g.D.Disk.state c.args.disk.now c.args.file) in
    let why = declines_bytes e (g.D.Disk.state c.args.disk.now) c.args.file c.args.start
    (c.in_err-bytes.ensures.read honest) in
    rw (p.1, p.2) (declined (log_error e) bytes c.args.start records why stood)

-- the file is durable with the bytes that were read, of which the scan found the records
pub returns-clause-told : goal.returns-clause-told
returns-clause-told g c = λ honest.
    let found = rw c.in-Some.is at c.in_ok-ends.ensures in
    let old = g.D.Disk.state c.args.disk.now in
    let new = g.D.Disk.state c.synced_from.new.disk in
    let log : Log = record {
      file = c.args.file;
      start = c.args.start;
      ends = c.in-Some.ends;
      end = c.in-Some.end;
      has_failed = false;
      behind = c.new.result;
    } in
    let opened : OpenedLog = record { log = log; bytes = c.in_ok-bytes.bytes } in
    let rest = c.in_ok-bytes.ensures.read honest in
    let stands : Represents c.in_ok-bytes.bytes.items found.0 =
    subst (λ (b : List ℕ). Represents b found.0) c.deref.ensures.value found.1 in
    let read : HasRead opened found.0 = read_them opened found.0 stands found.2 in
    let stood = had_them old new c.args.file c.args.start opened found.0 rest read in
    let them = holds_them old new c.args.file c.args.start opened found.0 found.0 rest read refl
    refl
    found.3 stood in
    record {
      bytes = rest.whole;
      was = rest.was;
      sure = rest.sure;
      records = found.0;
      stood = stood;
      holds = them.0;
      read = them.1;
    }

-- what the scan found are the file's records
pub returns-clause-opened : goal.returns-clause-opened
returns-clause-opened g c = λ records honest stood.
    let found = rw c.in-Some.is at c.in_ok-ends.ensures in
    let old = g.D.Disk.state c.args.disk.now in
    let new = g.D.Disk.state c.synced_from.new.disk in
    let log : Log = record {
      file = c.args.file;
      start = c.args.start;
      ends = c.in-Some.ends;
      end = c.in-Some.end;
      has_failed = false;
      behind = c.new.result;
    } in
    let opened : OpenedLog = record { log = log; bytes = c.in_ok-bytes.bytes } in
    let stands : Represents c.in_ok-bytes.bytes.items found.0 =
    subst (λ (b : List ℕ). Represents b found.0) c.deref.ensures.value found.1 in
    let read : HasRead opened found.0 = read_them opened found.0 stands found.2 in
    holds_them old new c.args.file c.args.start opened found.0 records
    (c.in_ok-bytes.ensures.read honest) read refl refl found.3 stood
