use Rattle.std.proofs.Common.{inl}
use Rattle.std.proofs.lemmas.Result.{err_from_is_err_and}
use Rattle.disk.specs.StillLemmas.{still}
use Rattle.record_log.proofs.Spans.{given, there}
use Rattle.record_log.proofs.log.Log.record.Goals as goal

-- the bytes that are read are the record's
pub returns-clause-given : goal.returns-clause-given
returns-clause-given g c = λ records honest h.
    given (g.D.Disk.state c.args.disk.now) c.args.self.now records c.args.index
    c.span-begin.result.0 c.span-begin.result.1 c.saturating_add-at.result h c.requires
    c.span-begin.ensures.begin c.span-begin.ensures.len c.saturating_add-at.ensures _
    (c.in_ok-bytes_at.ensures.read honest)

-- they are there to be read
pub returns-in_err-bytes_at-clause-given : goal.returns-in_err-bytes_at-clause-given
returns-in_err-bytes_at-clause-given g c = λ records honest h.
    let p = err_from_is_err_and c.from_residual.result c.from_residual.ensures.1 in
    rw (p.1, p.2) (inl (there (g.D.Disk.state c.args.disk.now) c.args.self.now records
    c.args.index c.span-begin.result.0 c.span-begin.result.1 c.saturating_add-at.result h
    c.requires c.span-begin.ensures.begin c.span-begin.ensures.len c.saturating_add-at.ensures
    c.in_err-bytes_at.field-0.0 (c.in_err-bytes_at.ensures.read honest)))

-- a log that failed reads nothing
pub returns-then-self-clause-still : goal.returns-then-self-clause-still
returns-then-self-clause-still g c = λ honest. still _ _
