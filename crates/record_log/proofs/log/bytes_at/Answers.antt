-- A read leaves nothing new.
use Rattle.disk.specs.StillLemmas.{still, still_same}
use Rattle.record_log.proofs.log.bytes_at.Goals as goal

pub returns-in_err-bytes-clause-still : goal.returns-in_err-bytes-clause-still
returns-in_err-bytes-clause-still g c = λ honest. still _ _

pub returns-in_err-read-clause-still : goal.returns-in_err-read-clause-still
returns-in_err-read-clause-still g c = λ honest.
    still_same (still (g.D.Disk.state c.args.disk.now) (g.D.Disk.past c.args.disk.now))
    (c.read.ensures.passes honest).moment (c.read.ensures.kept.disk.files honest)

pub returns-clause-still : goal.returns-clause-still
returns-clause-still g c = λ honest.
    still_same (still (g.D.Disk.state c.args.disk.now) (g.D.Disk.past c.args.disk.now))
    (c.read.ensures.passes honest).moment (c.read.ensures.kept.disk.files honest)
