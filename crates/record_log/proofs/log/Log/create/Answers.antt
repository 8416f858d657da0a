use Rattle.record_log.proofs.Creates.{one_call, then_call}
use Rattle.record_log.proofs.log.Log.create.Goals as goal

-- each call is one on the log's file

pub returns-in_err-write_at-clause-any_moment : goal.returns-in_err-write_at-clause-any_moment
returns-in_err-write_at-clause-any_moment g c = λ honest.
    one_call c.args.file (g.D.Disk.state c.args.disk.now) (g.D.Disk.state c.write_at.new.self)
    (g.D.Disk.past c.args.disk.now) (g.D.Disk.past c.write_at.new.self)
    (c.write_at.ensures.passes honest).moment (c.write_at.ensures.kept.disk.files honest)

pub returns-in_err-sync-clause-any_moment : goal.returns-in_err-sync-clause-any_moment
returns-in_err-sync-clause-any_moment g c = λ honest.
    let honest' = c.write_at.ensures.kept.disk.honest.1 honest in
    then_call c.args.file (g.D.Disk.state c.args.disk.now) (g.D.Disk.state c.write_at.new.self)
    (g.D.Disk.state c.sync.new.self) (g.D.Disk.past c.args.disk.now)
    (g.D.Disk.past c.write_at.new.self) (g.D.Disk.past c.sync.new.self)
    (c.write_at.ensures.passes honest).moment (c.write_at.ensures.kept.disk.files honest)
    (c.sync.ensures.passes honest').moment (c.sync.ensures.kept.disk.files honest')

pub returns-clause-any_moment : goal.returns-clause-any_moment
returns-clause-any_moment g c = λ honest.
    let honest' = c.write_at.ensures.kept.disk.honest.1 honest in
    then_call c.args.file (g.D.Disk.state c.args.disk.now) (g.D.Disk.state c.write_at.new.self)
    (g.D.Disk.state c.sync.new.self) (g.D.Disk.past c.args.disk.now)
    (g.D.Disk.past c.write_at.new.self) (g.D.Disk.past c.sync.new.self)
    (c.write_at.ensures.passes honest).moment (c.write_at.ensures.kept.disk.files honest)
    (c.sync.ensures.passes honest').moment (c.sync.ensures.kept.disk.files honest')
