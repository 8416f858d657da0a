-- After each of the four calls a crash leaves a content on the way.
use Rattle.record_log.proofs.GateMoments.{after_write, after_sync, after_gate, after_last}
use Rattle.record_log.proofs.gate.write_gated.Goals as goal

-- the first write
pub returns-in_err-write_at-clause-any_moment : goal.returns-in_err-write_at-clause-any_moment
returns-in_err-write_at-clause-any_moment g c = λ all honest w.
    after_write g.D.Disk.state g.D.Disk.past c.args.gate c.args.at c.args.bytes.now all c.args.file
    c.args.disk.now w c.write_at.new.self c.write_at.result (c.write_at.ensures.writes honest)
    (c.write_at.ensures.kept.disk.files honest) (c.write_at.ensures.passes honest).moment

-- the first sync
pub returns-in_err-sync-clause-any_moment : goal.returns-in_err-sync-clause-any_moment
returns-in_err-sync-clause-any_moment g c = λ all honest w.
    let honest1 = c.write_at.ensures.kept.disk.honest.1 honest in
    after_sync g.D.Disk.state g.D.Disk.past c.args.gate c.args.at c.args.bytes.now all c.args.file
    c.args.disk.now w c.write_at.new.self c.write_at.result (c.write_at.ensures.writes honest)
    (c.write_at.ensures.kept.disk.files honest) (c.write_at.ensures.passes honest).moment
    c.sync.new.self c.sync.result (c.sync.ensures.syncs honest1)
    (c.sync.ensures.passes honest1).moment

-- the second write
pub returns-in_err-write_at-2-clause-any_moment : goal.returns-in_err-write_at-2-clause-any_moment
returns-in_err-write_at-2-clause-any_moment g c = λ all honest w.
    let honest1 = c.write_at.ensures.kept.disk.honest.1 honest in
    let honest2 = c.sync.ensures.kept.disk.honest.1 honest1 in
    after_gate g.D.Disk.state g.D.Disk.past c.args.gate c.args.at c.args.bytes.now all c.args.file
    c.args.disk.now w c.write_at.new.self c.write_at.result (c.write_at.ensures.writes honest)
    (c.write_at.ensures.kept.disk.files honest) (c.write_at.ensures.passes honest).moment
    c.sync.new.self c.sync.result (c.sync.ensures.syncs honest1)
    (c.sync.ensures.passes honest1).moment
    (c.in_ok-write_at.ensures.writes honest).2.here (c.in_ok-sync.ensures.syncs honest1).1.here
    (c.sync.ensures.kept.disk.files honest1) c.write_at-2.new.self c.write_at-2.result
    (c.write_at-2.ensures.writes honest2) (c.write_at-2.ensures.kept.disk.files honest2)
    (c.write_at-2.ensures.passes honest2).moment

-- the second sync
pub returns-clause-any_moment : goal.returns-clause-any_moment
returns-clause-any_moment g c = λ all honest w.
    let honest1 = c.write_at.ensures.kept.disk.honest.1 honest in
    let honest2 = c.sync.ensures.kept.disk.honest.1 honest1 in
    let honest3 = c.write_at-2.ensures.kept.disk.honest.1 honest2 in
    after_last g.D.Disk.state g.D.Disk.past c.args.gate c.args.at c.args.bytes.now all c.args.file
    c.args.disk.now w c.write_at.new.self c.write_at.result (c.write_at.ensures.writes honest)
    (c.write_at.ensures.kept.disk.files honest) (c.write_at.ensures.passes honest).moment
    c.sync.new.self c.sync.result (c.sync.ensures.syncs honest1)
    (c.sync.ensures.passes honest1).moment
    (c.in_ok-write_at.ensures.writes honest).2.here (c.in_ok-sync.ensures.syncs honest1).1.here
    (c.sync.ensures.kept.disk.files honest1) c.write_at-2.new.self c.write_at-2.result
    (c.write_at-2.ensures.writes honest2) (c.write_at-2.ensures.kept.disk.files honest2)
    (c.write_at-2.ensures.passes honest2).moment c.sync-2.new.self c.sync-2.result
    (c.sync-2.ensures.syncs honest3) (c.sync-2.ensures.passes honest3).moment
