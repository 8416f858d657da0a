use Rattle.manifest.proofs.Replaces.{shut_synced, shut_wrote, shut_done}
use Rattle.manifest.proofs.replace.shut.Goals as goal

-- the sync leaves nothing new
pub returns-then-not-is_open-clause-any_moment : goal.returns-then-not-is_open-clause-any_moment
returns-then-not-is_open-clause-any_moment g c = λ was honest sure gate behind.
    shut_synced g.D.Disk.state g.D.Disk.past c.args.is_open was behind c.args.file
    c.args.disk.now sure gate
    c.sync.new.self c.sync.result (c.sync.ensures.syncs honest)
    (c.sync.ensures.passes honest).moment

-- while the gate is being closed
pub returns-in_err-write_at-clause-any_moment : goal.returns-in_err-write_at-clause-any_moment
returns-in_err-write_at-clause-any_moment g c = λ was honest sure gate behind.
    shut_wrote g.D.Disk.state g.D.Disk.past c.args.is_open was behind c.args.file
    c.args.disk.now sure gate
    c.write_at.new.self c.write_at.result c.if-not-is_open.false
    (c.write_at.ensures.writes honest) (c.write_at.ensures.kept.disk.files honest)
    (c.write_at.ensures.passes honest).moment

-- and synced
pub returns-clause-any_moment : goal.returns-clause-any_moment
returns-clause-any_moment g c = λ was honest sure gate behind.
    let honest1 = c.write_at.ensures.kept.disk.honest.1 honest in
    shut_done g.D.Disk.state g.D.Disk.past c.args.is_open was behind c.args.file
    c.args.disk.now sure gate
    c.write_at.new.self c.write_at.result c.if-not-is_open.false
    (c.write_at.ensures.writes honest) (c.write_at.ensures.kept.disk.files honest)
    (c.write_at.ensures.passes honest).moment c.sync-2.new.self
    c.sync-2.result (c.sync-2.ensures.syncs honest1) (c.sync-2.ensures.passes honest1).moment
