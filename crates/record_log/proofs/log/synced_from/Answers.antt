-- A sync and reads leave nothing new.
use Rattle.disk.specs.StillLemmas.{still, still_same, still_sync, still_more}
use Rattle.record_log.proofs.log.synced_from.Goals as goal

pub returns-in_err-sync-clause-still : goal.returns-in_err-sync-clause-still
returns-in_err-sync-clause-still g c = λ honest.
    still_sync c.sync.result c.args.file
    (still (g.D.Disk.state c.args.disk.now) (g.D.Disk.past c.args.disk.now))
    (c.sync.ensures.passes honest).moment (c.sync.ensures.syncs honest)

pub returns-in_err-length-clause-still : goal.returns-in_err-length-clause-still
returns-in_err-length-clause-still g c = λ honest.
    let honest' = c.sync.ensures.kept.disk.honest.1 honest in
    still_same (still_sync c.sync.result c.args.file
    (still (g.D.Disk.state c.args.disk.now) (g.D.Disk.past c.args.disk.now))
    (c.sync.ensures.passes honest).moment (c.sync.ensures.syncs honest))
    (c.length.ensures.passes honest').moment (c.length.ensures.kept.disk.files honest')

pub returns-then-length-start-clause-still : goal.returns-then-length-start-clause-still
returns-then-length-start-clause-still g c = λ honest.
    let honest' = c.sync.ensures.kept.disk.honest.1 honest in
    still_same (still_sync c.sync.result c.args.file
    (still (g.D.Disk.state c.args.disk.now) (g.D.Disk.past c.args.disk.now))
    (c.sync.ensures.passes honest).moment (c.sync.ensures.syncs honest))
    (c.length.ensures.passes honest').moment (c.length.ensures.kept.disk.files honest')

pub returns-clause-still : goal.returns-clause-still
returns-clause-still g c = λ honest.
    let honest' = c.sync.ensures.kept.disk.honest.1 honest in
    let honest'' = c.length.ensures.kept.disk.honest.1 honest' in
    still_more (still_same
    (still_sync c.sync.result c.args.file
    (still (g.D.Disk.state c.args.disk.now) (g.D.Disk.past c.args.disk.now))
    (c.sync.ensures.passes honest).moment (c.sync.ensures.syncs honest))
    (c.length.ensures.passes honest').moment (c.length.ensures.kept.disk.files honest'))
    (c.bytes_at.ensures.still honest'')
