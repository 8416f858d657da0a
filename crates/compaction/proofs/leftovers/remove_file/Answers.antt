use Rattle.std.proofs.Common.{◌≡◌, refl, rules}
use Rattle.compaction.proofs.Calls.{done, refused, writes_as, writes_call, writes_done}
use Rattle.compaction.proofs.leftovers.remove_file.Goals as goal

pub returns-in-Err-Failed-clause-writes : goal.returns-in-Err-Failed-clause-writes
returns-in-Err-Failed-clause-writes g c =
    let file = c.args.file in
    writes_as g.D.Disk (λ one. file ≡ one) (λ f. refl, λ f. search rules) (λ never. never)
    (writes_call g.D.Disk file c.remove.ensures.kept.disk
    (λ honest. (c.remove.ensures.passes honest).moment))

pub returns-in-Err-Memory-clause-writes : goal.returns-in-Err-Memory-clause-writes
returns-in-Err-Memory-clause-writes g c =
    let file = c.args.file in
    writes_done g.D.Disk (λ one. file ≡ one) (λ f. search rules) (refused (λ e. cc))
    (writes_call g.D.Disk file c.remove.ensures.kept.disk
    (λ honest. (c.remove.ensures.passes honest).moment))

pub returns-in-Err-Short-clause-writes : goal.returns-in-Err-Short-clause-writes
returns-in-Err-Short-clause-writes g c =
    let file = c.args.file in
    writes_done g.D.Disk (λ one. file ≡ one) (λ f. search rules) (refused (λ e. cc))
    (writes_call g.D.Disk file c.remove.ensures.kept.disk
    (λ honest. (c.remove.ensures.passes honest).moment))

pub returns-in-Ok-clause-writes : goal.returns-in-Ok-clause-writes
returns-in-Ok-clause-writes g c =
    let file = c.args.file in
    writes_done g.D.Disk (λ one. file ≡ one) (λ f. search rules) done
    (writes_call g.D.Disk file c.remove.ensures.kept.disk
    (λ honest. (c.remove.ensures.passes honest).moment))

pub returns-in-Ok-2-clause-writes : goal.returns-in-Ok-2-clause-writes
returns-in-Ok-2-clause-writes g c =
    let file = c.args.file in
    writes_done g.D.Disk (λ one. file ≡ one) (λ f. search rules) done
    (writes_call g.D.Disk file c.remove.ensures.kept.disk
    (λ honest. (c.remove.ensures.passes honest).moment))
