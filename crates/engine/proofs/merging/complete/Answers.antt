use Rattle.std.proofs.Common.{ap}
use Rattle.manifest.specs.{NodeVersion}
use Rattle.engine.proofs.Completes.{edit_told, fit_told, kept_told}
use Rattle.engine.proofs.merging.complete.Goals as goal

pub returns-clause-kept : goal.returns-clause-kept
returns-clause-kept g c =
    kept_told g.D.Disk c.args.store.now c.requires.usable c.args.files.now c.args.merge.now
    c.other_files_are_free.ensures c.merge_edits_keep.ensures c.requires.done
    c.finish-made.new.files c.finish-made.new.self _
    (ap (λ (n : NodeVersion). n.version) c.state-version.ensures)
    c.free_file-next.result c.free_file-next.ensures c.finish-made.result c.finish-made.ensures
    c.checked_edit.result c.checked_edit.ensures

-- the edit fits
pub returns-clause-fit : goal.returns-clause-fit
returns-clause-fit g c =
    fit_told g.D.Disk c.args.store.now c.requires.usable c.args.files.now c.args.merge.now
    c.other_files_are_free.ensures c.merge_edits_keep.ensures c.requires.done
    c.finish-made.new.files c.finish-made.new.self _
    (ap (λ (n : NodeVersion). n.version) c.state-version.ensures)
    c.free_file-next.result c.free_file-next.ensures c.finish-made.result c.finish-made.ensures
    c.checked_edit.result c.checked_edit.ensures

-- and is that of the plan
pub returns-clause-ends : goal.returns-clause-ends
returns-clause-ends g c =
    edit_told g.D.Disk c.args.store.now c.requires.usable c.args.files.now c.args.merge.now
    c.other_files_are_free.ensures c.merge_edits_keep.ensures c.requires.done
    c.finish-made.new.files c.finish-made.new.self _
    (ap (λ (n : NodeVersion). n.version) c.state-version.ensures)
    c.free_file-next.result c.free_file-next.ensures c.finish-made.result c.finish-made.ensures
    c.checked_edit.result c.checked_edit.ensures
