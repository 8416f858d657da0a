use Rattle.std.proofs.Common.{arith}
use Rattle.std.proofs.lemmas.Grind.{common_steps}
use Rattle.std.proofs.Common.{◌≡◌, length, rules}
use Rattle.store_files.specs.OpenFiles.{known_version}
use Rattle.engine.proofs.Advances.{keeps_told, none_told, planned_told}
use Rattle.engine.proofs.merging.advance.Goals as goal

pub returns-clause-kept : goal.returns-clause-kept
returns-clause-kept g c =
    keeps_told g.D.Disk c.args.store.now c.requires c.args.files.now c.args.merge.now
    c.other_files_are_free.ensures c.len-tables.result c.step-step.new.files c.step-step.new.self
    c.free_file-next.result c.free_file-next.ensures c.step-step.new.next_file c.step-step.result
    c.step-step.ensures c.set_free_file.new.self c.set_free_file.ensures c.progress_of.result
    c.progress_of.ensures

-- by any plan
pub returns-clause-advances : goal.returns-clause-advances
returns-clause-advances g c =
    let counted : c.len-tables.result ≡ length (known_version c.args.store.now).version.tables =
    search rules in
    planned_told g.D.Disk c.args.store.now c.requires c.args.files.now c.args.merge.now
    c.other_files_are_free.ensures c.len-tables.result c.step-step.new.files c.step-step.new.self
    c.free_file-next.result c.free_file-next.ensures c.step-step.new.next_file c.step-step.result
    c.step-step.ensures c.set_free_file.new.self c.set_free_file.ensures c.progress_of.result
    c.progress_of.ensures counted

-- none is left where all are merged
pub returns-clause-done : goal.returns-clause-done
returns-clause-done g c =
    none_told g.D.Disk c.args.store.now c.requires c.args.files.now c.args.merge.now
    c.other_files_are_free.ensures c.len-tables.result c.step-step.new.files c.step-step.new.self
    c.free_file-next.result c.free_file-next.ensures c.step-step.new.next_file c.step-step.result
    c.step-step.ensures c.set_free_file.new.self c.set_free_file.ensures c.progress_of.result
    c.progress_of.ensures

pub returns-clause-goes_on : goal.returns-clause-goes_on
returns-clause-goes_on g c = grind (arith, common_steps)
