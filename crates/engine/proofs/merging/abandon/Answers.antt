use Rattle.std.proofs.Common.{◌≡◌, ap, rules}
use Rattle.store_files.specs.BesideFiles.{with_free}
use Rattle.compaction.specs.Merges.{begun_number}
use Rattle.engine.specs.MergeParts.{free_behind}
use Rattle.engine.proofs.Abandons.{abandoned}
use Rattle.engine.proofs.merging.abandon.Goals as goal

-- the files are removed, and their numbers are free again
pub returns-clause-kept : goal.returns-clause-kept
returns-clause-kept g c =
    let freed : c.set_free_file.new.self
    ≡ with_free c.args.store.now (free_behind (begun_number c.args.merge) c.args.store.now) =
    search rules in
    abandoned g.D.Disk c.other_files_are_free.ensures c.open_files_are_apart.ensures
    c.args.files.now c.abandon-answer.new.files c.args.store.now c.requires c.args.merge
    c.free_file-free.result c.free_file-free.ensures _ (ap (λ n. n.version) c.state-2.ensures)
    c.abandon-answer.result c.abandon-answer.ensures c.set_free_file.new.self freed
    c.answer_of.result c.answer_of.ensures
