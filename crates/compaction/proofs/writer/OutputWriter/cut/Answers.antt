use Rattle.std.proofs.Common.{◌∙◌, sym, subst}
use Rattle.disk.specs.{IsEnvironmental}
use Rattle.std.specs.Prelude.{MatchResult}
use Rattle.std.proofs.lemmas.Bool.{cond-true}
use Rattle.compaction.specs.declared.error.MergeError.TheVariants as merge
use Rattle.compaction.specs.Outputs.{IsOpenFile, WriterHolds}
use Rattle.compaction.specs.WrittenTables.{Written}
use Rattle.compaction.proofs.Calls.{done, writes_nothing}
use Rattle.compaction.proofs.Cutting.{cut_new}
use Rattle.compaction.proofs.writer.OutputWriter.cut.Goals as goal

pub returns-then-is_complete-clause-cut : goal.returns-then-is_complete-clause-cut
returns-then-is_complete-clause-cut g c = λ next_file it entry honest w key.
    let old = g.D.Disk.state c.args.disk.now in
    let cut = sym (c.is_complete.ensures old next_file it entry w key) ∙ c.if-is_complete.true in
    let some = (cut_new c.args.self.now.target it.before it.opened entry cut).0 in
    subst (λ (z : Written). MatchResult c.close.result
    (λ _. WriterHolds (g.D.Disk.state c.close.new.disk) next_file c.close.new.self z)
    (IsEnvironmental merge.Disk merge.Memory))
    (sym (cond-true _ _ _ cut)) (c.close.ensures.closed next_file it honest w some)

pub returns-else-is_complete-clause-writes : goal.returns-else-is_complete-clause-writes
returns-else-is_complete-clause-writes g c = λ next_file.
    writes_nothing g.D.Disk (IsOpenFile c.args.self.now) c.args.disk.now done
