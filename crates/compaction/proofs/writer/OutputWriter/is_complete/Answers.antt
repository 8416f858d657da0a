use Rattle.std.proofs.Common.{arith}
use Rattle.compaction.proofs.Writing.{cut_is, open_builds}
use Rattle.compaction.proofs.writer.OutputWriter.is_complete.Goals as goal

pub returns-then-data_size-self : goal.returns-then-data_size-self
returns-then-data_size-self c = λ disk next_file it entry w key.
    let writer = c.args.self.now in
    let builds = open_builds disk writer.current c.in-Some.output it.opened c.in-Some.is w.current
    in
    let size = c.data_size.ensures (disk c.in-Some.output.file) it.opened builds in
    let large = c.if-data_size-self.true in
    cut_is writer.target it.before it.opened entry c.is_new_key.result writer.aimed
    (omega (arith, size, large)) (c.is_new_key.ensures it.before entry w.before key)
