use Rattle.std.proofs.Common.{rules}
use Rattle.store_tables.specs.RefusalLemmas.{done}
use Rattle.disk.specs.WritesLemmas.{call_writes, writes_as, writes_done}
use Rattle.store_tables.proofs.TableCalls.{removal_failed}
use Rattle.store_tables.proofs.table_writing.remove_file.Goals as goal

pub returns-in-Err-clause-writes : goal.returns-in-Err-clause-writes
returns-in-Err-clause-writes g c =
    let call = call_writes g.D.Disk c.args.file c.remove.ensures.kept.disk
    (λ honest. (c.remove.ensures.passes honest).moment) in
    writes_as g.D.Disk c.args.file
    (removal_failed c.remove.result c.in-Err.e c.from.result c.in-Err.is c.from.ensures)
    (λ never. never) call

pub returns-in-Ok-clause-writes : goal.returns-in-Ok-clause-writes
returns-in-Ok-clause-writes g c =
    let call = call_writes g.D.Disk c.args.file c.remove.ensures.kept.disk
    (λ honest. (c.remove.ensures.passes honest).moment) in
    writes_done g.D.Disk c.args.file (λ f. search rules) done call

pub returns-in-Ok-2-clause-writes : goal.returns-in-Ok-2-clause-writes
returns-in-Ok-2-clause-writes g c =
    let call = call_writes g.D.Disk c.args.file c.remove.ensures.kept.disk
    (λ honest. (c.remove.ensures.passes honest).moment) in
    writes_done g.D.Disk c.args.file (λ f. search rules) done call
