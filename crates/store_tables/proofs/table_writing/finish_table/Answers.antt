use Rattle.std.proofs.Common.{ℕ, subst, sym}
use Rattle.disk.specs.{IsEnvironmental}
use Rattle.table_builder.specs.{Builds, IsFinishedTable}
use Rattle.store_tables.specs.TableWriting.{IsWrittenTable}
use Rattle.compaction.specs.{finished_line}
use Rattle.compaction.specs.EditsLemmas.{line_found}
use Rattle.store_tables.specs.declared.error.EngineError.TheVariants.{Damaged, Disk, Memory}
use Rattle.store_tables.proofs.FinishedTables.{written_table}
use Rattle.store_tables.specs.RefusalLemmas.{refused_otherwise}
use Rattle.disk.specs.WritesLemmas.{writes_nothing}
use Rattle.store_tables.proofs.table_writing.finish_table.Goals as goal

pub returns-then-len-eq0-clause-writes : goal.returns-then-len-eq0-clause-writes
returns-then-len-eq0-clause-writes g c =
    writes_nothing g.D.Disk c.args.file c.args.disk.now (refused_otherwise (λ e. cc))

pub returns-in-Ok-clause-written : goal.returns-in-Ok-clause-written
returns-in-Ok-clause-written g c = λ memtable some honest all.
    let new = g.D.Disk.state c.finish.new.disk in
    let builds = subst (λ (f : ℕ). Builds (g.D.Disk.state c.args.disk.now f) c.args.builder
    all.entries) (sym c.requires.file) all.builds in
    let finished = subst (λ (f : ℕ). IsFinishedTable (new f) all.entries c.in-Ok.done)
    c.requires.file (c.in-Ok.ensures.finished all.entries honest builds) in
    let written = written_table new memtable c.args.file all.entries c.in-Ok.done c.requires.named
    finished all.alike in
    line_found (IsWrittenTable new memtable c.args.file) (IsEnvironmental Disk Memory)
    (finished_line 0 c.args.file c.in-Ok.done) c.finished_line.result Damaged c.ok_or.result
    c.ok_or.ensures.value c.finished_line.ensures written.proper written
