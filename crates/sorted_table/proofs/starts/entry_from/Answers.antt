use Rattle.std.proofs.Common.{sym}
use Rattle.table_files.specs.EntryReadsLemmas.{none_behind}
use Rattle.sorted_table.proofs.starts.entry_from.Goals as goal

pub returns-then-start-bytes : goal.returns-then-start-bytes
returns-then-start-bytes c =
    sym (none_behind c.args.format c.args.bytes.now c.args.start c.if-start-bytes.true)
