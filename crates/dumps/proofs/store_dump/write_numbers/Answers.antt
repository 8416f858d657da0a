use Rattle.std.proofs.Common.{rules}
use Rattle.dumps.proofs.StoreDumpLemmas.{written_in_part}
use Rattle.dumps.proofs.store_dump.write_numbers.Goals as goal

-- a beginning of the line was written
pub returns-in_err-print : goal.returns-in_err-print
returns-in_err-print g c = (
  c.numbers_of-numbers.result.tables,
  written_in_part _ (g.W.Write.contents c.args.out.now) (g.W.Write.contents c.print.new.out)
      c.from_residual-in_err-print.result c.from_residual-in_err-print.ensures.1
      (search (rules, c.in_err-print.ensures.part)),
  c.numbers_of-numbers.ensures.tables,
)
