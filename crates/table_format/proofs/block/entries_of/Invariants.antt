use Rattle.std.proofs.Common.{length, ◌≤◌, option_map}
use Rattle.table_format.specs.BlockLoopLemmas.{EntriesRead}
use Rattle.table_format.specs.Reading.{lent_entry}
use Rattle.table_format.proofs.block.entries_of.Given as goal

abbrev pub invariant-loop-last : goal.invariant-loop-last
invariant-loop-last l = record {
  read : EntriesRead l.format l.entries l.rest l.seen (option_map lent_entry l.last);
  within : l.seen ≤ l.count;
}

abbrev pub decreases-loop-last : goal.decreases-loop-last
decreases-loop-last l = length l.rest
