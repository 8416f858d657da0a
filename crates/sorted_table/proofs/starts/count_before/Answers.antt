use Rattle.std.proofs.Common.{rules}
use Rattle.std.proofs.lemmas.List.Sorted.{IsPartitionPoint-from_clause}
use Rattle.byte_fields.specs.{lent_key}
use Rattle.merge_iter.specs.{spot}
use Rattle.sorted_table.proofs.StartSearches.{is_early_start, partitioned, splits}
use Rattle.sorted_table.proofs.starts.count_before.Goals as goal

pub returns-clause-splits : goal.returns-clause-splits
returns-clause-splits c = λ entries rising is.
    let block = c.args.block.now in
    let starts = c.args.starts.now in
    let place = spot (lent_key c.args.key) c.args.number in
    let n = c.partition_point.result in
    let format = c.args.format in
    splits format block starts entries place n is c.partition_point.ensures.bound
    (IsPartitionPoint-from_clause (is_early_start format block place) starts n
    c.partition_point.ensures.partitioned (partitioned format block starts entries place rising
    is)
    (λ a r f' k. search rules))
