use Rattle.std.proofs.Common.{rules}
use Rattle.std.proofs.lemmas.List.Sorted.{IsPartitionPoint-from_clause}
use Rattle.byte_fields.specs.{lent_key}
use Rattle.merge_iter.specs.{spot}
use Rattle.sorted_table.proofs.LinesLemmas.{ends_early, line_place_by, parted}
use Rattle.sorted_table.proofs.lines.line_place.Goals as goal

pub returns-clause-place : goal.returns-clause-place
returns-clause-place c rising =
    let lines = c.args.lines.now in
    let place = spot (lent_key c.args.key) c.args.number in
    line_place_by lines place c.partition_point.result
    (IsPartitionPoint-from_clause (ends_early place) lines c.partition_point.result
    c.partition_point.ensures.partitioned (parted lines place rising) (λ a r f k. search rules))
