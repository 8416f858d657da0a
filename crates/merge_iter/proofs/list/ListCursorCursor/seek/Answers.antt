use Rattle.std.proofs.Common.{◌≡◌, subst, sym, rules}
use Rattle.std.proofs.lemmas.List.Sorted.{IsPartitionPoint-from_clause}
use Rattle.byte_fields.specs.{lent_key}
use Rattle.merge_iter.specs.Order.{spot}
use Rattle.merge_iter.specs.ListEntries.{IsSortedList}
use Rattle.merge_iter.proofs.ListSearches.{IsSought, is_early, partitioned, sought}
use Rattle.merge_iter.proofs.list.ListCursorCursor.seek.Goals as goal

pub returns : goal.returns
returns c = record {
  moves = search rules;
  device = search rules;
  causes = search rules;
  broken = search rules;
  finds = λ meant rising.
      let xs = c.deref.result.now in
      let same : xs ≡ c.args.self.now.entries.items = c.deref.ensures.value in
      let place = spot (lent_key c.args.key) c.args.number in
      let sorted = subst IsSortedList (sym same) rising in
      let n = c.partition_point-self.result in
      let point = IsPartitionPoint-from_clause (is_early place) xs n
      c.partition_point-self.ensures.partitioned (partitioned xs place sorted)
      (λ a r f' k. search rules) in
      subst (λ zs. IsSought zs place n) same
      (sought xs place n sorted c.partition_point-self.ensures.bound point);
}
