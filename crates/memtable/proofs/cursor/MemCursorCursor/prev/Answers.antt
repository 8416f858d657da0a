use Rattle.std.proofs.Common.{rules}
use Rattle.merge_iter.specs.declared.direction.Direction.TheVariants.{Backward}
use Rattle.memtable.proofs.Lefts.{ends_by}
use Rattle.memtable.proofs.cursor.MemCursorCursor.prev.Goals as goal

pub returns : goal.returns
returns c = record {
  moves = search rules;
  device = search rules;
  causes = search rules;
  broken = search rules;
  ends =
      let cursor = c.args.self.now in
      let place = c.in-Some.place in
      ends_by Backward cursor.map.now cursor.has_failed cursor.place c.prev.result.0 place
      c.in-Some.is
      (cursor.placed place c.in-Some.is) (c.prev.ensures.first cursor.rising);
  finds = search rules;
}
