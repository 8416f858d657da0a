use Rattle.std.proofs.Common.{rules}
use Rattle.memtable.specs.CursorLaws.{MemCursorHolds}
use Rattle.memtable.specs.{TableHolds}
use Rattle.table_builder.specs.{builder_file}
use Rattle.store_tables.proofs.TableWalks.{added_like, room_like}
use Rattle.store_tables.proofs.table_writing.add_memtable.Goals as goal

pub returns : goal.returns
returns g c = record {
  writes = search rules;
  file = search rules;
  added = λ honest begun.
      added_like (MemCursorHolds c.in_ok-cursor.cursor) (TableHolds c.args.memtable.now)
      c.in_ok-cursor.ensures.holds
      (g.D.Disk.state c.add_all.new.disk (builder_file c.args.builder.now)) c.add_all.new.builder
      c.add_all.result (c.add_all.ensures.added honest begun);
  room = λ empty.
      room_like (MemCursorHolds c.in_ok-cursor.cursor) (TableHolds c.args.memtable.now)
      c.in_ok-cursor.ensures.holds c.add_all.result (c.add_all.ensures.room empty);
  causes = search rules;
}
