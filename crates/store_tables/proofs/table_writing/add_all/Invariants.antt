use Rattle.std.proofs.Common.{◌≡◌, []}
use Rattle.memtable.specs.CursorLaws.{MemCursorHolds, mem_left, mem_position}
use Rattle.merge_iter.specs.declared.Direction.TheVariants.{Forward}
use Rattle.merge_iter.specs.{IsAlike, IsBroken}
use Rattle.table_builder.specs.{Builds, HoldsEntries, builder_file}
use Rattle.disk.specs.{WritesInto}
use Rattle.store_tables.proofs.TableWalks.{AddsUpTo}
use Rattle.store_tables.proofs.table_writing.add_all.Given as goal

-- the entries before the cursor's were added
abbrev pub invariant-loop-alloc : goal.invariant-loop-alloc
invariant-loop-alloc g l = record {
  file : builder_file l.builder ≡ builder_file l.fn.builder;
  writes : WritesInto g.D.Disk (builder_file l.fn.builder) l.fn.disk l.disk ⊥ ⊥;
  holds : IsAlike (MemCursorHolds l.cursor) (MemCursorHolds l.fn.cursor);
  unbroken : IsBroken (mem_position l.cursor) → ⊥;
  added : AddsUpTo (MemCursorHolds l.fn.cursor) (mem_position l.cursor)
      (g.D.Disk.is_honest l.fn.disk
      × Builds (g.D.Disk.state l.fn.disk (builder_file l.fn.builder)) l.fn.builder [])
      (HoldsEntries l.fn.builder [])
      (g.D.Disk.state l.disk (builder_file l.fn.builder)) l.builder;
}

abbrev pub decreases-loop-alloc : goal.decreases-loop-alloc
decreases-loop-alloc g l = mem_left l.cursor Forward
