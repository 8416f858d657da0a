use Rattle.std.proofs.Common.{◌≡◌, ℕ, None, refl, rules, subst}
use Rattle.disk.specs.declared.Disk.{Ghosts}
use Rattle.disk.specs.{Absent, IsSameBut, KeepsDisk, WritesInto}
use Rattle.disk.specs.KeepingLemmas.{answered}
use Rattle.memtable.specs.{TableHolds}
use Rattle.store_tables.specs.Errors.{IsEnd}
use Rattle.store_tables.specs.TableWriting.{IsRoomAnswer}
use Rattle.store_tables.specs.RefusalLemmas.{passed_on, refuses}
use Rattle.disk.specs.WritesLemmas.{moments_join, writes_as, writes_behind}
use Rattle.store_tables.proofs.table_writing.write_table.Goals as goal

-- calls on a file that did not fail, and others on it behind them that need no cause
kept_join : {D : Type 0} (g : Ghosts D) {own file : ℕ} → own ≡ file → {old mid new : D}
    {first cause told other : Type 0} → WritesInto g own old mid first cause → (first → ⊥)
    → WritesInto g file mid new told ⊥ → KeepsDisk g old new told other (IsSameBut file)
kept_join g {file = file} is {old = old} {mid = mid} {first = first} {cause = cause} before works w
    =
    let same = subst (λ (f : ℕ). WritesInto g f old mid first cause) is before in
    (writes_behind g file works (λ never. absurd never) same w).kept

-- ---- the table is finished

pub returns-in_err-finish_table-clause-writes : goal.returns-in_err-finish_table-clause-writes
returns-in_err-finish_table-clause-writes g c = record {
  kept = search rules;
  any_moment = moments_join g.D.Disk c.new-builder.ensures.file c.add_memtable.ensures.writes
      c.finish_table.ensures.writes;
}

pub returns-then-branch-clause-writes : goal.returns-then-branch-clause-writes
returns-then-branch-clause-writes g c = record {
  kept = search rules;
  any_moment = moments_join g.D.Disk c.new-builder.ensures.file c.add_memtable.ensures.writes
      c.finish_table.ensures.writes;
}

-- ---- the file is removed

pub returns-in_err-remove_file-clause-writes : goal.returns-in_err-remove_file-clause-writes
returns-in_err-remove_file-clause-writes g c = record {
  kept = kept_join g.D.Disk c.new-builder.ensures.file c.add_memtable.ensures.writes
      (answered c.add_memtable.result c.in_ok-add_memtable.was)
      (writes_as g.D.Disk c.args.file
      (passed_on c.remove_file.result c.in_err-remove_file.field-0.0
      c.from_residual-in_err-remove_file.result c.in_err-remove_file.was
      c.from_residual-in_err-remove_file.ensures.1) (λ never. never) c.remove_file.ensures.writes);
  any_moment = moments_join g.D.Disk c.new-builder.ensures.file c.add_memtable.ensures.writes
      c.remove_file.ensures.writes;
}

pub returns-clause-writes : goal.returns-clause-writes
returns-clause-writes g c = record {
  kept = search rules;
  any_moment = moments_join g.D.Disk c.new-builder.ensures.file c.add_memtable.ensures.writes
      c.remove_file.ensures.writes;
}

-- it was not finished for want of room alone
pub returns-clause-line : goal.returns-clause-line
returns-clause-line g c =
    let empty = (c.new-builder.ensures.began (Absent None) refl).holds in
    subst (λ b. IsRoomAnswer (TableHolds c.args.memtable.now) b) c.if-branch.false
    (c.in_ok-add_memtable.ensures.room empty)

-- a refusal of a part is one of the whole
pub returns-in_err-add_memtable-clause-line : goal.returns-in_err-add_memtable-clause-line
returns-in_err-add_memtable-clause-line g c =
    refuses c.from_residual.result _ IsEnd c.from_residual.ensures.1
    c.in_err-add_memtable.ensures.causes

pub returns-in_err-finish_table-clause-line : goal.returns-in_err-finish_table-clause-line
returns-in_err-finish_table-clause-line g c =
    refuses c.from_residual-in_err-finish_table.result _ IsEnd
    c.from_residual-in_err-finish_table.ensures.1 c.in_err-finish_table.ensures.causes

pub returns-in_err-remove_file-clause-line : goal.returns-in_err-remove_file-clause-line
returns-in_err-remove_file-clause-line g c =
    refuses c.from_residual-in_err-remove_file.result _ IsEnd
    c.from_residual-in_err-remove_file.ensures.1 c.in_err-remove_file.ensures.causes
