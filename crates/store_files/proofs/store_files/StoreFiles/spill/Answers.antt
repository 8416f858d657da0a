use Rattle.std.proofs.lemmas.Grind.{common_steps}
use Rattle.std.proofs.Common.{◌<◌, ◌+◌, Option, arith, inr, refl, subst}
use Rattle.std.specs.Prelude.{IsNone, MatchOption}
use Rattle.disk.specs.{IsEnvironmental, seen}
use Rattle.version_edits.specs.declared.line.TheConstants.{MAX_NEXT}
use Rattle.manifest.specs.declared.TableLine.{TableLine}
use Rattle.store_tables.specs.declared.error.EngineError.TheVariants as engine
use Rattle.store_tables.specs.Errors.{IsEnd}
use Rattle.store_tables.specs.TableWriting.{IsTooLarge, IsWrittenTable}
use Rattle.store_tables.specs.TableWriting.{IsNewLine}
use Rattle.store_tables.specs.RefusalLemmas.{refuses}
use Rattle.store_files.proofs.MeantTends.{meant_again, next_was_fresh, next_was_opened}
use Rattle.store_files.proofs.MeantTends.{next_was_written}
use Rattle.store_files.proofs.Spills.{has_spilled, held_again, next_is_fresh, next_is_opened}
use Rattle.store_files.proofs.Spills.{next_is_written}
use Rattle.store_files.proofs.store_files.StoreFiles.spill.Goals as goal

-- a number is left for it
pub write_table-requires-clause-named : goal.write_table-requires-clause-named
write_table-requires-clause-named g c =
    let no : MAX_NEXT < c.args.self.now.free_file + 2 → ⊥ = λ lt. c.requires.place (inr lt) in
    omega (arith, no)

-- ---- what was written, of any disk

pub returns-in_err-line-clause-made : goal.returns-in_err-line-clause-made
returns-in_err-line-clause-made g c =
    refuses c.from_residual.result _ IsEnd c.from_residual.ensures.1 c.in_err-line.ensures.line

pub returns-in_err-table-clause-made : goal.returns-in_err-table-clause-made
returns-in_err-table-clause-made g c =
    refuses c.from_residual-in_err-table.result _ IsEnd
    c.from_residual-in_err-table.ensures.1 c.in_err-table.ensures.reads.causes

pub returns-in_default-clause-made : goal.returns-in_default-clause-made
returns-in_default-clause-made g c =
    subst (λ (o : Option TableLine). MatchOption o (IsTooLarge c.args.self.now.memtable)
    (IsNewLine c.args.self.now.free_file)) c.in_default.is c.in_ok-line.ensures.line

pub returns-clause-made : goal.returns-clause-made
returns-clause-made g c =
    let line = subst (λ (o : Option TableLine). MatchOption o
    (IsTooLarge c.args.self.now.memtable) (IsNewLine c.args.self.now.free_file)) c.in-Some.is
    c.in_ok-line.ensures.line in
    record { next = line; opened = c.in_ok-table.ensures.opens.lines }

-- ---- of files that hold a list

pub returns-in_err-line-clause-spilled : goal.returns-in_err-line-clause-spilled
returns-in_err-line-clause-spilled g c = λ list honest h.
    let disk = g.D.Disk.state c.args.disk.now in
    let files = c.args.self.now in
    let next = files.free_file in
    record {
      list = refuses c.from_residual.result _
          (IsEnvironmental engine.Disk engine.Memory) c.from_residual.ensures.1
          (c.in_err-line.ensures.written honest (next_is_fresh disk files list h next refl));
      any_moment = next_is_written disk files list h next refl
          c.held_versions_are_left.ensures.left c.durable_file_is_left.ensures
          (g.D.Disk.past c.args.disk.now) (g.D.Disk.past c.write_table.new.disk)
          (g.D.Disk.state c.write_table.new.disk) (c.write_table.ensures.writes.any_moment honest);
    }

-- it is too large, and gone
pub returns-in_default-clause-spilled : goal.returns-in_default-clause-spilled
returns-in_default-clause-spilled g c = λ list honest h.
    let disk = g.D.Disk.state c.args.disk.now in
    let files = c.args.self.now in
    let next = files.free_file in
    let new = g.D.Disk.state c.write_table.new.disk in
    let told = subst (λ (o : Option TableLine). MatchOption o
    (IsTooLarge files.memtable × IsNone (seen (new next)))
    (IsWrittenTable new files.memtable next)) c.in_default.is
    (c.in_ok-line.ensures.written honest (next_is_fresh disk files list h next refl)) in
    record {
      list = held_again disk files list h next refl c.held_versions_are_left.ensures.same new
          (c.write_table.ensures.writes.kept.files honest) told.1;
      any_moment = next_is_written disk files list h next refl
          c.held_versions_are_left.ensures.left c.durable_file_is_left.ensures
          (g.D.Disk.past c.args.disk.now) (g.D.Disk.past c.write_table.new.disk) new
          (c.write_table.ensures.writes.any_moment honest);
    }

-- it is opened, or not
pub returns-in_err-table-clause-spilled : goal.returns-in_err-table-clause-spilled
returns-in_err-table-clause-spilled g c = λ list honest h.
    let disk = g.D.Disk.state c.args.disk.now in
    let files = c.args.self.now in
    let next = files.free_file in
    let mid = g.D.Disk.state c.write_table.new.disk in
    let between = c.write_table.ensures.writes.kept.honest.1 honest in
    let told = subst (λ (o : Option TableLine). MatchOption o
    (IsTooLarge files.memtable × IsNone (seen (mid next)))
    (IsWrittenTable mid files.memtable next)) c.in-Some.is
    (c.in_ok-line.ensures.written honest (next_is_fresh disk files list h next refl)) in
    record {
      list = refuses c.from_residual-in_err-table.result _
          (IsEnvironmental engine.Disk engine.Memory)
          c.from_residual-in_err-table.ensures.1
          (c.in_err-table.ensures.opens.opened told.table between told.is);
      any_moment = next_is_opened disk files list h next refl
          c.held_versions_are_left.ensures.left c.durable_file_is_left.ensures
          (g.D.Disk.past c.args.disk.now) (g.D.Disk.past c.write_table.new.disk)
          (g.D.Disk.past c.open.new.disk) mid (g.D.Disk.state c.open.new.disk)
          (c.write_table.ensures.writes.any_moment honest) (c.open.ensures.reads.still between);
    }

pub returns-clause-spilled : goal.returns-clause-spilled
returns-clause-spilled g c = λ list honest h.
    let disk = g.D.Disk.state c.args.disk.now in
    let files = c.args.self.now in
    let next = files.free_file in
    let mid = g.D.Disk.state c.write_table.new.disk in
    let new = g.D.Disk.state c.open.new.disk in
    let between = c.write_table.ensures.writes.kept.honest.1 honest in
    let told = subst (λ (o : Option TableLine). MatchOption o
    (IsTooLarge files.memtable × IsNone (seen (mid next)))
    (IsWrittenTable mid files.memtable next)) c.in-Some.is
    (c.in_ok-line.ensures.written honest (next_is_fresh disk files list h next refl)) in
    record {
      list = has_spilled disk mid new files next c.in-Some.line c.in_ok-table.table refl
          (c.write_table.ensures.writes.kept.files honest)
          (c.open.ensures.reads.kept.files between) told
          (c.in_ok-table.ensures.opens.opened told.table between told.is);
      any_moment = next_is_opened disk files list h next refl
          c.held_versions_are_left.ensures.left c.durable_file_is_left.ensures
          (g.D.Disk.past c.args.disk.now) (g.D.Disk.past c.write_table.new.disk)
          (g.D.Disk.past c.open.new.disk) mid new
          (c.write_table.ensures.writes.any_moment honest) (c.open.ensures.reads.still between);
    }

-- ---- of files that were meant to

pub returns-in_err-line-clause-meant : goal.returns-in_err-line-clause-meant
returns-in_err-line-clause-meant g c = λ list honest w.
    let disk = g.D.Disk.state c.args.disk.now in
    let files = c.args.self.now in
    let next = files.free_file in
    record {
      list = refuses c.from_residual.result _
          (IsEnvironmental engine.Disk engine.Memory) c.from_residual.ensures.1
          (c.in_err-line.ensures.written honest (next_was_fresh disk files list w next refl));
      any_moment = next_was_written disk files list w next refl c.durable_file_is_left.ensures
          c.held_versions_are_left.ensures.left c.held_versions_are_left.ensures.same
          (g.D.Disk.past c.args.disk.now) (g.D.Disk.past c.write_table.new.disk)
          (g.D.Disk.state c.write_table.new.disk) (c.write_table.ensures.writes.any_moment honest);
    }

pub returns-in_default-clause-meant : goal.returns-in_default-clause-meant
returns-in_default-clause-meant g c = λ list honest w.
    let disk = g.D.Disk.state c.args.disk.now in
    let files = c.args.self.now in
    let next = files.free_file in
    let new = g.D.Disk.state c.write_table.new.disk in
    let stays = c.held_versions_are_left.ensures.same in
    let told = subst (λ (o : Option TableLine). MatchOption o
    (IsTooLarge files.memtable × IsNone (seen (new next)))
    (IsWrittenTable new files.memtable next)) c.in_default.is
    (c.in_ok-line.ensures.written honest (next_was_fresh disk files list w next refl)) in
    record {
      list = meant_again disk files list w next refl stays new
          (c.write_table.ensures.writes.kept.files honest) told.1;
      any_moment = next_was_written disk files list w next refl c.durable_file_is_left.ensures
          c.held_versions_are_left.ensures.left stays (g.D.Disk.past c.args.disk.now)
          (g.D.Disk.past c.write_table.new.disk) new
          (c.write_table.ensures.writes.any_moment honest);
    }

pub returns-in_err-table-clause-meant : goal.returns-in_err-table-clause-meant
returns-in_err-table-clause-meant g c = λ list honest w.
    let disk = g.D.Disk.state c.args.disk.now in
    let files = c.args.self.now in
    let next = files.free_file in
    let mid = g.D.Disk.state c.write_table.new.disk in
    let between = c.write_table.ensures.writes.kept.honest.1 honest in
    let told = subst (λ (o : Option TableLine). MatchOption o
    (IsTooLarge files.memtable × IsNone (seen (mid next)))
    (IsWrittenTable mid files.memtable next)) c.in-Some.is
    (c.in_ok-line.ensures.written honest (next_was_fresh disk files list w next refl)) in
    record {
      list = refuses c.from_residual-in_err-table.result _
          (IsEnvironmental engine.Disk engine.Memory)
          c.from_residual-in_err-table.ensures.1
          (c.in_err-table.ensures.opens.opened told.table between told.is);
      any_moment = next_was_opened disk files list w next refl c.durable_file_is_left.ensures
          c.held_versions_are_left.ensures.left c.held_versions_are_left.ensures.same
          (g.D.Disk.past c.args.disk.now) (g.D.Disk.past c.write_table.new.disk)
          (g.D.Disk.past c.open.new.disk) mid (g.D.Disk.state c.open.new.disk)
          (c.write_table.ensures.writes.any_moment honest) (c.open.ensures.reads.still between);
    }

pub returns-clause-meant : goal.returns-clause-meant
returns-clause-meant g c = λ list honest w.
    let disk = g.D.Disk.state c.args.disk.now in
    let files = c.args.self.now in
    let next = files.free_file in
    let mid = g.D.Disk.state c.write_table.new.disk in
    let new = g.D.Disk.state c.open.new.disk in
    let between = c.write_table.ensures.writes.kept.honest.1 honest in
    let told = subst (λ (o : Option TableLine). MatchOption o
    (IsTooLarge files.memtable × IsNone (seen (mid next)))
    (IsWrittenTable mid files.memtable next)) c.in-Some.is
    (c.in_ok-line.ensures.written honest (next_was_fresh disk files list w next refl)) in
    record {
      list = has_spilled disk mid new files next c.in-Some.line c.in_ok-table.table refl
          (c.write_table.ensures.writes.kept.files honest)
          (c.open.ensures.reads.kept.files between) told
          (c.in_ok-table.ensures.opens.opened told.table between told.is);
      any_moment = next_was_opened disk files list w next refl c.durable_file_is_left.ensures
          c.held_versions_are_left.ensures.left c.held_versions_are_left.ensures.same
          (g.D.Disk.past c.args.disk.now) (g.D.Disk.past c.write_table.new.disk)
          (g.D.Disk.past c.open.new.disk) mid new (c.write_table.ensures.writes.any_moment honest)
          (c.open.ensures.reads.still between);
    }

pub returns-in_default-clause-kept : goal.returns-in_default-clause-kept
returns-in_default-clause-kept g c = grind (arith, common_steps)
