use Rattle.std.proofs.Common.{◌≡◌, ◌∙◌, ℕ, Bool, IsTrue, List, Option, ap, false, inl, inr, refl}
use Rattle.std.proofs.Common.{rules, subst, sym}
use Rattle.std.specs.Prelude.{IsSomeAnd}
use Rattle.disk.specs.{IsEnvironmental, Slot, contents, seen}
use Rattle.disk.specs.StillLemmas.{still, still_more, still_same}
use Rattle.sorted_table.specs.{AreAsMeant, HasTail, IsOpenOn, TableServes}
use Rattle.sorted_table.specs.{index_lines, table_filter, table_format}
use Rattle.store_tables.specs.declared.error.EngineError.TheVariants as engine
use Rattle.store_tables.specs.LevelTablesLemmas.{open_as_itself}
use Rattle.store_tables.specs.LevelTables.{IsOpenAsMeant}
use Rattle.store_tables.specs.RefusalLemmas.{refuses}
use Rattle.store_tables.proofs.OpenTables.{file_represents, fit_read, fits_last, fits_length}
use Rattle.store_tables.proofs.OpenTables.{fits_opens, of_table, opened_as_meant}
use Rattle.store_tables.proofs.OpenTables.{represents_same}
use Rattle.store_tables.proofs.levels.OpenTable.open.Goals as goal

never : (b : Bool) → b ≡ false → IsTrue b → ⊥
never b is_false is_true = absurd cc

-- the length was read, and then the table
pub returns-in_err-length-clause-reads : goal.returns-in_err-length-clause-reads
returns-in_err-length-clause-reads g c = record {
  kept = search rules;
  causes = search rules;
  still = λ honest.
      still_same (still (g.D.Disk.state c.args.disk.now) (g.D.Disk.past c.args.disk.now))
      (c.length.ensures.passes honest).moment (c.length.ensures.kept.disk.files honest);
}

pub returns-then-branch-line-clause-reads : goal.returns-then-branch-line-clause-reads
returns-then-branch-line-clause-reads g c = record {
  kept = search rules;
  causes = search rules;
  still = λ honest.
      still_same (still (g.D.Disk.state c.args.disk.now) (g.D.Disk.past c.args.disk.now))
      (c.length.ensures.passes honest).moment (c.length.ensures.kept.disk.files honest);
}

pub returns-in_err-table-clause-reads : goal.returns-in_err-table-clause-reads
returns-in_err-table-clause-reads g c = record {
  kept = search rules;
  causes = search rules;
  still = λ honest.
      still_more
      (still_same (still (g.D.Disk.state c.args.disk.now) (g.D.Disk.past c.args.disk.now))
      (c.length.ensures.passes honest).moment (c.length.ensures.kept.disk.files honest))
      (c.open.ensures.still (c.length.ensures.kept.disk.honest.1 honest));
}

pub returns-then-not-ends_with-clause-reads : goal.returns-then-not-ends_with-clause-reads
returns-then-not-ends_with-clause-reads g c = record {
  kept = search rules;
  causes = search rules;
  still = λ honest.
      still_more
      (still_same (still (g.D.Disk.state c.args.disk.now) (g.D.Disk.past c.args.disk.now))
      (c.length.ensures.passes honest).moment (c.length.ensures.kept.disk.files honest))
      (c.open.ensures.still (c.length.ensures.kept.disk.honest.1 honest));
}

pub returns-in_err-line-clause-reads : goal.returns-in_err-line-clause-reads
returns-in_err-line-clause-reads g c = record {
  kept = search rules;
  causes = search rules;
  still = λ honest.
      still_more
      (still_same (still (g.D.Disk.state c.args.disk.now) (g.D.Disk.past c.args.disk.now))
      (c.length.ensures.passes honest).moment (c.length.ensures.kept.disk.files honest))
      (c.open.ensures.still (c.length.ensures.kept.disk.honest.1 honest));
}

pub returns-clause-reads : goal.returns-clause-reads
returns-clause-reads g c = record {
  kept = search rules;
  causes = search rules;
  still = λ honest.
      still_more
      (still_same (still (g.D.Disk.state c.args.disk.now) (g.D.Disk.past c.args.disk.now))
      (c.length.ensures.passes honest).moment (c.length.ensures.kept.disk.files honest))
      (c.open.ensures.still (c.length.ensures.kept.disk.honest.1 honest));
}

pub returns-in_err-table-clause-opens : goal.returns-in_err-table-clause-opens
returns-in_err-table-clause-opens g c = record {
  -- the file is that of a table, so a refusal is external
  opened = λ table honest is.
      let old = g.D.Disk.state c.args.disk.now in
      let line = c.args.line.now in
      let has = file_represents (contents old) line table
      (g.D.Disk.state c.length.new.self line.file) is
      (ap seen (c.length.ensures.kept.disk.files honest line.file)) in
      refuses c.from_residual-in_err-table.result _ (IsEnvironmental engine.Disk engine.Memory)
      c.from_residual-in_err-table.ensures.1
      (of_table c.in_err-table.field-0.0 (c.in_err-table.ensures.opened table.entries
      (c.length.ensures.kept.disk.honest.1 honest) has));
  meant = search rules;
  fits = λ honest.
      let line = c.args.line.now in
      refuses c.from_residual-in_err-table.result _ _
      c.from_residual-in_err-table.ensures.1 (λ fit. of_table c.in_err-table.field-0.0
      (c.in_err-table.ensures.checked (c.length.ensures.kept.disk.honest.1 honest)
      (fits_opens (g.D.Disk.state c.args.disk.now line.file)
      (g.D.Disk.state c.length.new.self line.file) line
      (ap seen (c.length.ensures.kept.disk.files honest line.file)) fit)));
  lines = search rules;
}

pub returns-then-not-ends_with-clause-opens : goal.returns-then-not-ends_with-clause-opens
returns-then-not-ends_with-clause-opens g c = record {
  -- the file's greatest key is that of the line, whatever entries the file represents
  opened = λ table honest is.
      let line = c.args.line.now in
      let has = file_represents (contents (g.D.Disk.state c.args.disk.now)) line table
      (g.D.Disk.state c.length.new.self line.file) is
      (ap seen (c.length.ensures.kept.disk.files honest line.file)) in
      let serves = c.in_ok-table.ensures.opened table.entries
      (c.length.ensures.kept.disk.honest.1 honest) has in
      absurd (never c.ends_with.result c.if-not-ends_with.true
      ((c.ends_with.ensures.serves _ table.entries serves).1 is.greatest));
  meant = search rules;
  fits = λ honest fit.
      let line = c.args.line.now in
      let has = (c.in_ok-table.ensures.checked (c.length.ensures.kept.disk.honest.1 honest)).1 in
      absurd (never c.ends_with.result c.if-not-ends_with.true (c.ends_with.ensures.line.1
      (fits_last (g.D.Disk.state c.args.disk.now line.file)
      (g.D.Disk.state c.length.new.self line.file) line
      (ap seen (c.length.ensures.kept.disk.files honest line.file)) fit c.in_ok-table.table has)));
  lines = search rules;
}

pub returns-clause-opens : goal.returns-clause-opens
returns-clause-opens g c = record {
  opened = search rules;
  -- and serves what was meant, where it is as it was meant but for damaged blocks
  meant = λ meant table honest is as_meant.
      let line = c.args.line.now in
      let file = line.file in
      let opened = c.in_ok-table.table in
      let s0 = g.D.Disk.state c.args.disk.now in
      let s1 = g.D.Disk.state c.length.new.self in
      let s2 = g.D.Disk.state c.open.new.disk in
      let between = c.length.ensures.kept.disk.honest.1 honest in
      let first = c.length.ensures.kept.disk.files honest file in
      let same = c.open.ensures.kept.files between file ∙ first in
      opened_as_meant s2 meant line c.in_ok-line.line table opened c.in_ok-line.ensures
      c.in_ok-table.ensures.at is
      (elim as_meant as (λ _. TableServes (meant file) opened table.entries
      × IsOpenAsMeant (s2 file) (meant file) opened) [
        | inl e ↦
            let has = file_represents (contents meant) line table (s1 file) is
            (ap seen (first ∙ e)) in
            let now : s2 file ≡ meant file = same ∙ e in (
              subst (λ (s : Slot). TableServes s opened table.entries) now
                  (c.in_ok-table.ensures.opened table.entries between has),
              subst (λ (s : Slot). IsOpenAsMeant (s2 file) s opened) now
                  (open_as_itself (s2 file) opened),
            )
        | inr rest ↦
            let was = subst (λ (s : Slot). IsOpenOn s opened) same
            (c.in_ok-table.ensures.checked between).0 in
            let both = rest opened table.entries was
            (file_represents (contents meant) line table (meant file) is refl) in (
              both.0,
              record {
                opened = inr (c.in_ok-table.ensures.checked between).0;
                blocks = subst (λ (s : Slot). AreAsMeant (table_format opened) s (meant file)
                    (index_lines opened)) (sym same) both.1;
              },
            )
      ]);
  -- the file had the length of the line, and its greatest key
  fits = λ honest.
      let line = c.args.line.now in
      let table = c.in_ok-table.table in
      let between = c.length.ensures.kept.disk.honest.1 honest in
      let tail = subst (λ (file : Option (List ℕ)).
      IsSomeAnd file
      (λ bytes. HasTail (table_format table) bytes (index_lines table) (table_filter table)))
      (ap seen (c.open.ensures.kept.files between line.file
      ∙ c.length.ensures.kept.disk.files honest line.file))
      (c.in_ok-table.ensures.checked between).0 in
      fit_read (contents (g.D.Disk.state c.args.disk.now) line.file) line c.in_ok-length.field-0
      (c.in_ok-length.ensures.length honest) c.if-branch-line.false table tail
      (c.ends_with.ensures.line.0 c.if-not-ends_with.false)
      (λ entries has.
      let serves = c.in_ok-table.ensures.opened entries between
      (represents_same entries _ _
      (ap seen (c.length.ensures.kept.disk.files honest line.file)) has) in
      (c.ends_with.ensures.serves _ entries serves).0 c.if-not-ends_with.false);
  lines = search rules;
}

-- ---- a file that fits the line

pub returns-then-branch-line-clause-opens : goal.returns-then-branch-line-clause-opens
returns-then-branch-line-clause-opens g c = record {
  opened = search rules;
  meant = search rules;
  fits = λ honest fit.
      absurd (fits_length (contents (g.D.Disk.state c.args.disk.now) c.args.line.now.file)
      c.args.line.now c.in_ok-length.field-0 (c.in_ok-length.ensures.length honest) fit
      c.if-branch-line.true);
  lines = search rules;
}
