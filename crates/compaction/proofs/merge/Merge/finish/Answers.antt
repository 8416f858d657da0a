use Rattle.std.proofs.Common.{◌≡◌, inl, inr, refl, sym, subst, ap, ◌∙◌, arith, length, map}
use Rattle.std.proofs.Common.{All, List, Ok, Err, suc}
use Rattle.std.specs.List.{AllZip}
use Rattle.std.specs.Global.{Vec}
use Rattle.table_files.specs.contracts.cached_disk.CachedDiskDisk.TheImpl as files_disk
use Rattle.version_edits.specs.declared.TableLine.{TableLine}
use Rattle.version_edits.specs.declared.TableName.{TableName}
use Rattle.version_edits.specs.{IsTableLine, IsVersion, NodeVersion}
use Rattle.std.proofs.lemmas.Bool.{both_ways}
use Rattle.compaction.specs.Merges.{HaveNewFiles, IsOutputTable, merge_change, table_name}
use Rattle.compaction.specs.Outputs.{IsOpenFile}
use Rattle.compaction.specs.Walks.{written_by}
use Rattle.compaction.proofs.Calls.{done, memory_told, ok_fails, passed_on, refused, writes_as}
use Rattle.compaction.proofs.Calls.{writes_nothing}
use Rattle.compaction.proofs.Merging.{closed_all, merge_done, merge_edit, too_many}
use Rattle.compaction.proofs.Numbers.{new_files}
use Rattle.compaction.proofs.Shapes.{none_shaped, shaped}
use Rattle.compaction.proofs.Writing.{refuses, unused_kept}
use Rattle.compaction.proofs.merge.Merge.finish.Goals as goal

pub returns-then-self : goal.returns-then-self
returns-then-self g c = record {
  writes = writes_nothing _ (IsOpenFile c.args.self.now.writer) c.args.files.now
      (refused (λ e. cc));
  first = refl;
  failed = λ f. refl;
  shape = tt;
  ends = λ meant plan floor m off. absurd (m.works c.if-self.true);
  unused = λ meant plan floor m. absurd (m.works c.if-self.true);
}

pub returns-in_err-close : goal.returns-in_err-close
returns-in_err-close g c = record {
  writes = writes_as _ (IsOpenFile c.args.self.now.writer)
      (passed_on c.close.result c.in_err-close.field-0.0 c.from_residual.result
      c.in_err-close.was c.from_residual.ensures.1)
      (λ lost meant plan floor m. lost (written_by c.args.self.now.writer m.walk.met)
      m.walk.honest m.walk.writes) (c.close.ensures.writes c.args.next_file);
  first = refl;
  failed = λ f. absurd (both_ways _ c.if-self.false f);
  shape = none_shaped c.from_residual.result _ _ c.from_residual.ensures.1;
  ends = λ meant plan floor m off.
      let zip = closed_all (files_disk.ghosts g.row.D g.D.Disk g.D.Disk-dict g.D.Destruct-dict)
      c.args.files.now c.close.new.disk c.args.next_file
      c.args.self.now.writer c.close.new.self (written_by c.args.self.now.writer m.walk.met)
      {R = Unit {0}} (Err c.in_err-close.field-0.0) m.walk.writes
      (λ some. c.in_err-close.ensures.closed c.args.next_file
      (written_by c.args.self.now.writer m.walk.met) m.walk.honest m.walk.writes some)
      c.in_err-close.ensures.empty in
      refuses c.from_residual.result _ _ c.from_residual.ensures.1 (inl zip);
  unused = λ meant plan floor m. unused_kept _ _ c.args.self.now.writer c.args.next_file
      m.walk.writes.numbered
      ((c.close.ensures.writes c.args.next_file).kept.files m.walk.honest) m.walk.unused;
}

pub returns-then-len : goal.returns-then-len
returns-then-len g c = record {
  writes = writes_as _ (IsOpenFile c.args.self.now.writer) (
    ok_fails c.close.result c.in_ok-close.field-0 c.in_ok-close.was,
    λ f. absurd (refused (λ e. cc) f),
  )
      (λ lost meant plan floor m. lost (written_by c.args.self.now.writer m.walk.met)
      m.walk.honest m.walk.writes) (c.close.ensures.writes c.args.next_file);
  first = refl;
  failed = λ f. absurd (both_ways _ c.if-self.false f);
  shape = tt;
  ends = λ meant plan floor m off.
      let zip = closed_all (files_disk.ghosts g.row.D g.D.Disk g.D.Disk-dict g.D.Destruct-dict)
      c.args.files.now c.close.new.disk c.args.next_file
      c.args.self.now.writer c.close.new.self (written_by c.args.self.now.writer m.walk.met)
      {R = Unit {0}} (Ok c.in_ok-close.field-0) m.walk.writes
      (λ some. c.in_ok-close.ensures.closed c.args.next_file
      (written_by c.args.self.now.writer m.walk.met) m.walk.honest m.walk.writes some)
      c.in_ok-close.ensures.empty in
      let out = merge_done _ _ meant c.args.files.now c.args.next_file c.args.self.now plan floor m
      off _ c.close.new.self.level c.close.new.self.closed.items c.close.ensures.rules.level
      c.written_are_merged.ensures zip.0 in
      let added : c.drain-added.result.items ≡ c.close.new.self.closed.items =
      ap (λ (v : Vec TableLine). v.items) c.drain-added.ensures in
      let holds = subst (λ (l : List TableLine).
      AllZip (IsOutputTable (g.D.Disk.state c.close.new.disk.disk)
      (suc plan.level)) l out.0)
      (sym added) out.3 in
      let many : length out.0 ≡ length c.drain-added.result.items =
      out.4 ∙ ap length (sym added) in
      let gone : c.replace-gone.result.items ≡ map table_name plan.inputs =
      ap (λ (v : Vec TableName). v.items) c.replace-gone.ensures.value ∙ m.gone in
      let a = c.len.ensures in
      let b = c.len-2.ensures in
      let k = c.len-3.ensures in
      let t = ap (λ (v : NodeVersion). length v.version.tables) c.version.view_is in
      let over = c.if-len.true in
      inr (
        refl,
        too_many _ c.args.version.now.version c.args.self.now.first c.args.next_file
            c.args.self.now.writer plan floor
            c.replace-gone.result.items c.drain-added.result.items out.0 out.1 out.2 holds many gone
            (omega (arith, a, b, k, t, over)),
      );
  unused = λ meant plan floor m. unused_kept _ _ c.args.self.now.writer c.args.next_file
      m.walk.writes.numbered
      ((c.close.ensures.writes c.args.next_file).kept.files m.walk.honest) m.walk.unused;
}

pub returns-in_err-edit_of : goal.returns-in_err-edit_of
returns-in_err-edit_of g c = record {
  writes = writes_as _ (IsOpenFile c.args.self.now.writer) (
    ok_fails c.close.result c.in_ok-close.field-0 c.in_ok-close.was,
    λ f. absurd (memory_told c.from_residual-in_err-edit_of.result
        c.from_residual-in_err-edit_of.ensures.1 f),
  )
      (λ lost meant plan floor m. lost (written_by c.args.self.now.writer m.walk.met)
      m.walk.honest m.walk.writes) (c.close.ensures.writes c.args.next_file);
  first = refl;
  failed = λ f. absurd (both_ways _ c.if-self.false f);
  shape = none_shaped c.from_residual-in_err-edit_of.result _ _
      c.from_residual-in_err-edit_of.ensures.1;
  ends = λ meant plan floor m off. refuses c.from_residual-in_err-edit_of.result _ _
      c.from_residual-in_err-edit_of.ensures.1 (inl (inr refl));
  unused = λ meant plan floor m. unused_kept _ _ c.args.self.now.writer c.args.next_file
      m.walk.writes.numbered
      ((c.close.ensures.writes c.args.next_file).kept.files m.walk.honest) m.walk.unused;
}

pub returns : goal.returns
returns g c = record {
  writes = writes_as _ (IsOpenFile c.args.self.now.writer)
      (ok_fails c.close.result c.in_ok-close.field-0 c.in_ok-close.was, λ f. absurd (done f))
      (λ lost meant plan floor m. lost (written_by c.args.self.now.writer m.walk.met)
      m.walk.honest m.walk.writes) (c.close.ensures.writes c.args.next_file);
  first = refl;
  failed = λ f. absurd (both_ways _ c.if-self.false f);
  shape =
      let a = c.len.ensures in
      let b = c.len-2.ensures in
      let k = c.len-3.ensures in
      let t = ap (λ (v : NodeVersion). length v.version.tables) c.version.view_is in
      let many = ap (λ (v : Vec TableName). length v.items) c.replace-gone.ensures.value in
      let room = c.if-len.false in
      shaped c.args.version.now.version c.args.next_file c.args.self.now.gone.items
      c.drain-added.result.items c.in_ok-edit_of.field-0
      (subst (λ (v : NodeVersion). IsVersion v.version) c.version.view_is c.version.invariant)
      c.args.self.now.few c.args.self.now.named
      (subst (λ (v : Vec TableLine). All IsTableLine v.items) (sym c.drain-added.ensures)
      c.close.new.self.proper)
      (omega (arith, a, b, k, t, many, room))
      (c.in_ok-edit_of.ensures ∙ ap (λ (v : Vec TableName). merge_change
      c.args.version.now.version c.args.next_file v.items c.drain-added.result.items)
      c.replace-gone.ensures.value);
  ends = λ meant plan floor m off.
      let zip = closed_all (files_disk.ghosts g.row.D g.D.Disk g.D.Disk-dict g.D.Destruct-dict)
      c.args.files.now c.close.new.disk c.args.next_file
      c.args.self.now.writer c.close.new.self (written_by c.args.self.now.writer m.walk.met)
      {R = Unit {0}} (Ok c.in_ok-close.field-0) m.walk.writes
      (λ some. c.in_ok-close.ensures.closed c.args.next_file
      (written_by c.args.self.now.writer m.walk.met) m.walk.honest m.walk.writes some)
      c.in_ok-close.ensures.empty in
      let out = merge_done _ _ meant c.args.files.now c.args.next_file c.args.self.now plan floor m
      off _ c.close.new.self.level c.close.new.self.closed.items c.close.ensures.rules.level
      c.written_are_merged.ensures zip.0 in
      let added : c.drain-added.result.items ≡ c.close.new.self.closed.items =
      ap (λ (v : Vec TableLine). v.items) c.drain-added.ensures in
      let holds = subst (λ (l : List TableLine).
      AllZip (IsOutputTable (g.D.Disk.state c.close.new.disk.disk)
      (suc plan.level)) l out.0)
      (sym added) out.3 in
      let many : length out.0 ≡ length c.drain-added.result.items =
      out.4 ∙ ap length (sym added) in
      let gone : c.replace-gone.result.items ≡ map table_name plan.inputs =
      ap (λ (v : Vec TableName). v.items) c.replace-gone.ensures.value ∙ m.gone in
      let a = c.len.ensures in
      let b = c.len-2.ensures in
      let k = c.len-3.ensures in
      let t = ap (λ (v : NodeVersion). length v.version.tables) c.version.view_is in
      let room = c.if-len.false in
      let lawful = subst (λ (v : NodeVersion). IsVersion v.version) c.version.view_is
      c.version.invariant in
      let edit = merge_edit _ c.args.version.now.version c.args.self.now.first c.args.next_file
      c.args.self.now.writer plan floor
      c.replace-gone.result.items c.drain-added.result.items out.0 out.1 out.2 holds many gone
      c.in_ok-edit_of.field-0 c.in_ok-edit_of.ensures
      (λ over. omega (arith, a, b, k, t, room, over)) m.numbers
      (subst (λ (l : List TableLine). HaveNewFiles c.args.self.now.first c.args.next_file
      c.args.self.now.writer l) (sym added) (new_files c.args.self.now.first c.args.next_file
      c.args.self.now.writer c.close.new.self plan.inputs m.numbers zip.1
      c.close.ensures.outputs)) in
      record {
        merges = edit;
        fit = λ may. c.merge_edits_fit.ensures _ c.args.version.now.version c.args.self.now.first
            c.args.next_file c.args.self.now.writer plan floor c.in_ok-edit_of.field-0 lawful edit
            may;
      };
  unused = λ meant plan floor m. unused_kept _ _ c.args.self.now.writer c.args.next_file
      m.walk.writes.numbered
      ((c.close.ensures.writes c.args.next_file).kept.files m.walk.honest) m.walk.unused;
}
