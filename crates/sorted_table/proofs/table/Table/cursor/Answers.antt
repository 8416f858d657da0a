use Rattle.std.proofs.Common.{◌∙◌, ap, subst, sym}
use Rattle.std.specs.Rc.{rc_slice_items}
use Rattle.sorted_table.specs.Meant.{AreAsMeant}
use Rattle.sorted_table.specs.TableCursors.{CursorServes}
use Rattle.sorted_table.proofs.TableShares.{shared}
use Rattle.sorted_table.proofs.table.Table.cursor.Goals as goal

pub returns-clause-serves : goal.returns-clause-serves
returns-clause-serves g c = λ meant files entries honest serves agree.
    let state = meant in
    let at_file = ap (g.D.Disk.state files.disk) c.new.ensures.table.0 in
    let lines = ap rc_slice_items c.new.ensures.table.1 ∙ c.in_ok-clone.ensures.cases in
    let table = c.args.self.now in
    let same = c.new.ensures.table.2 in
    let it = shared (state table.file) (state c.new.result.file) table entries
    (rc_slice_items c.new.result.lines) c.new.result.place serves (ap state c.new.ensures.table.0)
    (ap rc_slice_items c.new.ensures.table.1 ∙ c.in_ok-clone.ensures.cases) c.new.ensures.off.0 in (
      (
        honest,
        subst (λ f. CursorServes f (meant c.new.result.file) (rc_slice_items c.new.result.lines)
            c.new.result.place) (sym same) it.0,
        subst (λ f. AreAsMeant f (g.D.Disk.state files.disk c.new.result.file)
            (meant c.new.result.file) (rc_slice_items c.new.result.lines)) (sym same)
            (subst (λ z. AreAsMeant table.format z (meant c.new.result.file)
            (rc_slice_items c.new.result.lines)) (sym at_file)
            (subst (λ z. AreAsMeant table.format (g.D.Disk.state files.disk table.file) z
            (rc_slice_items c.new.result.lines)) (sym (ap meant c.new.ensures.table.0))
            (subst (AreAsMeant table.format (g.D.Disk.state files.disk table.file)
            (meant table.file)) (sym lines) agree))),
      ),
      it.1,
    )
