use Rattle.std.proofs.Common.{◌≡◌, ◌∙◌, ◌+◌, List, ap, subst, sym, take}
use Rattle.std.specs.List.{AllZip}
use Rattle.std.proofs.lemmas.Result.{IfOk-weaker}
use Rattle.kv_types.specs.{stored_span}
use Rattle.sorted_table.specs.contracts.table_cursor.TableCursorCursor.TheImpl as table
use Rattle.store_cursors.specs.contracts.store_cursor.StoreCursorCursor.TheImpl.{ghosts, no_dict}
use Rattle.store_model.specs.{KeyRange, LevelTable}
use Rattle.store_tables.specs.declared.levels.OpenTable.{OpenTable}
use Rattle.store_tables.specs.RangeReads.{WasServedIn, meets_span, tables_in}
use Rattle.store_tables.specs.TableSeries.{AreSeries}
use Rattle.store_tables.proofs.RangeTables.{all_asked, kept_more, kept_same}
use Rattle.store_tables.proofs.SideBySide.{beside}
use Rattle.store_tables.proofs.ThroughTables.{are_range_cursors}
use Rattle.store_tables.proofs.levels.LevelTables.cursors.Goals as goal
use Rattle.store_tables.proofs.levels.LevelTables.cursors.Goals.{
  then-meets+in_ok-cursor+in_ok-add,
  else-meets,
}

-- no table was passed
pub loop-open-init : goal.loop-open-init
loop-open-init g c = λ meant files tables honest served. c.new-series.ensures meant files

-- one table more was passed
pub loop-open-preserved : goal.loop-open-preserved
loop-open-preserved g c = λ meant files tables honest served.
    let store = ghosts g.row.D g.D.Disk no_dict no_dict in
    let over = table.ghosts g.row.D g.D.Disk table.no_dict table.no_dict in
    let items = c.deref-open-items.result.now in
    let i = c.loop-open.open-index in
    let span = stored_span c.args.range.now in
    let disk = g.D.Disk.state files.disk in
    let meets_it = λ (t : LevelTable). meets_span t.range span in
    let zip = subst (λ (l : List OpenTable). AllZip (WasServedIn span disk meant) l tables)
    (sym c.deref-open-items.ensures.value) served in
    let b = beside (WasServedIn span disk meant) items tables i c.open-item.result zip
    c.loop-open-test.true c.open-item.is in
    let meets : meets_span b.other.range span ≡ c.meets.result =
    ap (λ (r : KeyRange). meets_span r span) b.related.range ∙ sym c.meets.ensures in
    let before = c.loop-open.invariant meant files tables honest served in
    elim c.if-meets.branch [
      | then-meets+in_ok-cursor+in_ok-add w ↦ rw w.series-is
          (subst (λ (l : List LevelTable). AreSeries store over meant meant files
          w.add.new.self.ended.items w.add.new.self.last.items l)
          (sym (kept_more meets_it (take i tables) (take (i + 1) tables) b.other b.taken
          (meets ∙ w.if-meets.true)))
          (w.in_ok-add.ensures meant files (tables_in span (take i tables)) b.other before
          (w.in_ok-cursor.ensures meant files b.other honest
          (b.related.serves (meets ∙ w.if-meets.true)))
          (ap (λ (r : KeyRange). r.least) b.related.range)))
      | else-meets w ↦ rw w.series-is
          (subst (λ (l : List LevelTable). AreSeries store over meant meant files
          c.loop-open.series.ended.items c.loop-open.series.last.items l)
          (sym (kept_same meets_it (take i tables) (take (i + 1) tables) b.other b.taken
          (meets ∙ w.if-meets.false))) before)
    ]

-- the cursors go through the tables that meet the range, and a table that was passed over has no
-- key of it
pub returns : goal.returns
returns g c = IfOk-weaker c.finish.result _ _
    (λ cursors through meant files tables honest served.
    let store = ghosts g.row.D g.D.Disk no_dict no_dict in
    let over = table.ghosts g.row.D g.D.Disk table.no_dict table.no_dict in
    let span = stored_span c.args.range.now in
    let i = c.loop-open.open-index in
    let asked = all_asked span (WasServedIn span (g.D.Disk.state files.disk) meant)
    c.args.self.now.tables.items c.deref-open-items.result.now tables i
    c.deref-open-items.ensures.value served c.loop-open-test.false in
    are_range_cursors store meant files span tables cursors.items
    (through meant files (tables_in span tables)
    (subst (λ (l : List LevelTable). AreSeries store over meant meant files
    c.loop-open.series.ended.items c.loop-open.series.last.items l) asked
    (c.loop-open.invariant meant files tables honest served)))) c.finish.ensures
