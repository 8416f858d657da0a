use Rattle.std.proofs.Common.{◌≡◌, ◌∙◌, ◌+◌, List, [], ◌∷◌, ◌++◌, ap, refl, subst, sym, take}
use Rattle.std.specs.List.{filter}
use Rattle.std.proofs.lemmas.List.{take_more}
use Rattle.disk.specs.{State}
use Rattle.sorted_table.specs.contracts.table_cursor.TableCursorCursor.TheImpl.{ghosts, no_dict}
use Rattle.compaction.specs.Inputs.{lent_range}
use Rattle.compaction.specs.Plans.{is_line_input, model_plan}
use Rattle.store_tables.specs.declared.levels.OpenTable.{OpenTable}
use Rattle.store_tables.specs.LevelTables.{IsServed, WasServed}
use Rattle.store_tables.proofs.MergeInputs.{IsOverTable, all_passed, are_cursors, are_intact}
use Rattle.store_tables.proofs.MergeInputs.{inputs_beside, inputs_own, inputs_unique}
use Rattle.store_tables.proofs.OpenTables.{files_ghosts}
use Rattle.store_tables.proofs.RangeTables.{one_met, one_passed}
use Rattle.store_tables.proofs.levels.LevelTables.merge_cursors.Goals as goal
use Rattle.store_tables.proofs.levels.LevelTables.merge_cursors.Goals.{
  then-has_input+in_ok-cursor+in_ok-push,
  else-has_input,
}

-- one table more was passed
pub loop-open-preserved : goal.loop-open-preserved
loop-open-preserved g c =
    let R = IsOverTable (ghosts g.row.D g.D.Disk no_dict no_dict) (files_ghosts g.D.Disk)
    (λ (meant : State). meant) in
    let items = c.args.self.now.tables.items in
    let i = c.loop-open.open-index in
    let one = c.open-item.result in
    let test = λ (it : OpenTable).
    is_line_input c.args.plan (lent_range c.in-Some.range) it.line in
    let taken = subst (λ (l : List OpenTable). take (i + 1) l ≡ take i l ++ one ∷ [])
    c.deref-open-items.ensures.value
    (take_more c.deref-open-items.result.now i one c.loop-open-test.true
    ∙ ap (λ (t : OpenTable). take i c.deref-open-items.result.now ++ t ∷ [])
    (sym c.open-item.is)) in
    let before = c.loop-open.invariant in
    elim c.if-has_input.branch [
      | then-has_input+in_ok-cursor+in_ok-push w ↦ rw w.inputs-is
          (one_met R test (take i items) (take (i + 1) items) one taken c.loop-open.inputs.items
          w.push.new.self.items w.in_ok-cursor.field-0 before w.in_ok-push.ensures.items
          (sym c.has_input.ensures ∙ w.if-has_input.true)
          (record {
            serves = λ meant files table honest was.
                let it = w.in_ok-cursor.ensures.serves meant files table.entries honest
                was.serves.serves was.blocks.blocks in
                record { sound = it.0; holds = it.1 };
            suits = w.in_ok-cursor.ensures.suits;
          }))
      | else-has_input w ↦ rw w.inputs-is
          (one_passed R test (take i items) (take (i + 1) items) one taken
          c.loop-open.inputs.items before (sym c.has_input.ensures ∙ w.if-has_input.false))
    ]

-- they are those of the inputs
pub returns-clause-over : goal.returns-clause-over
returns-clause-over g c = λ meant files range tables honest have was.
    let C = ghosts g.row.D g.D.Disk no_dict no_dict in
    let D = files_ghosts g.D.Disk in
    let plan = c.args.plan in
    let it = c.args.self.now in
    let cursors = c.loop-open.inputs.items in
    let over = all_passed (IsOverTable C D (λ (meant : State). meant)) plan
    (lent_range c.in-Some.range) range it.tables.items c.deref-open-items.result.now
    c.loop-open.open-index cursors c.deref-open-items.ensures.value c.loop-open-test.false
    (c.in-Some.ensures ∙ have.joint) c.loop-open.invariant in
    are_cursors C D (λ (meant : State). meant) cursors
    (filter (λ one. is_line_input plan range one.line) it.tables.items)
    (model_plan plan range tables).inputs over
    (inputs_unique plan range have.flushed tables have.leveled)
    (inputs_own plan range tables have.own) meant files honest
    (inputs_beside (WasServed (D.state files) meant) plan range c.args.lines.now it tables have was)

-- where the tables are served, there is no damage
pub returns-clause-intact : goal.returns-clause-intact
returns-clause-intact g c = λ files range tables honest have served.
    let C = ghosts g.row.D g.D.Disk no_dict no_dict in
    let D = files_ghosts g.D.Disk in
    let plan = c.args.plan in
    let it = c.args.self.now in
    let cursors = c.loop-open.inputs.items in
    let over = all_passed (IsOverTable C D (λ (meant : State). meant)) plan
    (lent_range c.in-Some.range) range it.tables.items c.deref-open-items.result.now
    c.loop-open.open-index cursors c.deref-open-items.ensures.value c.loop-open-test.false
    (c.in-Some.ensures ∙ have.joint) c.loop-open.invariant in
    are_intact C D (λ (meant : State). meant) cursors
    (filter (λ one. is_line_input plan range one.line) it.tables.items)
    (model_plan plan range tables).inputs over
    (inputs_unique plan range have.flushed tables have.leveled)
    (inputs_own plan range tables have.own) (λ other fine file. refl) files
    (inputs_beside (IsServed (D.state files)) plan range c.args.lines.now it tables have served)
