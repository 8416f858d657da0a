use Rattle.std.proofs.Common.{ℕ, Bool, List, sym, subst}
use Rattle.kv_types.specs.{Row}
use Rattle.kv_types.specs.Pages.{IsPage}
use Rattle.kv_types.specs.{Rows}
use Rattle.merge_iter.specs.{IfOn}
use Rattle.row_pages.specs.Additions.{AddsRowOf}
use Rattle.row_pages.specs.Walking.{ReadsUpTo}
use Rattle.row_pages.proofs.Calls.{has_moved, shifts_as, shifts_behind, step_shifts}
use Rattle.row_pages.proofs.Steps.{begun, full_page, last_page, steps_on, unbroken}
use Rattle.row_pages.proofs.reading.read_page.Goals as goal

pub loop-alloc-init : goal.loop-alloc-init
loop-alloc-init g c = record {
  moved = has_moved g.C.Cursor g.met.C.Cursor.laws c.in_ok-begin.was c.begin.ensures.moved;
  reads = λ meant map walk sound has is.
      let entries = g.C.Cursor.holds meant c.args.cursor.now c.args.source.now in
      let at = g.C.Cursor.position c.begin.new.cursor in
      subst (λ (rows : List Row). ReadsUpTo c.args.range.now entries walk rows at)
      (sym c.in_ok-page.ensures)
      (begun map c.args.range.now entries has walk is c.begin.result c.in_ok-begin.field-0 at
      c.in_ok-begin.was (c.begin.ensures.begins meant sound has.numbers));
}

pub loop-alloc-preserved : goal.loop-alloc-preserved
loop-alloc-preserved g c =
    let i = c.loop-alloc.invariant in
    let range = c.args.range.now in
    let was = g.C.Cursor.position c.loop-alloc.cursor in
    let rows = c.loop-alloc.page in
    let new = c.add_entry.new.page in
    let within = c.stands_within.ensures.0 c.loop-alloc-test.true in
    let adds = subst (λ (b : Bool). IfOn was (λ e. AddsRowOf range.limit rows e new b))
    c.if-not-branch.false
    (subst (λ (n : ℕ). IfOn was (λ e. AddsRowOf n rows e new c.in_ok-add_entry.field-0))
    c.limit-limit.ensures.limit c.in_ok-add_entry.ensures) in
    record {
      moved = has_moved g.C.Cursor g.met.C.Cursor.laws c.in_ok-step.was
          (shifts_behind g.C.Cursor g.met.C.Cursor.laws i.moved
          (step_shifts g.C.Cursor g.met.C.Cursor.laws (unbroken range was within) c.step.ensures));
      reads = λ meant map walk sound has is.
          let entries = g.C.Cursor.holds meant c.args.cursor.now c.args.source.now in
          let stays = i.moved.moves.stays meant sound in
          steps_on map range entries has walk is
          (g.C.Cursor.holds meant c.loop-alloc.cursor c.loop-alloc.source) stays.1 rows new was
          (g.C.Cursor.position c.step.new.cursor) c.step.result c.in_ok-step.field-0 within adds
          c.in_ok-step.was (c.step.ensures.finds meant stays.0)
          (i.reads meant map walk sound has is);
    }

pub returns-in_err-step-clause-moved : goal.returns-in_err-step-clause-moved
returns-in_err-step-clause-moved g c =
    let i = c.loop-alloc.invariant in
    let range = c.args.range.now in
    let was = g.C.Cursor.position c.loop-alloc.cursor in
    let within = c.stands_within.ensures.0 c.loop-alloc-test.true in
    shifts_behind g.C.Cursor g.met.C.Cursor.laws i.moved
    (shifts_as g.C.Cursor g.met.C.Cursor.laws c.step.result c.from_residual-in_err-step.result
    c.in_err-step.field-0.0 c.in_err-step.was c.from_residual-in_err-step.ensures.1
    (step_shifts g.C.Cursor g.met.C.Cursor.laws (unbroken range was within) c.step.ensures))

pub returns-then-not-branch-clause-page : goal.returns-then-not-branch-clause-page
returns-then-not-branch-clause-page g c = λ meant map sound has walk.
    let i = c.loop-alloc.invariant in
    let range = c.args.range.now in
    let entries = g.C.Cursor.holds meant c.args.cursor.now c.args.source.now in
    let was = g.C.Cursor.position c.loop-alloc.cursor in
    let rows = c.loop-alloc.page in
    let new = c.add_entry.new.page in
    let within = c.stands_within.ensures.0 c.loop-alloc-test.true in
    let adds = subst (λ (b : Bool). IfOn was (λ e. AddsRowOf range.limit rows e new b))
    c.if-not-branch.true
    (subst (λ (n : ℕ). IfOn was (λ e. AddsRowOf n rows e new c.in_ok-add_entry.field-0))
    c.limit-limit.ensures.limit c.in_ok-add_entry.ensures) in
    subst (λ (p : Rows). IsPage map range p) (sym c.into_page.ensures)
    (full_page map range entries has walk.0 walk.1 rows new was within adds
    (i.reads meant map walk.0 sound has walk.1))

pub returns-clause-page : goal.returns-clause-page
returns-clause-page g c = λ meant map sound has walk.
    let i = c.loop-alloc.invariant in
    let range = c.args.range.now in
    let entries = g.C.Cursor.holds meant c.args.cursor.now c.args.source.now in
    let was = g.C.Cursor.position c.loop-alloc.cursor in
    subst (λ (p : Rows). IsPage map range p) (sym c.into_page-2.ensures)
    (last_page map range entries has walk.0 walk.1 c.loop-alloc.page was
    (λ within. let t = c.stands_within.ensures.1 within in let f = c.loop-alloc-test.false in cc)
    (i.reads meant map walk.0 sound has walk.1))
