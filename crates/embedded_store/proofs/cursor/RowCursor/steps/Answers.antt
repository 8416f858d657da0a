-- A step among the rows that are at hand.
use Rattle.std.proofs.Common.{◌≡◌, ◌+◌, ◌-◌, ◌<◌, arith, length, ap, refl, subst}
use Rattle.std.proofs.Common.{sym, Bool, ◌∙◌, true≢false}
use Rattle.embedded_store.specs.Cursors.{AreNeighbours, cursor_map}
use Rattle.embedded_store.proofs.PageRows.{is_place, steps_back, steps_on}
use Rattle.embedded_store.proofs.cursor.RowCursor.steps.Goals as goal

-- back to the row before
pub returns-then-not-are_alike : goal.returns-then-not-are_alike
returns-then-not-are_alike c =
    let cursor = c.args.self.now in
    let len = ap length c.rows-count.ensures in
    let inside : cursor.place < length cursor.page.rows =
    omega (arith, len, c.if-self-count.false) in
    let other : c.args.backward ≡ cursor.is_backward → ⊥ =
    λ same. absurd (true≢false
    (sym (c.are_alike.ensures.1 same) ∙ c.if-not-are_alike.true)) in
    let behind : cursor.place ≡ cursor.place - 1 + 1 = omega (arith, c.if-self-eq0.false) in
    record {
      on = is_place cursor.page.rows (cursor.place - 1) (omega (arith, behind, inside));
      rows = refl;
      number = refl;
      follows = λ list is. (
        is,
        steps_back (cursor_map cursor list) cursor.page.rows c.args.backward cursor.is_backward
            other (cursor.place - 1) cursor.place behind inside is,
      );
    }

-- on to the row behind
pub returns : goal.returns
returns c =
    let cursor = c.args.self.now in
    let len = ap length c.rows-count.ensures in
    let inside : cursor.place + 1 < length cursor.page.rows =
    omega (arith, len, c.if-self-count.false, c.if-count-self-lt2.false) in
    let same : cursor.is_backward ≡ c.args.backward =
    sym (c.are_alike.ensures.0 c.if-not-are_alike.false) in
    record {
      on = is_place cursor.page.rows (cursor.place + 1) inside;
      rows = refl;
      number = refl;
      follows = λ list is. (
        is,
        steps_on (cursor_map cursor list) cursor.page.rows c.args.backward cursor.place
            (cursor.place + 1) refl inside
            (subst (λ (b : Bool). AreNeighbours b (cursor_map cursor list) cursor.page.rows)
            same is),
      );
    }
