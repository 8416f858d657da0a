use Rattle.std.proofs.Common.{◌∙◌, ℕ, List, ap, arith, not, rules, subst}
use Rattle.std.proofs.Common.{sym}
use Rattle.std.specs.List.{AllZip, insert}
use Rattle.std.proofs.lemmas.Fn.{filter_same}
use Rattle.std.proofs.lemmas.Iterator.Adapters.{YieldsList-from_vec}
use Rattle.std.proofs.lemmas.Iterator.Consumers.{YieldsList-end}
use Rattle.std.proofs.lemmas.List.{length_push, map-id}
use Rattle.std.proofs.lemmas.List.Sums.{fold_push, prefix_len-le-length}
use Rattle.version_edits.specs.Versions.{placed, table_is_before}
use Rattle.compaction.specs.{tables_after}
use Rattle.store_tables.specs.declared.levels.OpenTable.{OpenTable}
use Rattle.store_tables.specs.LevelTables.{WasServed}
use Rattle.store_tables.specs.MergeTables.{open_lines}
use Rattle.store_tables.proofs.Replaced.{is_gone, open_is_before, open_left, open_replaced}
use Rattle.store_tables.proofs.Replaced.{place_is, replaced_lines_are, replaced_served}
use Rattle.store_tables.proofs.levels.LevelTables.replace.Goals as goal

-- those that are given up are gone
pub loop-open-init : goal.loop-open-init
loop-open-init c =
    let left = filter_same _ (λ (it : OpenTable). not (is_gone c.args.gone.now it.line)) _
    (λ x b f' k. search rules) _ _ c.retain.ensures.filtered in
    record {
      items = left ∙ ap (open_left c.args.gone.now) c.reserve.ensures.items;
      room = omega (
        arith,
        c.in_ok-reserve.ensures.ok,
        c.len.ensures,
        c.retain.ensures.bound,
        c.retain.ensures.capacity,
      );
    }

-- the place is in the list, or right behind it
pub insert-requires : goal.insert-requires
insert-requires c =
    let tables = c.loop-open.self.tables in
    let within = prefix_len-le-length
    (λ (one : OpenTable). not (table_is_before c.in-Some.open.line one.line)) tables.items in
    let long = tables.ok.0 in
    omega (arith, c.place_of-place.ensures)

-- one more stands at its place
pub loop-open-preserved : goal.loop-open-preserved
loop-open-preserved c =
    let one = c.in-Some.open in
    let items = c.loop-open.self.tables.items in
    let left = open_left c.args.gone.now c.args.self.now.tables.items in
    let before = c.loop-open.invariant in
    record {
      items = c.in_ok-insert.ensures.items
          ∙ ap (λ (n : ℕ). insert items n one) c.place_of-place.ensures
          ∙ place_is open_is_before items one
          ∙ ap (λ (l : List OpenTable). placed open_is_before l one) before.items
          ∙ sym (fold_push (placed open_is_before) left c.loop-open.yielded one);
      room =
          let more = length_push c.loop-open.yielded one in
          omega (arith, before.room, c.in_ok-insert.ensures.len, c.insert.ensures.capacity);
    }

-- all stand at their places
pub returns : goal.returns
returns c =
    let gone = c.args.gone.now in
    let items = c.args.self.now.tables.items in
    let opened = c.args.opened.items in
    let given = c.into_iter-open-iterator.ensures.into_iter_gives in
    let yields = YieldsList-from_vec {s = c.into_iter-open-iterator.result} opened given.0
    (given.1 ∙ c.args.opened.ok.0) in
    let end = YieldsList-end yields c.loop-open.yielded c.loop-open.open-iterator
    c.loop-open.yielded_by c.next.result c.next.new.self c.in-None.is c.next.ensures.steps in
    let ended = c.loop-open.invariant.items
    ∙ ap (λ (l : List OpenTable). open_replaced gone l items)
    (sym (map-id c.loop-open.yielded) ∙ end.0) in
    record {
      lines = ap open_lines ended ∙ replaced_lines_are gone items opened;
      served = λ disk meant tables outputs named also was more.
          subst (λ (l : List OpenTable).
          AllZip (WasServed disk meant) l (tables_after gone outputs tables)) (sym ended)
          (replaced_served disk meant gone items opened tables outputs named also was more);
      unchanged = tt;
    }
