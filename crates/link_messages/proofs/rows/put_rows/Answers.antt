use Rattle.std.proofs.Common.{◌≡◌, ◌+◌, List, ℕ, [], ◌∷◌, ◌++◌, take, sym, ap, ◌∙◌, append_assoc}
use Rattle.std.specs.List.{flat_map}
use Rattle.std.proofs.lemmas.List.{flat_map_more, take_more}
use Rattle.std.proofs.lemmas.List.Elements.{All-push}
use Rattle.kv_types.specs.{Row}
use Rattle.link_messages.specs.Spelling.{row_text, IsRow}
use Rattle.link_messages.proofs.rows.put_rows.Goals as goal

pub loop-row-preserved : goal.loop-row-preserved
loop-row-preserved c =
    let rows = c.args.rows.now in
    let i = c.loop-row.row-index in
    let row = c.row-item.result in
    let before = c.args.out.now.items in
    let more : take (i + 1) rows ≡ take i rows ++ row ∷ [] =
    take_more rows i row c.loop-row-test.true
    ∙ ap (λ (r : Row). take i rows ++ r ∷ []) (sym c.row-item.is) in
    let grown : flat_map row_text (take (i + 1) rows)
    ≡ flat_map row_text (take i rows) ++ row_text row = ap (flat_map row_text) more
    ∙ sym (flat_map_more row_text [] (take i rows) row) in
    record {
      spelled = c.in_ok-put_row.ensures.spelled
          ∙ ap (λ (t : List ℕ). t ++ row_text row) c.loop-row.invariant.spelled
          ∙ append_assoc before (flat_map row_text (take i rows)) (row_text row)
          ∙ ap (λ (t : List ℕ). before ++ t) (sym grown);
      each = rw more
          (All-push IsRow (take i rows) row c.loop-row.invariant.each c.in_ok-put_row.ensures.is);
    }
