use Rattle.std.proofs.Common.{◌≡◌, ◌+◌, List, [], ◌∷◌, ◌++◌, take, option_copied, sym, ap, ◌∙◌}
use Rattle.std.proofs.Common.{append_assoc}
use Rattle.std.proofs.lemmas.List.{take_more}
use Rattle.std.specs.Option.{option_flatten}
use Rattle.kv_types.specs.declared.edit.Edit.{Edit}
use Rattle.kv_types.specs.Maps.{last_edit, joined}
use Rattle.kv_types.proofs.MapLaws.{one_more}
use Rattle.kv_types.proofs.map.value_at.Goals as goal

pub loop-edit-preserved : goal.loop-edit-preserved
loop-edit-preserved c =
    let edits = c.edits-edit-items.result.now in
    let i = c.loop-edit.edit-index in
    let edit = c.edit-item.result in
    let key = c.args.key.now in
    let before = joined (take c.loop-batch.batch-index c.args.batches.now) in
    let more : take (i + 1) edits ≡ take i edits ++ edit ∷ [] =
    take_more edits i edit c.loop-edit-test.true
    ∙ ap (λ (e : Edit). take i edits ++ e ∷ []) (sym c.edit-item.is) in
    let whole : before ++ take (i + 1) edits ≡ (before ++ take i edits) ++ edit ∷ [] =
    ap (λ (l : List Edit). before ++ l) more
    ∙ sym (append_assoc before (take i edits) (edit ∷ [])) in
    let one = one_more (before ++ take i edits) edit key
    (option_copied c.loop-edit.found) c.loop-edit.invariant in
    c.after_edit-found.ensures ∙ one
    ∙ ap (λ (l : List Edit). option_flatten (last_edit l key)) (sym whole)
