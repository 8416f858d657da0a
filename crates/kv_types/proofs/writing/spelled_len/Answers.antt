use Rattle.std.proofs.Common.{◌≡◌, ◌+◌, [], ◌∷◌, ◌++◌, length, take, arith, sym, ap, ◌∙◌}
use Rattle.std.proofs.Common.{length-append}
use Rattle.kv_types.specs.declared.edit.Edit.{Edit}
use Rattle.std.specs.List.{flat_map}
use Rattle.std.proofs.lemmas.List.{flat_map_more, take_more}
use Rattle.std.proofs.lemmas.List.Elements.{All-push}
use Rattle.kv_types.specs.Spelling.{edit_bytes, IsEdit}
use Rattle.kv_types.proofs.writing.spelled_len.Goals as goal

pub loop-edit-preserved : goal.loop-edit-preserved
loop-edit-preserved c =
    let edits = c.args.edits.now in
    let i = c.loop-edit.edit-index in
    let edit = c.edit-item.result in
    let more : take (i + 1) edits ≡ take i edits ++ edit ∷ [] =
    take_more edits i edit c.loop-edit-test.true
    ∙ ap (λ (e : Edit). take i edits ++ e ∷ []) (sym c.edit-item.is) in
    let grown : flat_map edit_bytes (take (i + 1) edits)
    ≡ flat_map edit_bytes (take i edits) ++ edit_bytes edit = ap (flat_map edit_bytes) more
    ∙ sym (flat_map_more edit_bytes [] (take i edits) edit) in
    let len : length (flat_map edit_bytes (take (i + 1) edits))
    ≡ length (flat_map edit_bytes (take i edits)) + length (edit_bytes edit) = ap length grown
    ∙ length-append (flat_map edit_bytes (take i edits)) (edit_bytes edit) in
    record {
      is = omega (arith, len, c.loop-edit.invariant.is, c.edit_len-len.ensures.len);
      limit = omega (arith, c.loop-edit.invariant.limit, c.edit_len-len.ensures.limit);
      each = rw more
          (All-push IsEdit
          (take i edits) edit c.loop-edit.invariant.each c.edit_len-len.ensures.edit);
    }
