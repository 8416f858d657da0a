use Rattle.std.proofs.Common.{◌++◌, List, ℕ, ap, ◌∙◌, append_assoc}
use Rattle.std.proofs.lemmas.Result.{on_ok_weaker}
use Rattle.byte_fields.specs.{key_bytes}
use Rattle.table_format.specs.Blocks.{be32, be64}
use Rattle.table_format.proofs.writing.put_line.Goals as goal

-- place, length, key and number, one behind the other
pub returns : goal.returns
returns c =
    let line = c.args.line.now in
    let front =
    c.in_ok-spell_into.ensures
    ∙ ap (λ (l : List ℕ). l ++ key_bytes line.key)
    (c.in_ok-put_u32.ensures ∙ ap (λ (l : List ℕ). l ++ be32 line.len) c.in_ok-put_u64.ensures) in
    on_ok_weaker c.put_u64-2.result (λ last.
    last ∙ ap (λ (l : List ℕ). l ++ be64 line.number) front ∙ simp append_assoc)
    c.put_u64-2.ensures
