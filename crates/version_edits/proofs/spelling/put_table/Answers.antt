use Rattle.std.proofs.Common.{◌++◌, List, ℕ, ap, ◌∙◌, append_assoc}
use Rattle.byte_fields.specs.{key_bytes}
use Rattle.version_edits.specs.Edits.{table_head_bytes, table_line_bytes}
use Rattle.version_edits.proofs.spelling.put_table.Goals as goal

-- the head, and the two keys
pub returns : goal.returns
unfolding table_line_bytes
returns c =
    let line = c.args.line.now in
    let out = c.args.out.now.items in
    c.in_ok-spell_into-2.ensures
    ∙ ap (λ (l : List ℕ). l ++ key_bytes line.greatest)
    (c.in_ok-spell_into.ensures
    ∙ ap (λ (l : List ℕ). l ++ key_bytes line.least) c.in_ok-put_table_head.ensures)
    ∙ append_assoc (out ++ table_head_bytes line) (key_bytes line.least) (key_bytes line.greatest)
    ∙ append_assoc out (table_head_bytes line) (key_bytes line.least ++ key_bytes line.greatest)
