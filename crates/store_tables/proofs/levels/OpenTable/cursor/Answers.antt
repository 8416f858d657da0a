use Rattle.std.proofs.lemmas.Result.{IfOk-weaker}
use Rattle.store_tables.proofs.levels.OpenTable.cursor.Goals as goal

-- it serves what the table was meant to serve
pub returns : goal.returns
returns g c = IfOk-weaker c.cursor.result _ _ (λ cursor serves meant files table honest was.
    let it = serves meant files table.entries honest was.serves.serves was.blocks.blocks in
    record { sound = it.0; holds = it.1 }) c.cursor.ensures.serves
