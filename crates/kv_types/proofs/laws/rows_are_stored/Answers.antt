use Rattle.kv_types.proofs.ViewLaws as laws
use Rattle.kv_types.proofs.laws.rows_are_stored.Goals as goal

pub returns : goal.returns
returns c = laws.rows_are_stored
