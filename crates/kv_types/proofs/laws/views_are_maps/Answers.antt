use Rattle.kv_types.proofs.ViewLaws as laws
use Rattle.kv_types.proofs.laws.views_are_maps.Goals as goal

pub returns-clause-stored : goal.returns-clause-stored
returns-clause-stored c = laws.views_are_stored

pub returns-clause-rows : goal.returns-clause-rows
returns-clause-rows c = laws.views_are_maps
