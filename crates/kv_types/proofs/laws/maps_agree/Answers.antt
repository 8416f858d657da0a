use Rattle.kv_types.proofs.MapLaws as laws
use Rattle.kv_types.proofs.laws.maps_agree.Goals as goal

pub returns : goal.returns
returns c = laws.maps_agree
