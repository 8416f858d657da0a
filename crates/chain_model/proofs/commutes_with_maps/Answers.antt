use Rattle.chain_model.specs.System.{first_state}
use Rattle.chain_model.proofs.WorldMaps.{run_map, outcomes_map}
use Rattle.chain_model.proofs.commutes_with_maps.Goals as goal

pub returns : goal.returns
returns g c = λ f cs events. record {
  world = run_map f cs events (first_state cs);
  each = outcomes_map f cs events (first_state cs);
}
