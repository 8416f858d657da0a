use Rattle.std.proofs.Common.{refl}
use Rattle.store_model.specs.TablesLemmas.{table_has_key}
use Rattle.store_model.proofs.Found.{look_up_is_map, look_up_is_shown}
use Rattle.store_model.proofs.look_ups_are_maps.Goals as goal

pub returns-clause-maps : goal.returns-clause-maps
returns-clause-maps c = λ l store ok at high short key found finds.
    look_up_is_map l store ok at key high short found finds

pub returns-clause-shown : goal.returns-clause-shown
returns-clause-shown c = λ l store ok at high short entry stops put.
    look_up_is_shown l store ok at entry.key high short entry refl stops put

pub returns-clause-one : goal.returns-clause-one
returns-clause-one c = λ l store ok t in_t pos entry holds it.
    table_has_key store.flushed store.tables ok.tables t in_t pos entry holds it
