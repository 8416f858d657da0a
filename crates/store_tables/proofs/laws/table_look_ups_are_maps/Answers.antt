use Rattle.store_tables.specs.LevelTables.{found_value}
use Rattle.store_tables.proofs.LevelLemmas.{tables_find_for_stores}
use Rattle.store_tables.proofs.laws.table_look_ups_are_maps.Goals as goal

pub returns-clause-store : goal.returns-clause-store
returns-clause-store c = tables_find_for_stores

pub returns-clause-maps : goal.returns-clause-maps
returns-clause-maps c = λ batches store ok at high short key found none it.
    c.look_ups_are_maps.ensures.maps batches store ok at high short key (found_value found)
    (tables_find_for_stores batches store at key found none it)
