use Rattle.std.proofs.Common.{subst}
use Rattle.kv_types.specs.{ViewShows}
use Rattle.store_model.specs.Stores.{store_entries}
use Rattle.store_model.specs.StoresLemmas.{entries_differ}
use Rattle.store_model.proofs.Found.{view_is_map}
use Rattle.store_model.proofs.store_views_are_maps.Goals as goal

pub returns-clause-maps : goal.returns-clause-maps
returns-clause-maps c = λ l store ok at high short key value. (
  λ shown. view_is_map l store ok at key high short value shown,
  λ is. subst (λ v. ViewShows at (store_entries l store) key v) is (ok.views at high short key),
)

pub returns-clause-differ : goal.returns-clause-differ
returns-clause-differ c = λ l store ok. entries_differ l store ok
