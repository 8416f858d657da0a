use Rattle.std.proofs.Common.{refl}
use Rattle.store_model.proofs.ExampleStores.{store_examples}
use Rattle.store_model.proofs.ExampleMerges.{merge_examples}
use Rattle.store_model.proofs.ExamplePlans.{plan_examples}
use Rattle.store_model.proofs.examples.Goals as goal

pub returns-clause-store : goal.returns-clause-store
returns-clause-store c = store_examples c.views_are_maps.ensures.stored

pub returns-clause-merge : goal.returns-clause-merge
returns-clause-merge c = merge_examples c.views_are_maps.ensures.stored

pub returns-clause-plans : goal.returns-clause-plans
returns-clause-plans c = plan_examples

pub returns-clause-trims : goal.returns-clause-trims
returns-clause-trims c = record { first = refl; not_the_newest = refl; left = refl }
