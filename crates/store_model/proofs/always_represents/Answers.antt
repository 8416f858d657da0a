use Rattle.store_model.proofs.Reached.{reached}
use Rattle.store_model.proofs.always_represents.Goals as goal

pub returns : goal.returns
returns c = λ l store plan r. reached c.views_are_maps.ensures.stored l store plan r
