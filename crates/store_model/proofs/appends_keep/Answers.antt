use Rattle.store_model.proofs.Grows.{append_keeps}
use Rattle.store_model.proofs.appends_keep.Goals as goal

pub returns : goal.returns
returns c = λ l store batch ok. append_keeps c.views_are_maps.ensures.stored l store batch ok
