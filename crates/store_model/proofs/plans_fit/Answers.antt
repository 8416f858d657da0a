use Rattle.store_model.proofs.Plans.{plan_under_way}
use Rattle.store_model.proofs.plans_fit.Goals as goal

pub returns : goal.returns
returns c = λ l store plan ok planned is. plan_under_way store plan ok.tables planned is
