use Rattle.store_model.specs.Tables.{tables_entries}
use Rattle.store_model.specs.SweepsLemmas.{next_overwrites, next_is_newer}
use Rattle.store_model.proofs.next_decides.Goals as goal

pub returns : goal.returns
returns c = λ floor inputs a b next. (
  λ it. next_overwrites (tables_entries inputs) a b next it.0 floor it.1 it.2 it.3 it.4,
  λ h. (a, next.before, h.0, next_is_newer (tables_entries inputs) a b next h.0, h.1),
)
