use Rattle.std.proofs.Common.{refl, inl, inr, arith}
use Rattle.kv_types.proofs.EntryCases.{entry_examples}
use Rattle.kv_types.proofs.laws.examples.Goals as goal

pub returns-clause-batches : goal.returns-clause-batches
returns-clause-batches c = record {
  spelled = refl;
  deletion = refl;
  marked_put = refl;
  beginning = inr (refl, tt);
  difference = inl (omega arith);
  last = refl;
  other_key = refl;
  no_more = refl;
  more = refl;
  later = refl;
  deleted = refl;
  forward = refl;
  empty = refl;
}

pub returns-clause-entries : goal.returns-clause-entries
returns-clause-entries c = entry_examples
