use Rattle.std.proofs.Common.{◌≡◌, length}
use Rattle.byte_fields.specs.FieldsLemmas.{IsBytes}
use Rattle.byte_fields.specs.StoredKeys.{stored_cmp}
use Rattle.byte_fields.proofs.stored_key.order.Given as goal

-- what is left compares as the whole does
abbrev pub invariant-loop-x : goal.invariant-loop-x
invariant-loop-x l = record {
  bytes : IsBytes l.bytes;
  others : IsBytes l.others;
  order : stored_cmp l.bytes l.others ≡ stored_cmp l.a l.b;
}

abbrev pub decreases-loop-x : goal.decreases-loop-x
decreases-loop-x l = length l.bytes
