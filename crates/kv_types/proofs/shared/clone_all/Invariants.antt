use Rattle.std.proofs.Common.{◌≡◌, take}
use Rattle.kv_types.proofs.shared.clone_all.Given as goal

abbrev pub invariant-loop-edit : goal.invariant-loop-edit
invariant-loop-edit l = l.copy.items ≡ take l.edit-index l.edit-items
