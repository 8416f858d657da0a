use Rattle.std.proofs.Common.{◌≡◌, ◌++◌, take, option_copied}
use Rattle.std.specs.Option.{option_flatten}
use Rattle.kv_types.specs.Maps.{last_edit, joined}
use Rattle.kv_types.proofs.map.value_at.Given as goal

-- what the edits so far leave
abbrev pub invariant-loop-edit : goal.invariant-loop-edit
invariant-loop-edit l =
    let passed = joined (take l.batch-index l.batches) ++ take l.edit-index l.edit-items in
    option_copied l.found ≡ option_flatten (last_edit passed l.key)

abbrev pub invariant-loop-batch : goal.invariant-loop-batch
invariant-loop-batch l =
    option_copied l.found ≡ option_flatten (last_edit (joined (take l.batch-index l.batches)) l.key)
