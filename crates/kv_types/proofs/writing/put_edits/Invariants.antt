use Rattle.std.proofs.Common.{◌≡◌, ◌++◌, take}
use Rattle.std.specs.List.{flat_map}
use Rattle.kv_types.specs.Spelling.{edit_bytes}
use Rattle.kv_types.proofs.writing.put_edits.Given as goal

abbrev pub invariant-loop-edit : goal.invariant-loop-edit
invariant-loop-edit l =
    l.out.items ≡ l.initial.out.items ++ flat_map edit_bytes (take l.edit-index l.edits)
