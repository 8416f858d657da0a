use Rattle.std.proofs.Common.{◌≡◌, ◌++◌, length, take}
use Rattle.std.specs.Int.{w16, to_be_bytes}
use Rattle.std.specs.List.{flat_map}
use Rattle.version_edits.specs.Edits.{table_name_bytes}
use Rattle.version_edits.proofs.spelling.put_names.Given as goal

-- what the loop has passed stands behind what was there
abbrev pub invariant-loop-one : goal.invariant-loop-one
invariant-loop-one l = l.out.items ≡ l.fn.out.items ++ to_be_bytes w16
    (length l.names) ++ flat_map table_name_bytes (take l.one-index l.names)
