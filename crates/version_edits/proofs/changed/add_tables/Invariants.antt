use Rattle.std.proofs.Common.{◌≡◌, take}
use Rattle.std.specs.List.{fold}
use Rattle.version_edits.specs.Versions.{with_table}
use Rattle.version_edits.proofs.changed.add_tables.Given as goal

-- what the loop has passed
abbrev pub invariant-loop-line : goal.invariant-loop-line
invariant-loop-line l = l.tables.items ≡ fold with_table l.fn.tables.items
    (take l.line-index l.added)
