use Rattle.std.proofs.Common.{◌≡◌, ◌++◌, take, All}
use Rattle.std.specs.List.{flat_map}
use Rattle.link_messages.specs.Spelling.{row_text, IsRow}
use Rattle.link_messages.proofs.rows.put_rows.Given as goal

abbrev pub invariant-loop-row : goal.invariant-loop-row
invariant-loop-row l = record {
  spelled : l.out.items ≡ l.initial.out.items ++ flat_map row_text (take l.row-index l.rows);
  each : All IsRow (take l.row-index l.rows);
}
