use Rattle.std.specs.Prelude.{string_bytes}
use Rattle.std.proofs.Common.{◌≡◌, ◌++◌, map, take}
use Rattle.std.specs.List.{flat_map}
use Rattle.client.specs.Text.{numbered_line}
use Rattle.store_texts.specs.Texts.{printed_row}
use Rattle.client.proofs.text.printing.print_rows.Given as goal

-- the lines of the rows that the loop has passed
abbrev pub invariant-loop-row : goal.invariant-loop-row
invariant-loop-row l =
    string_bytes l.text ≡ string_bytes l.fn.text
    ++ flat_map (numbered_line l.number) (map printed_row (take l.row-index l.rows))
