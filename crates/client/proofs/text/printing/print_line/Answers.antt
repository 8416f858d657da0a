use Rattle.std.specs.Prelude.{string_bytes}
use Rattle.client.proofs.Printed.{prints_line}
use Rattle.client.proofs.text.printing.print_line.Goals as goal

pub returns : goal.returns
returns c =
    prints_line (string_bytes c.args.text.now) (string_bytes c.print_rows.new.text) _
    c.args.places.now c.args.here
    c.place_of-number.result c.args.line.now c.rows_of.result.now c.place_of-number.ensures
    c.rows_of.ensures c.in_ok-print_rows.ensures c.in_ok-print_text.ensures
