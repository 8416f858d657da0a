use Rattle.std.proofs.Common.{◌≡◌, ◌-◌}
use Rattle.byte_fields.specs.{many}
use Rattle.version_edits.specs.Reading.{table_line_at}
use Rattle.byte_fields.specs.LoopLemmas.{with_front}
use Rattle.version_edits.proofs.reading.tables_in.Given as goal

abbrev pub invariant-loop : goal.invariant-loop
invariant-loop l =
    with_front l.lines.items (many (table_line_at l.format) (l.count - l.counter) l.bytes.now)
    ≡ many (table_line_at l.format) l.count l.fn.bytes.now
