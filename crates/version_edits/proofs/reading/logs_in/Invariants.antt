use Rattle.std.proofs.Common.{◌≡◌, ◌-◌}
use Rattle.byte_fields.specs.{many}
use Rattle.version_edits.specs.Reading.{log_line_at}
use Rattle.byte_fields.specs.LoopLemmas.{with_front}
use Rattle.version_edits.proofs.reading.logs_in.Given as goal

abbrev pub invariant-loop : goal.invariant-loop
invariant-loop l =
    with_front l.lines.items (many log_line_at (l.count - l.counter) l.bytes.now)
    ≡ many log_line_at l.count l.fn.bytes.now
