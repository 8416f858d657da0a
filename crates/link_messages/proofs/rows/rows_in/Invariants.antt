use Rattle.std.proofs.Common.{◌≡◌, ◌-◌}
use Rattle.byte_fields.specs.{many}
use Rattle.link_messages.specs.Reading.{row_at}
use Rattle.byte_fields.specs.LoopLemmas.{with_front}
use Rattle.link_messages.proofs.rows.rows_in.Given as goal

abbrev pub invariant-loop : goal.invariant-loop
invariant-loop l =
    with_front l.rows.items (many row_at (l.count - l.counter) l.bytes.now)
    ≡ many row_at l.count l.fn.bytes.now
