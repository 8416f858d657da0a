use Rattle.std.proofs.Common.{◌≡◌, ◌-◌}
use Rattle.byte_fields.specs.{many}
use Rattle.byte_fields.specs.LoopLemmas.{with_front}
use Rattle.kv_types.specs.Reading.{edit_at}
use Rattle.kv_types.proofs.reading.edits_in.Given as goal

abbrev pub invariant-loop : goal.invariant-loop
invariant-loop l =
    with_front l.edits.items (many edit_at (l.count - l.counter) l.rest)
    ≡ many edit_at l.count l.bytes
