use Rattle.std.proofs.Common.{◌≡◌, ◌-◌}
use Rattle.byte_fields.specs.{many}
use Rattle.version_edits.specs.Reading.{count_field}
use Rattle.byte_fields.specs.LoopLemmas.{with_front}
use Rattle.version_edits.proofs.reading.files_in.Given as goal

abbrev pub invariant-loop : goal.invariant-loop
invariant-loop l =
    with_front l.files.items (many count_field (l.count - l.counter) l.bytes.now)
    ≡ many count_field l.count l.fn.bytes.now
