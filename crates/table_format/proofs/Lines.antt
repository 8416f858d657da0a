-- Lines that are read are those that were spelled.
use Rattle.std.proofs.Common.{ℕ, ◌^◌, List, refl}
use Rattle.std.specs.Int.{w32, w64}
use Rattle.byte_fields.specs.ReadersLemmas.{Reads, both_reads, made_reads, right_reads}
use Rattle.byte_fields.specs.ReadersLemmas.{number_reads, wide32, wide64}
use Rattle.table_format.specs.EntriesLemmas.{count_reads}
use Rattle.byte_fields.specs.SpelledKeysLemmas.{key_reads_in}
use Rattle.table_format.specs.Parts.{IsIndexLine}
use Rattle.table_format.specs.Reading.{as_line, line_at}
use Rattle.table_format.specs.Tables.{line_bytes}
use Rattle.table_format.specs.declared.line.IndexLine.{IndexLine}
use Rattle.byte_fields.specs.declared.format.Format.{Format}

abbrev as_parts : IndexLine → ℕ × (ℕ × (List ℕ × ℕ))
as_parts line = (line.place, (line.len, (line.key, line.number)))

pub line_reads : (format : Format) → Reads (IsIndexLine format) (line_bytes format) (line_at format)
unfolding line_at
line_reads format =
    right_reads
    (λ line is. record {
      place = is.0;
      len = is.1.0;
      key = is.1.1.0.0;
      space = is.1.1.0.1;
      number = is.1.1.1;
    })
    (λ line is. (is.place, (is.len, ((is.key, is.space), is.number))))
    (made_reads as_line as_parts (λ line. refl) (λ x. refl)
    (both_reads (number_reads w64 (2 ^ 64) wide64)
    (both_reads (number_reads w32 (2 ^ 32) wide32)
    (both_reads (key_reads_in format) count_reads))))
