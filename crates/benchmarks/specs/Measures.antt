-- The line of the table for what was measured, and the one for what is done so far.
use Rattle.std.specs.Prelude.{ℕ, ◌*◌, ◌/◌, ◌%◌, ◌-◌, ◌^◌, List, [], ◌∷◌, ◌++◌, codes, false}
use Rattle.std.specs.Fmt.{decimal, format_spec, padded_integral, styled_text}
use Rattle.benchmarks.specs.declared.measure.Measure.{Measure}
use Rattle.benchmarks.specs.declared.measure.ProgressLine.{ProgressLine}
use Rattle.benchmarks.specs.Benchmarks.{name_of}

-- a number at the right of a column of this width
abbrev pub column : ℕ → ℕ → List ℕ
column width number = padded_integral (format_spec 32 3 0 width (2 ^ 64 - 1)) false []
    (decimal number)

-- thousandths, with their zeros
abbrev pub thousandths : ℕ → List ℕ
thousandths number = padded_integral (format_spec 32 0 4 3 (2 ^ 64 - 1)) false [] (decimal number)

-- name, operations, rows, microseconds an operation, operations a second, and MB a second
abbrev pub measure_text : Measure → List ℕ
measure_text it =
    let each = it.nanos / it.operations in
    let tenths = it.bytes * 10000000000 / (it.nanos * 1048576) in
    (styled_text (format_spec 32 1 0 12 (2 ^ 64 - 1)) (name_of it.benchmark)
    ++ (column 11 it.operations ++ column 12 it.rows))
    ++ (column 8 (each / 1000) ++ (46 ∷ (thousandths (each % 1000)
    ++ (column 12 (it.operations * 1000000000 / it.nanos)
    ++ (column 8 (tenths / 10) ++ (46 ∷ decimal (tenths % 10)))))))

-- the same, as in no time
abbrev pub without_time : Measure → Measure
without_time it = record it { nanos = 0 }

-- name, and how many operations of how many are done
abbrev pub progress_text : ProgressLine → List ℕ
progress_text it =
    name_of it.benchmark ++ (codes ": " ++ (decimal it.done
    ++ (codes " of " ++ decimal it.all)))
