use Rattle.std.proofs.Common.{arith, ap, sym, ◌∙◌}
use Rattle.store_files.specs.OpenFiles.{known_version}
use Rattle.store_files.specs.Raising.{before_oldest}
use Rattle.store_files.proofs.LeftLogs.{left_low, left_rises}
use Rattle.store_files.proofs.TrimmedLogs.{trimmed_by_lines}
use Rattle.store_files.proofs.laws.raised_facts_rise.Goals as goal

pub returns : goal.returns
returns c = λ files floor may.
    let version = (known_version files).version in
    let u = may.usable in
    let is = ap before_oldest (sym u.lines) ∙ trimmed_by_lines files.logs in
    let more = left_rises floor version.logs u.version.lines.logs_in_order in
    let kept = u.numbers.kept_floor in
    let rises = may.rises in
    (omega (arith, more, is), left_low floor version.logs (omega (arith, is, kept, rises)))
