use Rattle.std.proofs.Common.{take}
use Rattle.std.specs.Fmt.{HasWritten, IsPlainFormatter}
use Rattle.std.specs.List.{flat_map}
use Rattle.store_texts.specs.Texts.{spaced}
use Rattle.store_texts.proofs.numbers.TableCountsDisplay.fmt.Given as goal

-- the counts so far are written
abbrev pub invariant-loop-count : goal.invariant-loop-count
invariant-loop-count g l = IsPlainFormatter l.initial.f →
    HasWritten g.W.Write.write_str_gives l.initial.f
    (flat_map spaced (take l.count-index l.count-items)) l.f
