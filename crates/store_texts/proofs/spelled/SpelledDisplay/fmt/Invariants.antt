use Rattle.std.proofs.Common.{◌≡◌, ◌++◌, ℕ, List, length}
use Rattle.std.specs.Fmt.{HasWritten, IsPlainFormatter}
use Rattle.std.specs.List.{flat_map}
use Rattle.script_words.specs.Words.{byte_text}
use Rattle.store_texts.proofs.spelled.SpelledDisplay.fmt.Given as goal

-- the text of the bytes so far is written, and that of the rest is left
abbrev pub invariant-loop-rest : goal.invariant-loop-rest
invariant-loop-rest g l =
    IsPlainFormatter l.initial.f → (done : List ℕ)
    × HasWritten g.W.Write.write_str_gives l.initial.f done l.f
    × (done ++ flat_map byte_text l.rest ≡ flat_map byte_text l.self.0.now)

abbrev pub decreases-loop-rest : goal.decreases-loop-rest
decreases-loop-rest g l = length l.rest
