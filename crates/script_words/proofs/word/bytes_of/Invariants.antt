use Rattle.std.proofs.Common.{length}
use Rattle.script_words.proofs.Spelled.{IsSpelled}
use Rattle.script_words.proofs.word.bytes_of.Given as goal

-- the bytes so far are spelled by what was read, and the rest decides
abbrev pub invariant-loop-rest : goal.invariant-loop-rest
invariant-loop-rest l = IsSpelled l.fn.word l.bytes.items l.rest

abbrev pub decreases-loop-rest : goal.decreases-loop-rest
decreases-loop-rest l = length l.rest
