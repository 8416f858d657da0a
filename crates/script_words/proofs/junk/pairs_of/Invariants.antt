use Rattle.std.proofs.Common.{◌≡◌, ◌++◌, length}
use Rattle.script_words.specs.Words.{AreBytes}
use Rattle.script_words.specs.Junks.{are_pairs, hex_text}
use Rattle.script_words.proofs.junk.pairs_of.Given as goal

abbrev pub invariant-loop-rest : goal.invariant-loop-rest
invariant-loop-rest l = record {
  spelled : l.fn.word ≡ hex_text l.bytes.items ++ l.rest;
  decides : are_pairs l.fn.word ≡ are_pairs l.rest;
  each : AreBytes l.bytes.items;
}

abbrev pub decreases-loop-rest : goal.decreases-loop-rest
decreases-loop-rest l = length l.rest
