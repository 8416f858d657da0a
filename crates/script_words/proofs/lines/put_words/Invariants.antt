use Rattle.std.proofs.Common.{◌≡◌, map}
use Rattle.script_words.proofs.lines.put_words.Given as goal

-- the words are those that were cut so far
abbrev pub invariant-loop-word : goal.invariant-loop-word
invariant-loop-word l = map (λ w. w.now) l.words.items ≡ map (λ w. w.now) l.yielded
