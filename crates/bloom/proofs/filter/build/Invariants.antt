use Rattle.bloom.proofs.Putting.{HasKeys}
use Rattle.bloom.proofs.filter.build.Given as goal

-- so many keys are put
abbrev pub invariant-loop-key : goal.invariant-loop-key
invariant-loop-key l = HasKeys l.keys l.key-index l.filter.items
