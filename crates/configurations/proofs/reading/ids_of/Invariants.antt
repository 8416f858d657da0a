use Rattle.configurations.specs.Spelling.{HasIds}
use Rattle.configurations.proofs.reading.ids_of.Given as goal

-- the ids so far, and what is behind them
abbrev pub invariant-loop : goal.invariant-loop
invariant-loop l = HasIds l.fn.bytes l.counter l.ids.items l.rest
