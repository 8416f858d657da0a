use Rattle.std.proofs.Common.{◌≡◌, take}
use Rattle.configurations.proofs.configs.Configs.clone.Given as goal

-- the configurations so far were copied
abbrev pub invariant-loop-config : goal.invariant-loop-config
invariant-loop-config l = l.configs.items ≡ take l.config-index l.config-items
