use Rattle.configurations.proofs.IsConfig.{config_is, config_from}
use Rattle.configurations.proofs.laws.test_decides_config.Goals as goal

pub returns : goal.returns
returns c = λ ids. (config_from ids, config_is ids)
