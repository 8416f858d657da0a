use Rattle.configurations.proofs.Spelling.{one_config, few_bytes}
use Rattle.configurations.proofs.laws.config_text_is_unique.Goals as goal

pub returns-clause-unique : goal.returns-clause-unique
returns-clause-unique c = one_config

pub returns-clause-short : goal.returns-clause-short
returns-clause-short c = few_bytes
