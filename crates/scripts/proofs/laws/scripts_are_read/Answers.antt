use Rattle.scripts.proofs.EventWords.{whole_read}
use Rattle.scripts.proofs.ReadScripts.{script_read}
use Rattle.scripts.proofs.laws.scripts_are_read.Goals as goal

pub returns-clause-events : goal.returns-clause-events
returns-clause-events c = whole_read

pub returns-clause-scripts : goal.returns-clause-scripts
returns-clause-scripts c = script_read c.test_decides_config.ensures
