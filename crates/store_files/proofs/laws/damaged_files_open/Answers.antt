use Rattle.store_files.proofs.MeantNames.{damaged_open}
use Rattle.store_files.proofs.laws.damaged_files_open.Goals as goal

pub returns : goal.returns
returns c = damaged_open c.version_is_one.ensures.lawful
