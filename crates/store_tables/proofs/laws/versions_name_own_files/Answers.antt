use Rattle.store_tables.proofs.OwnFiles.{versions_name_own}
use Rattle.store_tables.proofs.laws.versions_name_own_files.Goals as goal

pub returns : goal.returns
returns c = versions_name_own
