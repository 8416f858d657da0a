use Rattle.store_files.proofs.NamedFiles.{files_are_named}
use Rattle.store_files.proofs.laws.store_files_are_named.Goals as goal

pub returns : goal.returns
returns c = files_are_named
