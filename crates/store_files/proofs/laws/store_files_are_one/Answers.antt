use Rattle.store_files.proofs.OneList.{files_are_one}
use Rattle.store_files.proofs.laws.store_files_are_one.Goals as goal

pub returns : goal.returns
returns c =
    files_are_one c.version_is_one.ensures.one c.version_is_one.ensures.lawful
    c.records_are_unique.ensures c.spellings_differ.ensures
