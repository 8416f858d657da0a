use Rattle.store_files.proofs.Upgrades.{formats_alike, formats_outlast}
use Rattle.store_files.proofs.laws.formats_represent_alike.Goals as goal

pub returns-clause-alike : goal.returns-clause-alike
returns-clause-alike c =
    formats_alike c.version_is_one.ensures.formats c.version_is_one.ensures.each_lawful

pub returns-clause-outlast : goal.returns-clause-outlast
returns-clause-outlast c =
    formats_outlast c.version_is_one.ensures.formats c.version_is_one.ensures.each_lawful
