use Rattle.manifest.proofs.VersionIsOne.{each_is_lawful, format_1_is_old, formats_apart}
use Rattle.manifest.proofs.VersionIsOne.{one_version}
use Rattle.manifest.proofs.VersionIsOne.{versions_are_lawful}
use Rattle.manifest.proofs.Opened.{old_stores_are_apart, were_created}
use Rattle.manifest.proofs.laws.version_is_one.Goals as goal

pub returns-clause-one : goal.returns-clause-one
returns-clause-one c = one_version c.changes_differ.ensures c.records_are_unique.ensures

pub returns-clause-formats : goal.returns-clause-formats
returns-clause-formats c = formats_apart c.changes_differ.ensures c.records_are_unique.ensures

pub returns-clause-format_1 : goal.returns-clause-format_1
returns-clause-format_1 c = format_1_is_old

pub returns-clause-lawful : goal.returns-clause-lawful
returns-clause-lawful c = versions_are_lawful c.histories_are_lawful.ensures

pub returns-clause-each_lawful : goal.returns-clause-each_lawful
returns-clause-each_lawful c = each_is_lawful c.histories_are_lawful.ensures

pub returns-clause-created : goal.returns-clause-created
returns-clause-created c = were_created

pub returns-clause-old : goal.returns-clause-old
returns-clause-old c = old_stores_are_apart
