use Rattle.std.proofs.Common.{arith}
use Rattle.version_edits.proofs.EditLaws.{change_bad, change_found, change_is}
use Rattle.version_edits.proofs.reading.edit_of.Goals as goal

pub returns-clause-found : goal.returns-clause-found
returns-clause-found c =
    change_found c.test_decides_config.ensures c.args.format c.all_of.result c.args.bytes.now
    (λ i. omega (arith, c.type_inv.bytes i)) c.all_of.ensures

pub returns-clause-bad : goal.returns-clause-bad
returns-clause-bad c =
    change_bad c.test_decides_config.ensures c.args.format c.all_of.result c.args.bytes.now
    c.all_of.ensures

pub returns-clause-is : goal.returns-clause-is
returns-clause-is c =
    change_is c.test_decides_config.ensures c.args.format c.all_of.result c.args.bytes.now
    (λ i. omega (arith, c.type_inv.bytes i)) c.all_of.ensures
