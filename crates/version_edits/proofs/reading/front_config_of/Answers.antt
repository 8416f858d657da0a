use Rattle.std.proofs.Common.{arith}
use Rattle.version_edits.proofs.LineLaws.{config_front}
use Rattle.version_edits.proofs.reading.front_config_of.Goals as goal

pub returns : goal.returns
returns c =
    let found = c.in_ok-read_from.ensures in
    config_front c.test_decides_config.ensures (λ rest. rest.now) c.args.bytes.now
    c.in_ok-read_from.field-0 (λ i. omega (arith, c.type_inv.bytes i)) found.found found.each
