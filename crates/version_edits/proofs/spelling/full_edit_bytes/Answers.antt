use Rattle.std.proofs.Common.{arith}
use Rattle.version_edits.proofs.EditLengths.{whole_is_short}
use Rattle.version_edits.proofs.Lawful.{whole_is_whole}
use Rattle.version_edits.proofs.spelling.full_edit_bytes.Goals as goal

pub returns-clause-short : goal.returns-clause-short
returns-clause-short c =
    omega (
      arith,
      whole_is_short c.args.version.now.version c.bytes_of_full.ensures.is
          c.in_ok-bytes.bytes.items c.in_ok-bytes.ensures.spelled,
    )

pub returns-clause-whole : goal.returns-clause-whole
returns-clause-whole c =
    whole_is_whole c.args.version.now c.bytes_of_full.ensures.is c.in_ok-bytes.bytes.items
    c.in_ok-bytes.ensures.spelled
