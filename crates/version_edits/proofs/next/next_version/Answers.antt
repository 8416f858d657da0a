use Rattle.std.proofs.Common.{option_copied, sym}
use Rattle.version_edits.proofs.Lawful.{next_made}
use Rattle.version_edits.proofs.next.next_version.Goals as goal

-- the version takes the edit, and what it gives is lawful
pub invariant_of-result : goal.invariant_of-result
invariant_of-result c =
    next_made (option_copied c.args.old) c.args.edit.now _ c.in_ok-clone.field-0
    c.in_ok-logs.field-0 (c.in-Some.logs, c.in-Some.tables) c.in-Some.is (sym c.edit.view_is)
    c.in_ok-clone.ensures c.in_ok-logs.ensures.lines c.requires c.in_ok-logs.ensures.found
