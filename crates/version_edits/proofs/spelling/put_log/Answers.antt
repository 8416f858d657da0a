use Rattle.std.specs.Int.{w64, to_be_bytes}
use Rattle.version_edits.proofs.Spelled.{two_parts}
use Rattle.version_edits.proofs.spelling.put_log.Goals as goal

-- the file, and the number
pub returns : goal.returns
returns c =
    let line = c.args.line.now in
    two_parts c.put_u64-2.result c.args.out.now.items c.put_u64.new.out.items
    c.put_u64-2.new.out.items (to_be_bytes w64 line.file) (to_be_bytes w64 line.first)
    c.in_ok-put_u64.ensures c.put_u64-2.ensures
