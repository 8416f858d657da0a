use Rattle.std.proofs.Common.{[], ◌∷◌}
use Rattle.std.specs.Int.{w64, to_be_bytes}
use Rattle.version_edits.proofs.Spelled.{three_parts}
use Rattle.version_edits.proofs.spelling.put_table_head.Goals as goal

-- the level, the file and the length
pub returns : goal.returns
returns c =
    let line = c.args.line.now in
    three_parts c.put_u64-2.result c.args.out.now.items c.push.new.self.items
    c.put_u64.new.out.items c.put_u64-2.new.out.items (line.level ∷ []) (to_be_bytes w64 line.file)
    (to_be_bytes w64 line.length) c.in_ok-push.ensures.items c.in_ok-put_u64.ensures
    c.put_u64-2.ensures
