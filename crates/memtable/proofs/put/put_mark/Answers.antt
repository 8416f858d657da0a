use Rattle.std.proofs.Common.{[], Some, ap, refl}
use Rattle.std.specs.Int.{w64, to_be_bytes}
use Rattle.byte_fields.specs.{mark_key}
use Rattle.kv_types.specs.declared.edit.Edit.{Edit}
use Rattle.kv_types.specs.declared.edit.Edit.TheVariants.{Put}
use Rattle.memtable.specs.Maps.{versions_at}
use Rattle.memtable.proofs.Puts.{turned}
use Rattle.memtable.proofs.put.put_mark.Goals as goal

-- one edit, and none behind it
pub returns-clause-puts : goal.returns-clause-puts
returns-clause-puts c = λ q.
    let mark = c.args.mark in
    let edit : Edit = Put (mark_key mark.client) (to_be_bytes w64 mark.request) in
    let old = versions_at c.args.map.now q in
    turned edit [] q c.in_ok-key.key old old (versions_at c.put.new.map q) c.args.number
    (Some c.in_ok-to_value.field-0) c.in_ok-key.ensures (ap Some c.in_ok-to_value.ensures)
    (c.requires q) refl (c.in_ok-put.ensures.puts q)
