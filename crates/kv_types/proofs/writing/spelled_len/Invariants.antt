use Rattle.std.proofs.Common.{◌≡◌, ◌+◌, ◌*◌, ◌≤◌, length, take, All}
use Rattle.std.specs.List.{flat_map}
use Rattle.byte_fields.specs.declared.stored_key.TheConstants.{MAX_KEY}
use Rattle.kv_types.specs.declared.bounds.TheConstants.{MAX_VALUE}
use Rattle.kv_types.specs.Spelling.{edit_bytes, IsEdit}
use Rattle.kv_types.proofs.writing.spelled_len.Given as goal

abbrev pub invariant-loop-edit : goal.invariant-loop-edit
invariant-loop-edit l = record {
  is : l.len ≡ 2 + length (flat_map edit_bytes (take l.edit-index l.edits));
  limit : l.len ≤ 2 + (5 + MAX_KEY + MAX_VALUE) * l.edit-index;
  each : All IsEdit (take l.edit-index l.edits);
}
