-- Edits that the clones of a batch share.
use Rattle.std.specs.Prelude.{List}
use Rattle.kv_types.specs.declared.edit.Edit.{Edit}
use Rattle.kv_types.specs.declared.shared.SharedEdits.{SharedEdits}
use Rattle.kv_types.specs.declared.shared.SharedEdits.TheVariants.{Counted, Sole}

-- the edits, however many own them
abbrev pub shared_edits : SharedEdits → List Edit
shared_edits (Counted edits) = edits.value.items
shared_edits (Sole edits) = edits.items
