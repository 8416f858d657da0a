-- The content of a batch.
use Rattle.std.specs.Prelude.{List, Option}
use Rattle.kv_types.specs.declared.edit.Edit.{Edit}
use Rattle.kv_types.specs.declared.mark.Mark.{Mark}
use Rattle.kv_types.specs.Marks.{Marked}

-- edits in order
abbrev pub Edits : Type 0
Edits = List Edit

-- a batch: its edits, and its mark, if it bears one
abbrev pub BatchContent : Type 0
BatchContent = Marked Edits

-- the mark of a batch
abbrev pub mark_of : BatchContent → Option Mark
mark_of batch = batch.mark

-- the edits of a batch in order
abbrev pub edits_of : BatchContent → Edits
edits_of batch = batch.content
