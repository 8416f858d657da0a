-- Reading a batch from left to right.
use Rattle.std.specs.Prelude.{ℕ, zero, suc, ◌-◌, List, [], ◌∷◌, length, nat_lt}
use Rattle.std.specs.Prelude.{◌==◌, Option, Some, None, if◌then◌else◌}
use Rattle.std.specs.Int.{w16, w64}
use Rattle.byte_fields.specs.{Reader, both, many, mapped, number_at, only, ◌>>=◌, text_at}
use Rattle.byte_fields.specs.declared.stored_key.TheConstants.{MAX_KEY}
use Rattle.kv_types.specs.declared.bounds.TheConstants.{MAX_VALUE, MAX_EDITS, MAX_BATCH}
use Rattle.kv_types.specs.declared.edit.Edit.{Edit}
use Rattle.kv_types.specs.declared.edit.Edit.TheVariants.{Put, Delete}
use Rattle.kv_types.specs.declared.mark.Mark.{Mark}
use Rattle.kv_types.specs.Marks.{is_mark}
use Rattle.kv_types.specs.Content.{BatchContent}

-- an edit, by its first byte
unfoldable pub edit_at : Reader Edit
edit_at [] = None
edit_at (zero ∷ rest) = None
edit_at (suc zero ∷ rest) = do
  key ← text_at MAX_KEY rest
  value ← text_at MAX_VALUE key.1
  Some (Put key.0 value.0, value.1)
edit_at (suc (suc zero) ∷ rest) = do
  key ← text_at MAX_KEY rest
  Some (Delete key.0, key.1)
edit_at (suc (suc (suc b)) ∷ rest) = None

-- two numbers, as client and request of a mark
abbrev pub as_mark : ℕ × ℕ → Mark
as_mark x = record { client = x.0; request = x.1 }

-- a client and a request, if they may stand in a mark
abbrev pub both_at : Reader Mark
both_at bytes = only is_mark (mapped as_mark (both (number_at w64) (number_at w64))) bytes

-- the mark before the edits, if there is one
unfoldable pub mark_at : Reader (Option Mark)
mark_at bytes = do
  n ← number_at w16 bytes
  if n.0 == 0 then (do
    mark ← both_at n.1
    Some (Some mark.0, mark.1)) else Some (None, bytes)

-- the edits behind their number
unfoldable pub edits_at : Reader (List Edit)
edits_at bytes = do
  n ← number_at w16 bytes
  if nat_lt MAX_EDITS n.0 then None else (if nat_lt n.0 1 then None else many edit_at n.0 n.1)

-- the mark and the edits of a batch, spelled within the limit
unfoldable pub batch_at : Reader BatchContent
batch_at bytes = do
  mark ← mark_at bytes
  edits ← edits_at mark.1
  if nat_lt MAX_BATCH (length bytes - length edits.1) then None else Some
      (record { mark = mark.0; content = edits.0 }, edits.1)

-- the batch, if no bytes are left behind it
unfoldable pub batch_of : List ℕ → Option BatchContent
batch_of bytes =
    if nat_lt MAX_BATCH (length bytes) then None else do
      batch ← batch_at bytes
      if length batch.1 == 0 then Some batch.0 else None
