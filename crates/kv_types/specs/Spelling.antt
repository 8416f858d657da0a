-- The batches, and the one spelling of each.
use Rattle.std.specs.Prelude.{◌≡◌, ℕ, ◌≤◌, List, [], ◌∷◌, ◌++◌, length, Option, Some, None, IfSome}
use Rattle.std.specs.List.{flat_map, All}
use Rattle.std.specs.Int.{w16, w64, to_be_bytes}
use Rattle.byte_fields.specs.{text_bytes}
use Rattle.byte_fields.specs.declared.stored_key.TheConstants.{MAX_KEY}
use Rattle.kv_types.specs.declared.bounds.TheConstants.{MAX_VALUE, MAX_EDITS, MAX_BATCH}
use Rattle.kv_types.specs.declared.edit.Edit.{Edit}
use Rattle.kv_types.specs.declared.edit.Edit.TheVariants.{Put, Delete}
use Rattle.kv_types.specs.declared.mark.Mark.{Mark}
use Rattle.kv_types.specs.Marks.{IsMark}
use Rattle.kv_types.specs.Content.{BatchContent, edits_of, mark_of}

-- a put is the byte 1, key and value; a deletion the byte 2 and the key
abbrev pub edit_bytes : Edit → List ℕ
edit_bytes (Put key value) = 1 ∷ text_bytes key ++ text_bytes value
edit_bytes (Delete key) = 2 ∷ text_bytes key

-- the number of edits in two bytes, and the edits in order
abbrev pub edits_bytes : List Edit → List ℕ
edits_bytes edits = to_be_bytes w16 (length edits) ++ flat_map edit_bytes edits

-- client and request, each in eight bytes
abbrev pub mark_bytes : Mark → List ℕ
mark_bytes mark = to_be_bytes w64 mark.client ++ to_be_bytes w64 mark.request

-- before the edits: nothing, or the number 0 in two bytes and the mark
abbrev pub front_bytes : Option Mark → List ℕ
front_bytes None = []
front_bytes (Some mark) = 0 ∷ 0 ∷ mark_bytes mark

-- the mark, if there is one, and the edits
abbrev pub batch_bytes : BatchContent → List ℕ
batch_bytes batch = front_bytes (mark_of batch) ++ edits_bytes (edits_of batch)

-- a key has at most 1,024 bytes, and a value at most 16,384
abbrev pub IsEdit : Edit → Type 0
IsEdit (Put key value) = (length key ≤ MAX_KEY) × (length value ≤ MAX_VALUE)
IsEdit (Delete key) = length key ≤ MAX_KEY

-- 1 to 256 edits, spelled with the mark in at most 65,536 bytes
pub record IsBatch (batch : BatchContent) : Type 0 where
  pub mark : IfSome (mark_of batch) IsMark
  pub some : 1 ≤ length (edits_of batch)
  pub few : length (edits_of batch) ≤ MAX_EDITS
  pub short : length (batch_bytes batch) ≤ MAX_BATCH
  pub each : All IsEdit (edits_of batch)

-- no spelling is a prefix of another, and no two batches have the same spelling
abbrev pub SpellingsDiffer : Type 0
SpellingsDiffer = (a b : BatchContent) (rest : List ℕ) → IsBatch a → IsBatch b →
    batch_bytes a ++ rest ≡ batch_bytes b → (a ≡ b) × (rest ≡ [])
