-- The words of edits, and the edit that a change is.
use Rattle.std.specs.Prelude.{◌+◌, ◌==◌, ◌&&◌, ◌++◌, ◌∷◌, ℕ, Bool, false, List, codes, drop}
use Rattle.std.specs.Prelude.{if◌then◌else◌, position, take}
use Rattle.std.specs.Option.{option_map_or}
use Rattle.std.specs.Str.{bytes_eq}
use Rattle.kv_types.specs.declared.Edit.{Edit}
use Rattle.kv_types.specs.declared.Edit.TheVariants.{Put, Delete}
use Rattle.script_words.specs.declared.edit.RawEdit.{RawEdit}
use Rattle.script_words.specs.declared.edit.RawEdit.TheVariants as raw
use Rattle.script_words.specs.Words.{AreBytes, bytes_text, is_byte_string}

-- a change as an edit: the same put or deletion
abbrev pub edit_of : RawEdit → Edit
edit_of (raw.Put key value) = Put key value
edit_of (raw.Delete key) = Delete key

-- KEY=VALUE or -KEY
abbrev pub edit_word : Edit → List ℕ
edit_word (Put key value) = bytes_text key ++ 61 ∷ bytes_text value
edit_word (Delete key) = 45 ∷ bytes_text key

-- an edit of bytes
abbrev pub AreBytesIn : Edit → Type 0
AreBytesIn (Put key value) = AreBytes key × AreBytes value
AreBytesIn (Delete key) = AreBytes key

-- a word that begins with - is a deletion, any other is cut at its first =
abbrev pub is_edit : List ℕ → Bool
is_edit w =
    if bytes_eq (take 1 w) (codes "-") then is_byte_string (drop 1 w)
    else option_map_or (λ i. is_byte_string (take i w) && is_byte_string (drop (i + 1) w))
    (position (λ b. b == 61) w) false
