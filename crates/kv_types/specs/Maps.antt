-- The map that a list of batches builds.
use Rattle.std.specs.Prelude.{◌≡◌, ◌≢◌, ◌↔◌, ℕ, List, [], ◌∷◌, ◌++◌, Option, Some, None}
use Rattle.std.specs.Prelude.{if◌then◌else◌}
use Rattle.std.specs.List.{flat_map, All}
use Rattle.std.specs.Option.{option_or, option_flatten}
use Rattle.std.specs.Str.{bytes_eq}
use Rattle.kv_types.specs.declared.edit.Edit.{Edit}
use Rattle.kv_types.specs.declared.edit.Edit.TheVariants.{Put, Delete}
use Rattle.kv_types.specs.Content.{BatchContent, edits_of}

-- the key that an edit changes
abbrev pub key_of : Edit → List ℕ
key_of (Put key value) = key
key_of (Delete key) = key

-- the value of the key after an edit: a put leaves its value, a deletion none
abbrev pub value_put : Edit → Option (List ℕ)
value_put (Put key value) = Some value
value_put (Delete key) = None

-- the edits of all batches in order
abbrev pub joined : List BatchContent → List Edit
joined batches = flat_map edits_of batches

-- the edit is the last one of the key
pub record IsLastEdit (edits : List Edit) (key : List ℕ) (edit : Edit) : Type 0 where
  pub before : List Edit
  pub after : List Edit
  pub parts : edits ≡ before ++ edit ∷ after
  pub of_key : key_of edit ≡ key
  pub none_later : All (λ later. key_of later ≢ key) after

-- the batches map the key to this value: its last edit puts it
abbrev pub HasValue : List BatchContent → List ℕ → List ℕ → Type 0
HasValue batches key value = IsLastEdit (joined batches) key (Put key value)

-- the result of the key's last edit, if the key has an edit
abbrev pub last_edit : List Edit → List ℕ → Option (Option (List ℕ))
last_edit [] key = None
last_edit (edit ∷ edits) key =
    option_or (last_edit edits key)
    (if bytes_eq (key_of edit) key then Some (value_put edit) else None)

-- the map of the batches, as a function
abbrev pub map_of : List BatchContent → List ℕ → Option (List ℕ)
map_of batches key = option_flatten (last_edit (joined batches) key)

-- the function has exactly the values that the batches put
abbrev pub MapsAgree : Type 0
MapsAgree = (batches : List BatchContent) (key value : List ℕ) →
    (map_of batches key ≡ Some value) ↔ HasValue batches key value
