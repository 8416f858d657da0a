-- The version that a list of records gives, one edit after the other.
use Rattle.std.specs.Prelude.{◌≡◌, ◌≢◌, ℕ, List, [], ◌∷◌, map, All, Option, Some, None}
use Rattle.byte_fields.specs.declared.format.Format.{Format}
use Rattle.version_edits.specs.Versions.{NodeVersion, Change, AreFit, after_all, empty}
use Rattle.version_edits.specs.Edits.{IsChangeIn, change_text_in}

-- edits of a format that give a version: there are some, and the version before each may take it
pub record IsEditHistory (format : Format) (changes : List Change) : Type 0 where
  pub some : changes ≢ []
  pub each : All (IsChangeIn format) changes
  pub fit : AreFit empty changes

-- the node's version after these edits, if there are some
abbrev pub version_after_all : ℕ → List Change → Option NodeVersion
version_after_all id [] = None
version_after_all id (first ∷ others) =
    Some (record { id = id; version = after_all empty (first ∷ others) })

-- the records are edits of a format, each of which may be taken, and give this version
pub record IsReplayed (format : Format) (id : ℕ) (draft : Option NodeVersion)
    (records : List (List ℕ)) : Type 0 where
  pub changes : List Change
  pub each : All (IsChangeIn format) changes
  pub fit : AreFit empty changes
  pub spelled : records ≡ map (change_text_in format) changes
  pub so_far : draft ≡ version_after_all id changes
