-- What holds of each version that edits give.
use Rattle.std.specs.Prelude.{◌≡◌, ℕ, ◌<◌, ◌≤◌, List, [], All}
use Rattle.kv_types.specs.declared.bounds.TheConstants.{MAX_NUMBER}
use Rattle.configurations.specs.{IsConfig}
use Rattle.version_edits.specs.declared.line.TheConstants.{MAX_NEXT}
use Rattle.version_edits.specs.Versions.{StoreVersion, Change, AreLawful, AreInOrder, log_is_before}
use Rattle.version_edits.specs.Versions.{NodeVersion, IsFit, changed, empty, table_is_before}
use Rattle.version_edits.specs.Edits.{IsChange, IsLogLine, IsTableLine, change_text}

-- a file that is named has a number that was given
abbrev pub IsAllocated : StoreVersion → ℕ → Type 0
IsAllocated version file = (3 ≤ file) × (file < version.next_file)

-- the lines are within their limits and in order, those of the empty version too
pub record AreLines (version : StoreVersion) : Type 0 where
  pub logs : All IsLogLine version.logs
  pub tables : All IsTableLine version.tables
  pub log_files : All (λ line. IsAllocated version line.file) version.logs
  pub table_files : All (λ line. IsAllocated version line.file) version.tables
  pub logs_in_order : AreInOrder log_is_before version.logs
  pub tables_in_order : AreInOrder table_is_before version.tables

-- A version that some edits give: its numbers are within their limits, it has a log, no file is
-- named twice, and below level 0 no two tables of a level share a key.
pub record IsVersion (version : StoreVersion) : Type 0 where
  pub next_file : version.next_file ≤ MAX_NEXT
  pub floor : version.floor ≤ MAX_NUMBER
  pub flushed : version.flushed ≤ MAX_NUMBER
  pub epoch : version.epoch ≤ 15
  pub ids : IsConfig version.ids
  pub lines : AreLines version
  pub lawful : AreLawful version.logs version.tables

-- the edit that gives the whole version from the empty one
abbrev pub full_change : StoreVersion → Change
full_change version = record {
  next_file = version.next_file;
  floor = version.floor;
  flushed = version.flushed;
  epoch = version.epoch;
  ids = version.ids;
  logs_gone = [];
  logs_added = version.logs;
  tables_gone = [];
  tables_added = version.tables;
}

-- the bytes of one edit that gives the whole version
pub record IsFullEdit (named : NodeVersion) (text : List ℕ) : Type 0 where
  pub change : Change
  pub is : IsChange change
  pub fit : IsFit empty change
  pub whole : changed empty change ≡ named.version
  pub spelled : text ≡ change_text change
