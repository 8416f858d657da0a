-- The laws of the definitions that contracts use.
use Rattle.std.specs.Prelude.{◌≡◌, ◌≤◌, ◌^◌, List, length}
use Rattle.record_log.specs.declared.log.TheConstants.{MAX_RECORD}
use Rattle.byte_fields.specs.declared.format.Format.{Format}
use Rattle.version_edits.specs.declared.line.TheConstants.{MAX_LINES, MAX_NEXT}
use Rattle.version_edits.specs.Versions.{Change, IsFit, StoreVersion, after_all, changed, empty}
use Rattle.version_edits.specs.Edits.{IsChange, change_text}
use Rattle.version_edits.specs.Lawful.{IsVersion}
use Rattle.version_edits.specs.Replays.{IsEditHistory}

-- an edit that a version may take gives a version
abbrev pub EditsKeepVersions : Type 0
EditsKeepVersions = (version : StoreVersion) (change : Change) → IsVersion version →
    IsFit version change → IsChange change → IsVersion (changed version change)

-- an edit that a version may take is no longer than a record of a log may be
abbrev pub FitEditsAreShort : Type 0
FitEditsAreShort = (version : StoreVersion) (change : Change) → IsFit version change →
    IsChange change → length (change_text change) ≤ MAX_RECORD

-- edits of which each may be taken give a version
abbrev pub HistoriesAreLawful : Type 0
HistoriesAreLawful = (format : Format) (changes : List Change) → IsEditHistory format changes →
    IsVersion (after_all empty changes)

-- the bounds of a version, as numbers: of its next file and the first number of a log, and how many
-- logs and how many tables it has at most
pub record LineBoundsAre : Type 0 where
  pub next : MAX_NEXT ≡ 2 ^ 63
  pub lines : MAX_LINES ≡ 4096
