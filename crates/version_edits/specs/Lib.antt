pub mod Versions
pub mod VersionsLemmas
pub mod Edits
pub mod Lawful
pub mod Reading
pub mod Replays
pub mod Laws
-- What crates above name.
pub use Rattle.version_edits.specs.Edits.{ChangesDiffer, HasRowKeys, IsChange, IsChangeIn}
pub use Rattle.version_edits.specs.Edits.{IsLogLine, IsTableLine, change_text, change_text_in}
pub use Rattle.version_edits.specs.Laws.{EditsKeepVersions, FitEditsAreShort, HistoriesAreLawful}
pub use Rattle.version_edits.specs.Lawful.{IsFullEdit, IsVersion, full_change}
pub use Rattle.version_edits.specs.Replays.{IsEditHistory}
pub use Rattle.version_edits.specs.Versions.{AreFit, Change, IsFit, NodeVersion, StoreVersion}
pub use Rattle.version_edits.specs.Versions.{after_all, changed, empty, first_version}
pub use Rattle.version_edits.specs.Versions.{node_version_after}
