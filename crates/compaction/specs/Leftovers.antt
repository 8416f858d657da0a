-- Files that a merge leaves where it is abandoned.
use Rattle.std.specs.Prelude.{◌≡◌, IsErrOf, ℕ, ◌<◌, ◌≤◌, false, IsNone, Result, MatchResult}
use Rattle.disk.specs.declared.Disk.{Ghosts}
use Rattle.disk.specs.{IsEnvironmental, seen}
use Rattle.version_edits.specs.Versions.{names_file, names_log}
use Rattle.version_edits.specs.{StoreVersion}
use Rattle.compaction.specs.declared.error.MergeError.TheVariants as merge
use Rattle.compaction.specs.declared.error.MergeError.{MergeError}
use Rattle.compaction.specs.Outputs.{WritesOnly}

-- neither a log nor a table of the version has the file
abbrev pub IsBesideVersion : StoreVersion → ℕ → Type 0
IsBesideVersion version file =
    (names_log version.logs file ≡ false) × (names_file version.tables file ≡ false)

-- the file has a number from the first one of a merge on, and the version does not name it
pub record IsLeftover (first next_file : ℕ) (version : StoreVersion) (file : ℕ) : Type 0 where
  pub begun : first ≤ file
  pub early : file < next_file
  pub beside : IsBesideVersion version file

-- the files that a merge leaves were removed, and no others
pub record RemovesLeftovers {D : Type 0} (g : Ghosts D) (first next_file : ℕ)
    (version : StoreVersion) (old new : D) (result : Result (Unit {0}) MergeError) : Type 0 where
  pub writes : WritesOnly g (IsLeftover first next_file version) old new
      (IsErrOf result merge.Disk) ⊥
  pub removed : g.is_honest old → MatchResult result
      (λ _. (file : ℕ) → IsLeftover first next_file version file → IsNone (seen (g.state new file)))
      (IsEnvironmental merge.Disk merge.Memory)
