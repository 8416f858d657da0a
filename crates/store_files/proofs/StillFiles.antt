-- Files that calls leave as they were, and removals of others behind them.
use Rattle.std.proofs.Common.{◌≡◌, ℕ, List}
use Rattle.std.proofs.Common.{subst}
use Rattle.kv_types.specs.{BatchContent}
use Rattle.disk.specs.{Contents, State}
use Rattle.disk.specs.{IsCrashOutcome, LeavesSince, OnlyLeaves}
use Rattle.disk.specs.MomentsLemmas.{weaker}
use Rattle.manifest.specs.{HeldVersionStays}
use Rattle.store_files.specs.declared.store_files.StoreFiles.{StoreFiles}
use Rattle.store_files.specs.OpenFiles.{FilesAreRead, FilesHold, known_version}
use Rattle.store_files.specs.Openings.{kept_files}
use Rattle.store_files.specs.Settling.{AreAlone, SparesFiles}
use Rattle.store_files.proofs.KeptFiles.{settled_hold}

-- ---- the moments of an opening

-- calls that leave nothing new keep what every outcome has
pub still_keeps : (P : Contents → Type 0) (old : State) (past : List State) (new : State)
    (since : List State) → OnlyLeaves P old →
    LeavesSince old past new since (IsCrashOutcome old) → LeavesSince old past new since P
still_keeps P old past new since only run =
    weaker (IsCrashOutcome old) P old past new since (λ left at. only left at) run

-- the files of another state, where those of the list stay and are alone
pub settled_as : HeldVersionStays → (list : List BatchContent) (files : StoreFiles) (kept : List ℕ)
    (mid new : State) → FilesAreRead mid files list →
    kept ≡ kept_files (known_version files).version → SparesFiles kept mid new →
    AreAlone kept new → FilesHold new files list
settled_as held_stays list files kept mid new read is keeps alone =
    settled_hold mid files list read held_stays new
    (subst (λ (l : List ℕ). SparesFiles l mid new) is keeps)
    (subst (λ (l : List ℕ). AreAlone l new) is alone)
