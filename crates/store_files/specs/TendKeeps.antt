-- What the calls of a tend keep of a store: its device, its other files, and its list.
use Rattle.std.specs.Prelude.{◌≡◌, ◌⊎◌, IsErrOf, ℕ, List, MatchResult, OnOk, Result}
use Rattle.kv_types.specs.{BatchContent}
use Rattle.disk.specs.declared.Disk.{Ghosts}
use Rattle.disk.specs.{KeepsDisk, State}
use Rattle.store_tables.specs.declared.error.EngineError.TheVariants as engine
use Rattle.store_tables.specs.declared.error.EngineError.{EngineError}
use Rattle.store_files.specs.declared.store_files.StoreFiles.{StoreFiles}
use Rattle.store_tables.specs.Errors.{IsEnd}
use Rattle.store_files.specs.Files.{Facts, IsOwned}
use Rattle.batch_logs.specs.Lists.{ListFollowsOn}
use Rattle.store_files.specs.OpenFiles.{AreUsableFiles, FilesHold, WereMeantToHold, batch_count}
use Rattle.store_files.specs.OpenFiles.{known_facts}
use Rattle.store_files.specs.StoreFiles.{FilesRepresent, WereMeant}
use Rattle.store_files.specs.Tending.{IsSameBeside, tended_files}

-- what is said of the facts of a store before a call or of those after it
abbrev pub OfEitherFacts : Facts → Facts → (Facts → Type 0) → Type 0
OfEitherFacts before after IsSaid = IsSaid before ⊎ IsSaid after

-- What a call keeps of a store that changes these files and this of its facts, where files held a
-- list before it in the first of these senses, or were meant to in the second.
pub record StoreKeeps {D T : Type 0} (g : Ghosts D)
    (Held WereHeld : State → List BatchContent → Type 0) (touched : List ℕ)
    (OfFacts : (Facts → Type 0) → Type 0) (cause : Type 0) (Did : T → Type 0)
    (disk later : D) (old new : StoreFiles) (result : Result T EngineError) : Type 0 where
  -- a device that works fails only for this cause
  pub kept : KeepsDisk g disk later (IsErrOf result engine.Disk) cause IsOwned
  -- each file but these is as it was
  pub touches : g.is_honest disk → IsSameBeside touched (g.state disk) (g.state later)
  -- so many batches stay, and the facts change so
  pub numbers : (batch_count new ≡ batch_count old) × OfFacts (λ facts. known_facts new ≡ facts)
  -- where it answers, the open files are usable
  pub usable : OnOk result (AreUsableFiles new)
  -- an answer says what it did, and it is refused for `Disk`, `Damaged` or `Memory` alone
  pub did : MatchResult result Did IsEnd
  -- files that held a list hold it, and a crash at any moment leaves files that represent it
  pub tended : (list : List BatchContent) → g.is_honest disk → Held (g.state disk) list →
      ListFollowsOn g (λ _ state. FilesHold state new list)
      (λ left. OfFacts (λ facts. FilesRepresent facts list left)) disk later result
  -- so it is with files that were meant to hold one
  pub meant : (list : List BatchContent) → g.is_honest disk → WereHeld (g.state disk) list →
      ListFollowsOn g (λ _ state. WereMeantToHold state new list)
      (λ left. OfFacts (λ facts. WereMeant facts list left)) disk later result

-- what a call of a tend keeps that leaves the facts as they are
abbrev pub TendKeeps : {D T : Type 0} → Ghosts D →
    (Held WereHeld : State → List BatchContent → Type 0) → Type 0 → (T → Type 0) →
    (disk later : D) → (old new : StoreFiles) → Result T EngineError → Type 0
TendKeeps g Held WereHeld cause Did disk later old new result =
    StoreKeeps g Held WereHeld (tended_files old) (λ IsSaid. IsSaid (known_facts old)) cause Did
    disk later old new result

-- so does one that finds the files as the last one left them
abbrev pub FilesAreTended : {D T : Type 0} → Ghosts D → Type 0 → (T → Type 0) → D → D →
    StoreFiles → StoreFiles → Result T EngineError → Type 0
FilesAreTended g cause Did disk later old new result =
    TendKeeps g (λ state list. FilesHold state old list)
    (λ state list. WereMeantToHold state old list) cause Did disk later old new result
