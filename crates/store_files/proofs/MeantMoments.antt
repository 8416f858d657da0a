-- What a crash leaves of files that were meant to hold a list.
use Rattle.std.proofs.Common.{◌≡◌, ◌≢◌, ℕ, suc, ◌≤◌, ◌<◌, List, [], ◌∷◌, ◌++◌, drop, length}
use Rattle.std.proofs.Common.{sym, subst, inl, inr, arith}
use Rattle.std.specs.Prelude.{All, Contains}
use Rattle.std.proofs.lemmas.List.{drop-append-le, length_push}
use Rattle.std.proofs.lemmas.List.Elements.{All-push}
use Rattle.kv_types.specs.declared.bounds.TheConstants.{MAX_NUMBER}
use Rattle.kv_types.specs.{BatchContent, IsBatch}
use Rattle.disk.specs.{Contents, DurableFileIsLeft, IsCrashOutcome, IsFileOutcome, LeavesSince}
use Rattle.disk.specs.{State, contents}
use Rattle.disk.specs.MomentsLemmas.{none_yet, weaker}
use Rattle.store_model.specs.Claims.{AppendsKeep}
use Rattle.store_model.specs.{StoreRepresents}
use Rattle.manifest.specs.{HeldVersionIsLeft, StoreVersion}
use Rattle.store_files.specs.declared.store_files.StoreFiles.{StoreFiles}
use Rattle.batch_logs.specs.BatchLogs.{AreLeftWith, HaveBatches, lines_of, newest_file}
use Rattle.store_files.specs.OpenFiles.{WereMeantToHold, known_facts, known_store, known_version}
use Rattle.store_files.specs.OpenFiles.{trimmed_count}
use Rattle.store_files.specs.StoreFiles.{WereMeant, WereOneOf}
use Rattle.store_files.proofs.Appended.{represented, trimmed_few}
use Rattle.store_files.proofs.FilesApart.{newest_no_table}
use Rattle.store_files.proofs.Meant.{logs_are_held}
use Rattle.store_files.proofs.MeantFiles.{left_beside, meant_left, meant_outcome, tables_left}
use Rattle.store_files.proofs.MeantFiles.{tables_of_meant}
use Rattle.store_files.proofs.MeantOpenings.{log_beside}
use Rattle.store_files.proofs.NamedFiles.{logs_same}
use Rattle.batch_logs.specs.PartsLemmas.{batches_left as whole_left}

-- a disk that was meant, with what a crash leaves of it and of the disk as it is
pub record CrashLaws : Type 0 where
  pub durable : DurableFileIsLeft
  pub version : HeldVersionIsLeft
  pub reads : (disk : State) → IsCrashOutcome disk (contents disk)

module _ (laws : CrashLaws) (disk : State) (files : StoreFiles) (list : List BatchContent)
    (w : WereMeantToHold disk files list) where
  abbrev version : StoreVersion
  version = (known_version files).version

  abbrev trimmed : ℕ
  trimmed = trimmed_count files

  -- a crash outcome of the files but the newest log's
  abbrev OthersAreLeft : Contents → Type 0
  OthersAreLeft left =
      (other : ℕ) → other ≢ newest_file files.logs → IsFileOutcome (disk other) (left other)

  -- such contents were meant to represent what the logs in them have
  were_with : (left : Contents) → OthersAreLeft left → (more : List BatchContent)
      → HaveBatches left (suc trimmed) (lines_of files.logs) (drop trimmed more)
      → StoreRepresents more (known_store files w.hold.known.tables) → All IsBatch more
      → length more ≤ MAX_NUMBER → WereMeant (known_facts files) more left
  were_with left leaves more logs store each few =
      let t = tables_of_meant disk w.meant version files.tables w.disk_is in
      let other = meant_left disk w.meant version.tables t left in
      record {
        meant = other;
        represents = represented w.meant files list w.hold laws.durable laws.version other
            (λ file apart. meant_outcome disk w.meant version.tables t left file
            (leaves file apart)) more
            (logs_same left other (suc trimmed) (lines_of files.logs) (drop trimmed more)
            (λ line has. left_beside disk w.meant version.tables t left line.file
            (log_beside version w.hold.known.usable.version line
            (subst (λ l. Contains l line) w.hold.known.usable.lines has))) logs) store each few;
        others = λ file beside. sym (left_beside disk w.meant version.tables t left file beside);
        tables = tables_left disk w.meant version.tables t left laws.durable w.hold.known.durable
            (λ line has. leaves line.file
            (newest_no_table files w.hold.known.usable line has));
      }

  list_few : length list ≤ MAX_NUMBER
  list_few = subst (λ (n : ℕ). n ≤ MAX_NUMBER) w.hold.known.count w.hold.known.usable.numbers.few

  -- whatever a crash leaves now was meant to represent the list
  pub meant_now : (left : Contents) → IsCrashOutcome disk left
      → WereMeant (known_facts files) list left
  meant_now left leaves =
      were_with left (λ other apart. leaves other) list
      (whole_left laws.durable disk left files.logs (suc trimmed) (drop trimmed list)
      (logs_are_held disk files list w) w.hold.known.usable.logs.apart leaves)
      w.hold.known.store w.hold.known.each list_few

  module _ (batch : BatchContent) (is : IsBatch batch) where
    abbrev longer : List BatchContent
    longer = list ++ batch ∷ []

    dropped : drop trimmed longer ≡ drop trimmed list ++ batch ∷ []
    dropped = drop-append-le trimmed list (batch ∷ []) (trimmed_few w.meant files list w.hold)

    abbrev Either : Contents → Type 0
    Either = WereOneOf (known_facts files) list (known_facts files) longer

    pub none_meant : (past : List State) → LeavesSince disk past disk past Either
    none_meant past = none_yet Either disk past (λ left leaves. inl (meant_now left leaves))

    left_meant : AppendsKeep → length list < MAX_NUMBER → (left : Contents)
        → AreLeftWith disk files.logs (suc trimmed) (drop trimmed list) batch left
        → Either left
    left_meant keeps room left at =
        elim at.either as (λ _. Either left) [
          | inl old ↦ inl (were_with left at.others list old w.hold.known.store
              w.hold.known.each list_few)
          | inr new ↦ inr (were_with left at.others longer
              (subst (HaveBatches left (suc trimmed) (lines_of files.logs)) (sym dropped) new)
              (keeps list (known_store files w.hold.known.tables) batch w.hold.known.store)
              (All-push IsBatch list batch w.hold.known.each is)
              (let long = length_push list batch in omega (arith, long, room)))
        ]

    -- so at each moment of an append
    pub some_meant : AppendsKeep → length list < MAX_NUMBER → (past since : List State)
        (new : State) → LeavesSince disk past new since
        (AreLeftWith disk files.logs (suc trimmed) (drop trimmed list) batch)
        → LeavesSince disk past new since Either
    some_meant keeps room past since new run =
        weaker (AreLeftWith disk files.logs (suc trimmed) (drop trimmed list) batch)
        Either disk past new since (left_meant keeps room) run
