-- What a crash leaves at each moment of an opening: where a property looks at the files of a store
-- alone, removals of other files keep it.
use Rattle.std.proofs.Common.{◌≡◌, ℕ, List, [], ◌∷◌, Contains, ap, inl, inr, subst, sym, ◌∙◌}
use Rattle.std.proofs.lemmas.Bool.{cases_eq}
use Rattle.kv_types.specs.{BatchContent}
use Rattle.disk.specs.{AreLeftOf, Contents, IsCrashOutcome, IsFileOutcome, LeavesSince}
use Rattle.disk.specs.{OnlyLeaves, State, contents}
use Rattle.disk.specs.BesideLemmas.{exchanged, exchanged_here, exchanged_there}
use Rattle.disk.specs.Moments.{LooksAt}
use Rattle.disk.specs.MomentsLemmas.{join, weaker}
use Rattle.disk.specs.StepsLemmas.{read_is_outcome}
use Rattle.store_model.specs.PlacesLemmas.{contains_cases, contains_head, contains_next}
use Rattle.store_model.specs.PlacesLemmas.{contains_none}
use Rattle.manifest.specs.{HeldVersionIsLeft, ManifestHolds, StoreVersion, VersionIsOne}
use Rattle.manifest.specs.{VersionsAreLawful}
use Rattle.store_files.specs.declared.store_files.StoreFiles.{StoreFiles}
use Rattle.store_files.specs.Files.{Facts}
use Rattle.store_files.specs.OpenFiles.{known_version}
use Rattle.store_files.specs.Openings.{kept_files}
use Rattle.store_files.specs.StoreFiles.{IsOneOf, IsStoreFile, NamesStoreFile, WereOneOf}
use Rattle.store_files.proofs.KeptNames.{log_is_kept, slot_is_kept, table_is_kept}
use Rattle.store_files.proofs.StillFiles.{still_keeps}
use Rattle.store_files.proofs.MeantNames.{were_one_is_named}
use Rattle.store_files.proofs.NamedFiles.{files_are_named}

-- ---- some files as a crash left them

-- these files as a crash left them, and each other as it read
abbrev pub patched : Contents → Contents → List ℕ → Contents
patched was left [] = was
patched was left (file ∷ files) = exchanged (patched was left files) file (left file)

patched_here : (was left : Contents) (files : List ℕ) (other : ℕ) → Contains files other →
    patched was left files other ≡ left other
patched_here was left [] other has = absurd (contains_none other has)
patched_here was left (file ∷ files) other has =
    let rest = patched was left files in
    elim (cases_eq other file) [
      | inl here ↦ exchanged_here rest file (left file) other here ∙ ap left (sym here)
      | inr apart ↦ exchanged_there rest file (left file) other apart
          ∙ patched_here was left files other (elim (contains_cases file files other has) [
            | inl is ↦ absurd (apart (sym is))
            | inr more ↦ more
          ])
    ]

patched_may : (disk : State) (left : Contents) (files : List ℕ) → AreLeftOf files disk left →
    IsCrashOutcome disk (patched (contents disk) left files)
patched_may disk left [] at other = read_is_outcome (disk other)
patched_may disk left (file ∷ files) at other =
    let rest = patched (contents disk) left files in
    elim (cases_eq other file) [
      | inl here ↦ subst (IsFileOutcome (disk other))
          (sym (exchanged_here rest file (left file) other here ∙ ap left (sym here)))
          (at other (subst (Contains (file ∷ files)) (sym here) (contains_head file files)))
      | inr apart ↦ subst (IsFileOutcome (disk other))
          (sym (exchanged_there rest file (left file) other apart))
          (patched_may disk left files (λ one has. at one (contains_next file files one has)) other)
    ]

-- ---- the files of a store

-- a file that the version names is kept
named_is_kept : (version : StoreVersion) (file : ℕ) → NamesStoreFile version file →
    Contains (kept_files version) file
named_is_kept version file (inl (line, has, same)) =
    subst (Contains (kept_files version)) same (log_is_kept version line has)
named_is_kept version file (inr (line, has, same)) =
    subst (Contains (kept_files version)) same (table_is_kept version line has)

-- what the files of two stores represent depends on the named files alone
pub one_of_is_named : (facts : Facts) (list : List BatchContent) (facts' : Facts)
    (list' : List BatchContent) → LooksAt IsStoreFile (IsOneOf facts list facts' list')
one_of_is_named facts list facts' list' left other same (inl h) =
    inl (files_are_named facts list left other same h)
one_of_is_named facts list facts' list' left other same (inr h) =
    inr (files_are_named facts' list' left other same h)

module _ (P : Contents → Type 0) (looks : LooksAt IsStoreFile P) where
  -- what a crash may leave of the files that the slots' version names has P
  named_keep : HeldVersionIsLeft → VersionIsOne → (disk : State) (files : StoreFiles)
      (kept : List ℕ) → ManifestHolds disk files.manifest (known_version files) →
      kept ≡ kept_files (known_version files).version → OnlyLeaves P disk → (left : Contents) →
      AreLeftOf kept disk left → P left
  named_keep held_is_left version_is_one disk files kept holds is only left at =
      let known = known_version files in
      let was = patched (contents disk) left kept in
      let may = patched_may disk left kept at in
      let same : (file : ℕ) → Contains (kept_files known.version) file → left file ≡ was file =
      λ file has. sym (patched_here (contents disk) left kept file
      (subst (λ (l : List ℕ). Contains l file) (sym is) has)) in
      looks was left (λ file names. same file (elim names [
        | inl slot ↦ slot_is_kept known.version file slot
        | inr it ↦ named_is_kept known.version file (subst (λ n. NamesStoreFile n.version file)
            (version_is_one it.0 known was it.1
            (held_is_left disk files.manifest known was holds (λ slot is_slot. may slot))) it.2)
      ])) (only was may)

  -- calls that leave nothing new, and removals of other files behind them, keep P
  pub settling_keeps : HeldVersionIsLeft → VersionIsOne → (files : StoreFiles) (kept : List ℕ)
      (old mid new : State) (past so_far since : List State) →
      ManifestHolds mid files.manifest (known_version files) →
      kept ≡ kept_files (known_version files).version → OnlyLeaves P old →
      LeavesSince old past mid so_far (IsCrashOutcome old) →
      LeavesSince mid so_far new since (AreLeftOf kept mid) → LeavesSince old past new since P
  settling_keeps held_is_left version_is_one files kept old mid new past so_far since holds is only
      before removed =
      let run = still_keeps P old past mid so_far only before in
      join P old mid new past so_far since run (weaker (AreLeftOf kept mid) P mid so_far new since
      (named_keep held_is_left version_is_one mid files kept holds is run.now) removed)

-- so files of one of two stores stay so, and so do those that were meant to be of one
pub settling_keeps_each : (facts : Facts) (list : List BatchContent) (facts' : Facts)
    (list' : List BatchContent) → HeldVersionIsLeft → VersionIsOne → VersionsAreLawful →
    (files : StoreFiles) (kept : List ℕ) (old mid new : State) (past so_far since : List State) →
    ManifestHolds mid files.manifest (known_version files) →
    kept ≡ kept_files (known_version files).version →
    LeavesSince old past mid so_far (IsCrashOutcome old) →
    LeavesSince mid so_far new since (AreLeftOf kept mid) →
    (OnlyLeaves (IsOneOf facts list facts' list') old →
    LeavesSince old past new since (IsOneOf facts list facts' list'))
    × (OnlyLeaves (WereOneOf facts list facts' list') old →
    LeavesSince old past new since (WereOneOf facts list facts' list'))
settling_keeps_each facts list facts' list' left one lawful files kept old mid new past so_far
    since holds is before removed = (
      λ only. settling_keeps (IsOneOf facts list facts' list')
          (one_of_is_named facts list facts' list') left one files kept old mid new past so_far
          since holds is only before removed,
      λ only. settling_keeps (WereOneOf facts list facts' list')
          (were_one_is_named one lawful facts list facts' list') left one files kept old mid new
          past so_far since holds is only before removed,
    )
