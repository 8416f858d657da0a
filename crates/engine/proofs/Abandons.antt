-- A merge that is given up leaves the list.
use Rattle.std.proofs.Common.{◌≡◌, ◌≤◌, ◌<◌, ◌↔◌, ℕ, List, None, Result, Ok, Err, ap, arith}
use Rattle.std.proofs.Common.{inl, inr, refl, subst, sym, max, min}
use Rattle.std.specs.Prelude.{IfErr, IsErrOf, IsNone, MatchResult, OnOk}
use Rattle.std.proofs.lemmas.Bool.{cases_lt}
use Rattle.kv_types.specs.{BatchContent}
use Rattle.disk.specs.{IsEnvironmental, KeepsDisk, Slot, seen}
use Rattle.disk.specs.declared.Disk.{Ghosts}
use Rattle.version_edits.specs.declared.line.TheConstants.{MAX_NEXT}
use Rattle.version_edits.specs.{StoreVersion}
use Rattle.compaction.specs.declared.Merge.{Merge}
use Rattle.compaction.specs.declared.error.MergeError.{MergeError}
use Rattle.compaction.specs.declared.error.MergeError.TheVariants as merging
use Rattle.compaction.specs.Leftovers.{IsLeftover, RemovesLeftovers}
use Rattle.compaction.specs.Merges.{begun_number}
use Rattle.store_tables.specs.declared.error.EngineError.{EngineError}
use Rattle.store_tables.specs.declared.error.EngineError.TheVariants as engine
use Rattle.store_tables.specs.Errors.{IsEnd}
use Rattle.disk.specs.KeepingLemmas.{kept_as}
use Rattle.store_files.specs.declared.store_files.StoreFiles.{StoreFiles}
use Rattle.store_files.specs.Apart.{OpenFilesAreApart}
use Rattle.store_files.specs.Files.{IsOwned}
use Rattle.store_files.specs.BesideFiles.{HasSameNamed, IsNamedFile, OtherFilesAreFree, with_free}
use Rattle.store_files.specs.OpenFiles.{AreUsableFiles, known_version}
use Rattle.table_files.specs.{inner_disk}
use Rattle.table_files.specs.declared.cached_disk.CachedDisk.{CachedDisk}
use Rattle.engine.specs.LentFiles.{files_ghosts}
use Rattle.engine.specs.MergeParts.{BeganLate, KeepsAbandoned, answer_of_merge, error_of_merge}
use Rattle.engine.specs.MergeParts.{IsPartRefusal, free_behind}
use Rattle.engine.specs.UnderWay.{HoldsWithMerge, WasMeantWithMerge}
use Rattle.engine.proofs.Beside.{beside_from, beside_named, meant_beside, represent_beside}
use Rattle.engine.proofs.Beside.{usable_with}

-- ---- refusals

-- what the environment refuses it refuses by either name
pub environment : (e : MergeError) → IsEnvironmental merging.Disk merging.Memory e →
    IsEnvironmental engine.Disk engine.Memory (error_of_merge e)
environment e (inl disk) = inl (ap error_of_merge disk)
environment e (inr memory) = inr (ap error_of_merge memory)

-- each refusal of a merge ends an engine
pub ends : (e : MergeError) → IsEnd (error_of_merge e)
ends merging.Disk = tt
ends merging.Damaged = tt
ends merging.Memory = tt
ends merging.Failed = tt
ends merging.Full = tt

-- the device failed where the merge says so
pub fails_alike : {T U : Type 0} (e : MergeError) →
    IsErrOf {T = T} (Err e) merging.Disk ↔ IsErrOf {T = U} (Err (error_of_merge e)) engine.Disk
fails_alike merging.Disk = (λ _. refl, λ _. refl)
fails_alike merging.Damaged = (λ f. cc, λ f. cc)
fails_alike merging.Memory = (λ f. cc, λ f. cc)
fails_alike merging.Failed = (λ f. cc, λ f. cc)
fails_alike merging.Full = (λ f. cc, λ f. cc)

-- ---- the first free file behind it

behind_above : (first next free : ℕ) → next ≤ free → next ≤ min (max first next) free
behind_above first next free above = omega (arith, above)

behind_below : (first next free : ℕ) → min (max first next) free ≤ free
behind_below first next free = omega arith

behind_cases : (first next free file : ℕ) → min (max first next) free ≤ file → file < free →
    (first ≤ file) × (next ≤ file)
behind_cases first next free file from early =
    (omega (arith, from, early), omega (arith, from, early))

module _ {D : Type 0} (g : Ghosts D) (free : OtherFilesAreFree) (apart : OpenFilesAreApart)
    (a b : CachedDisk D g) (old : StoreFiles) (u : AreUsableFiles old) (merge : Merge D) where
  abbrev version : StoreVersion
  version = (known_version old).version

  abbrev first : ℕ
  first = begun_number merge

  abbrev own : ℕ → Type 0
  own = IsLeftover first old.free_file version

  abbrev behind : ℕ
  behind = free_behind first old

  -- what it removes is not named, where it began behind the slots
  none : 3 ≤ first → (file : ℕ) → own file → IsNamedFile old file → ⊥
  none late file is =
      let from = is.begun in
      beside_named old u file (omega (arith, late, from)) is.beside

  above : version.next_file ≤ behind
  above = behind_above first version.next_file old.free_file u.free

  few : behind ≤ MAX_NEXT
  few =
      let less = behind_below first version.next_file old.free_file in
      let most = u.free_few in
      omega (arith, less, most)

  -- no file is left from there on
  unused : g.is_honest (inner_disk a) →
      RemovesLeftovers (files_ghosts g) first old.free_file version a b (Ok tt) →
      ((file : ℕ) → old.free_file ≤ file → IsNone (seen (g.state (inner_disk a) file))) →
      (file : ℕ) → behind ≤ file → IsNone (seen (g.state (inner_disk b) file))
  unused honest did before file from = elim (cases_lt file old.free_file) [
    | inl early ↦
        let both = behind_cases first version.next_file old.free_file file from early in
        did.removed honest file (record {
          begun = both.0;
          early = early;
          beside = beside_from old u file both.1;
        })
    | inr later ↦
        subst (λ (s : Slot). IsNone (seen s)) (sym (did.writes.kept.files honest file
        (λ is. let early = is.early in omega (arith, early, later)))) (before file later)
  ]

  same : 3 ≤ first → g.is_honest (inner_disk a) →
      RemovesLeftovers (files_ghosts g) first old.free_file version a b (Ok tt) →
      ((file : ℕ) → old.free_file ≤ file → IsNone (seen (g.state (inner_disk a) file))) →
      HasSameNamed old behind (g.state (inner_disk a)) (g.state (inner_disk b))
  same late honest did before = record {
    named = λ file named. did.writes.kept.files honest file (λ is. none late file is named);
    unused = unused honest did before;
    above = above;
    few = few;
  }

  -- what giving it up keeps
  abbrev Keeps : Result (Unit {0}) EngineError → Type 0
  Keeps result = KeepsAbandoned g merge a b old (with_free old behind) result

  pub abandons : (answer : Result (Unit {0}) MergeError) →
      RemovesLeftovers (files_ghosts g) first old.free_file version a b answer →
      Keeps (answer_of_merge answer)
  abandons answer did = record {
    kept = kept answer did;
    touches = did.writes.kept.files;
    numbers = (refl, refl);
    usable = usable answer;
    refused = refused answer;
    held = held answer did;
    any_moment = λ list honest h. represent_beside (files_ghosts g) free old list own (none h.0) a b
        (did.writes.any_moment honest) h.1.held;
    meant = meant answer did;
    meant_moment = λ list honest w. meant_beside (files_ghosts g) free old list own (none w.0) a b
        (did.writes.any_moment honest) w.1.was;
  }
    where
      kept : (answer : Result (Unit {0}) MergeError) →
          RemovesLeftovers (files_ghosts g) first old.free_file version a b answer →
          KeepsDisk (files_ghosts g) a b (IsErrOf (answer_of_merge answer) engine.Disk) ⊥ IsOwned
      kept (Ok x) did = kept_as (files_ghosts g) (λ f. cc, λ f. cc) (λ s t is. tt) did.writes.kept
      kept (Err e) did = kept_as (files_ghosts g) (fails_alike e) (λ s t is. tt) did.writes.kept

      usable : (answer : Result (Unit {0}) MergeError) →
          OnOk (answer_of_merge answer) (AreUsableFiles (with_free old behind))
      usable (Ok x) = usable_with old u behind above few
      usable (Err e) = tt

      refused : (answer : Result (Unit {0}) MergeError) → IfErr (answer_of_merge answer) IsEnd
      refused (Ok x) = tt
      refused (Err e) = ends e

      held : (answer : Result (Unit {0}) MergeError) →
          RemovesLeftovers (files_ghosts g) first old.free_file version a b answer →
          (list : List BatchContent) → g.is_honest (inner_disk a) →
          BeganLate merge (HoldsWithMerge g a old None) list → MatchResult (answer_of_merge answer)
          (λ _. HoldsWithMerge g b (with_free old behind) None list)
          (IsEnvironmental engine.Disk engine.Memory)
      held (Ok x) did list honest h = record {
        held = (free.held (g.state (inner_disk a)) (g.state (inner_disk b)) old behind list h.1.held
            (same h.0 honest did h.1.held.unused)).0;
        merges = tt;
      }
      held (Err e) did list honest h = environment e (did.removed honest)

      meant : (answer : Result (Unit {0}) MergeError) →
          RemovesLeftovers (files_ghosts g) first old.free_file version a b answer →
          (list : List BatchContent) → g.is_honest (inner_disk a) →
          BeganLate merge (WasMeantWithMerge g a old None) list →
          MatchResult (answer_of_merge answer)
          (λ _. WasMeantWithMerge g b (with_free old behind) None list) (IsPartRefusal ⊥)
      meant (Ok x) did list honest w = record {
        was = (free.meant (g.state (inner_disk a)) (g.state (inner_disk b)) old behind list w.1.was
            (same w.0 honest did (apart.unused (g.state (inner_disk a)) old list w.1.was))).0;
        merges = tt;
      }
      meant (Err e) did list honest w = inl (environment e (did.removed honest))

  -- so it is where the call was told so
  pub abandoned : (next : ℕ) → next ≡ old.free_file → (named : StoreVersion) → named ≡ version →
      (answer : Result (Unit {0}) MergeError) →
      RemovesLeftovers (files_ghosts g) first next named a b answer → (now : StoreFiles) →
      now ≡ with_free old behind → (result : Result (Unit {0}) EngineError) →
      result ≡ answer_of_merge answer →
      KeepsAbandoned g merge a b old now result
  abandoned next next_is named named_is answer did now now_is result result_is =
      let of_version = subst (λ (n : ℕ). RemovesLeftovers (files_ghosts g) first n named a b answer)
      next_is did in
      let kept = abandons answer (subst (λ (v : StoreVersion).
      RemovesLeftovers (files_ghosts g) first old.free_file v a b answer) named_is of_version) in
      let told = subst Keeps (sym result_is) kept in
      subst (λ (s : StoreFiles). KeepsAbandoned g merge a b old s result) (sym now_is) told
