-- The stores of engines that were opened or created.
use Rattle.std.proofs.Common.{◌≡◌, ap, inl, inr, refl, subst, sym, ℕ, Bool, false, List, true, ◌∙◌}
use Rattle.std.proofs.Common.{[], ◌∷◌, ◌<◌, ◌≢◌, arith}
use Rattle.std.specs.Prelude.{◌⊎◌, ◌↔◌, Result, Ok, Err, IfErr, IsFalse, IsTrue}
use Rattle.std.specs.Prelude.{MatchResult}
use Rattle.std.specs.Prelude.{All, Contains}
use Rattle.std.proofs.lemmas.List.Elements.{All-weaker}
use Rattle.kv_types.specs.declared.Limits.{Limits}
use Rattle.kv_types.specs.{BatchContent}
use Rattle.disk.specs.declared.Disk.{Ghosts}
use Rattle.disk.specs.{Contents, IsCrashOutcome, IsEnvironmental, IsStill, KeepsDisk, State}
use Rattle.disk.specs.{contents, seen}
use Rattle.engine.specs.EngineError.TheVariants as engine
use Rattle.engine.specs.EngineError.{EngineError}
use Rattle.engine.specs.declared.Engine.{Engine}
use Rattle.disk.specs.KeepingLemmas.{kept_as, neither}
use Rattle.engine.specs.{EngineHolds, ExplainsRefusal, Facts, FilesRepresent, HasFirstFiles}
use Rattle.engine.specs.{HasOnlyFiles, IsEngineOf, IsJustOpened, IsNewEngine, IsNotCreated}
use Rattle.engine.specs.{IsOpened, IsOwned, LookUps, OpensAs, engine_disk, engine_files, facts_of}
use Rattle.engine.specs.{AreAlone, HasOpened, SparesFound, SparesNamed, StillLeavesOneOf}
use Rattle.engine.specs.{IsMeantEngineOf, WereMeant, engine_version, first_facts, kept_files}
use Rattle.engine.specs.{TendedStore, known_version, look_ups}
use Rattle.embedded_store.specs.declared.error.OpenError.{OpenError}
use Rattle.embedded_store.specs.declared.error.OpenError.TheVariants.{Store}
use Rattle.embedded_store.specs.declared.store.EmbeddedStore.{EmbeddedStore}
use Rattle.manifest.specs.declared.TableLine.{TableLine}
use Rattle.manifest.specs.{HasOnlyCreationFiles, ManifestRepresents, NodeVersion}
use Rattle.manifest.specs.{OldStoresAreApart, VersionIsOne, VersionsAreLawful, WasCutShort}
use Rattle.manifest.specs.Laws.{VersionsAreCreated}
use Rattle.manifest.specs.Lawful.{IsAllocated}
use Rattle.manifest.specs.Slots.{IsClosedOrAbsent}
use Rattle.embedded_store.specs.Alone.{IsAloneAs}
use Rattle.embedded_store.specs.Openings.{AreNoStore, CreatesStore, ExplainsOpening, IsFirstStore}
use Rattle.embedded_store.specs.Openings.{IsOfChain, IsOfDisk, IsOfNoStore}
use Rattle.embedded_store.specs.Openings.{IsOpenedAs, IsOpenedFrom, IsOwnStore}
use Rattle.embedded_store.specs.Openings.{IsStoreOver, LeavesFound, KeepsOpenedDisk}
use Rattle.embedded_store.specs.Openings.{OpensContents, StandsAlone}
use Rattle.embedded_store.specs.Stores.{IsFreshStore, store_disk, store_engine}
use Rattle.embedded_store.proofs.Refusals.{chain_is_store, explained, external_explains}
use Rattle.embedded_store.proofs.Refusals.{external_is_store, files_not_external, not_external}
use Rattle.embedded_store.proofs.Refusals.{refused_externally, store_external}

module _ {D : Type 0} (g : Ghosts D) where
  -- ---- the store of an engine

  -- what the engine kept of a disk, its store or the refusal does
  pub own_kept : {failed : Type 0} (disk : D) (engine : Engine D g)
      (result : Result (EmbeddedStore D g) (OpenError × D)) →
      KeepsDisk g disk (engine_disk engine) failed ⊥ IsOwned → (failed → ⊥) →
      IsOwnStore engine result → KeepsOpenedDisk g disk result
  own_kept {failed = failed} disk engine (Ok store) kept works is =
      kept_as g (neither works (λ none. absurd none)) (λ a b same. same)
      (subst (λ (d : D). KeepsDisk g disk d failed ⊥ IsOwned) (sym is.1.disk) kept)
  own_kept {failed = failed} disk engine (Err refused) kept works is =
      kept_as g (neither works (λ fails. cc (is.0, fails))) (λ a b same. same)
      (subst (λ (d : D). KeepsDisk g disk d failed ⊥ IsOwned) (sym is.2) kept)

  -- a store over an engine tells its facts
  pub same_facts : (engine : Engine D g) (store : EmbeddedStore D g) → IsStoreOver engine store →
      facts_of (store_engine store) ≡ facts_of engine
  same_facts engine store is = ap (λ (l : LookUps). l.facts) is.told

  -- and its files open as it
  pub opened_from : (left : Contents) (engine : Engine D g) (store : EmbeddedStore D g) →
      IsStoreOver engine store → IsOpened left engine → IsOpened left (store_engine store)
  opened_from left engine store is opens =
      subst (λ (k : ℕ). OpensAs left (facts_of (store_engine store)) k)
      (sym (ap (λ (l : LookUps). l.count) is.told))
      (subst (λ (f : Facts). OpensAs left f (look_ups engine).count)
      (sym (same_facts engine store is)) opens)

  -- it knows the same version
  same_version : (engine : Engine D g) (store : EmbeddedStore D g) → IsStoreOver engine store →
      engine_version (store_engine store) ≡ engine_version engine
  same_version engine store is = ap (λ (it : TendedStore D). known_version it.store) is.stays.work

  -- which names the same files
  same_store : (engine : Engine D g) (store : EmbeddedStore D g) → IsStoreOver engine store →
      engine_files (store_engine store) ≡ engine_files engine
  same_store engine store is =
      ap (λ (named : NodeVersion). kept_files named.version) (same_version engine store is)

  -- and the files that the engine has are its own
  pub opened_as : (disk : D) (engine : Engine D g) (store : EmbeddedStore D g) →
      IsStoreOver engine store → StandsAlone (facts_of engine) →
      IsOpened (contents (g.state disk)) engine →
      HasOpened g (g.state disk) engine → HasOnlyFiles g engine (engine_files engine) →
      IsOpenedAs (contents (g.state disk)) store
  opened_as disk engine store is alone opens has_opened swept = record {
    opened = opened_from (contents (g.state disk)) engine store is opens;
    version = subst (λ (named : NodeVersion). ManifestRepresents named (contents (g.state disk)))
        (sym (same_version engine store is)) has_opened.version;
    alone = subst StandsAlone (sym (same_facts engine store is)) alone;
    alike = λ file has.
        ap (λ (d : D). seen (g.state d file)) is.disk
        ∙ has_opened.alike file
        (subst (λ (l : List ℕ). Contains l file) (same_store engine store is) has);
    swept = λ honest.
        subst (λ (l : List ℕ). AreAlone l (g.state (store_disk store)))
        (sym (same_store engine store is))
        (subst (λ (d : D). AreAlone (engine_files engine) (g.state d)) (sym is.disk)
        (swept (subst g.is_honest is.disk honest)));
  }

  -- the store of an engine that was created
  pub first_store : (engine : Engine D g) (id : ℕ) (ids : List ℕ) (given : Limits)
      (store : EmbeddedStore D g) → IsAloneAs id ids → g.is_honest (engine_disk engine) →
      EngineHolds g engine [] → IsNewEngine id ids given engine → IsStoreOver engine store →
      IsFirstStore store
  first_store engine id ids given store alone honest holds new is = record {
    facts = same_facts engine store is ∙ ap (λ (l : LookUps). l.facts) new.told
        ∙ ap (λ (n : ℕ). first_facts n ids) alone.0
        ∙ ap (λ (l : List ℕ). first_facts 1 l) alone.1;
    holds = is.stays.holds [] holds;
    files = subst (λ (d : D). HasFirstFiles (g.state d) 1 (1 ∷ [])) (sym is.disk)
        (subst (λ (l : List ℕ). HasFirstFiles (g.state (engine_disk engine)) 1 l) alone.1
        (subst (λ (n : ℕ). HasFirstFiles (g.state (engine_disk engine)) n ids) alone.0
        (new.files honest)));
  }

  -- an engine that does not stand alone is of a chain, and has the files of its version
  of_chain : VersionIsOne → (disk : D) (engine : Engine D g) →
      IsOpened (contents (g.state disk)) engine → HasOpened g (g.state disk) engine →
      AreAlone (engine_files engine) (g.state (engine_disk engine)) →
      (StandsAlone (facts_of engine) → ⊥) →
      IsOfChain (contents (g.state disk)) (g.state (engine_disk engine))
  of_chain one disk engine opens has_opened alone other =
      let same = one (engine_version engine) _ (contents (g.state disk)) has_opened.version
      opens.manifest in
      let files : engine_files engine ≡ kept_files opens.version =
      ap (λ (named : NodeVersion). kept_files named.version) same in
      record {
        facts = facts_of engine;
        count = (look_ups engine).count;
        opens = opens;
        other = other;
        alike = λ file has.
            has_opened.alike file (subst (λ (l : List ℕ). Contains l file) (sym files) has);
        swept = subst (λ (l : List ℕ). AreAlone l (g.state (engine_disk engine))) files alone;
      }

  -- what an engine that was opened promises, its store or the refusal does
  pub own_opens : VersionIsOne → (disk : D) (engine : Engine D g)
      (result : Result (EmbeddedStore D g) (OpenError × D)) →
      ((facts : Facts) (list : List BatchContent) →
      FilesRepresent facts list (contents (g.state disk)) → IsEngineOf g facts list engine) →
      ((facts : Facts) (list : List BatchContent) → WereMeant facts list (contents (g.state disk)) →
      IsMeantEngineOf g facts list engine) →
      IsOpened (contents (g.state disk)) engine →
      HasOpened g (g.state disk) engine → HasOnlyFiles g engine (engine_files engine) →
      g.is_honest (engine_disk engine) → (IsNotCreated (contents (g.state disk)) → ⊥) →
      ((facts : Facts) (list : List BatchContent) (facts' : Facts) (list' : List BatchContent) →
      StillLeavesOneOf g disk (engine_disk engine) facts list facts' list') →
      IsOwnStore engine result → OpensContents g disk (contents (g.state disk)) result
  own_opens one disk engine (Ok store) found meant opens has_opened swept honest created leaves is =
      record {
        opened = λ facts list files.
            let it = found facts list files in (
              subst StandsAlone it.facts is.0,
              record {
                facts = same_facts engine store is.1 ∙ it.facts;
                holds = is.1.stays.holds list it.holds;
              },
            );
        meant = λ facts list files.
            let it = meant facts list files in
            record {
              alone = subst StandsAlone it.facts is.0;
              facts = same_facts engine store is.1 ∙ it.facts;
              was = is.1.stays.meant list it.meant;
            };
        created = λ cut. absurd (created cut.0);
        told = inl (opened_as disk engine store is.1 is.0 opens has_opened swept);
        any_moment = λ facts list facts' list'.
            subst (λ (d : D). StillLeavesOneOf g disk d facts list facts' list') (sym is.1.disk)
            (leaves facts list facts' list');
      }
  own_opens one disk engine (Err refused) found meant opens has_opened swept honest created leaves
      is = record {
        opened = λ facts list files.
            inr (
              is.0,
              λ alone.
                  is.1 (subst StandsAlone (sym (found facts list files).facts) alone),
            );
        meant = λ facts list files. tt;
        created = λ cut. absurd (created cut.0);
        told = subst (ExplainsOpening (contents (g.state disk)) (g.state refused.1)) (sym is.0)
            (subst (λ (d : D). IsOfChain (contents (g.state disk)) (g.state d)) (sym is.2)
            (of_chain one disk engine opens has_opened (swept honest) is.1));
        any_moment = λ facts list facts' list'.
            subst (λ (d : D). StillLeavesOneOf g disk d facts list facts' list') (sym is.2)
            (leaves facts list facts' list');
      }

  -- the store of an engine that was just opened is fresh
  pub own_fresh : (given : Limits) (engine : Engine D g)
      (result : Result (EmbeddedStore D g) (OpenError × D)) → IsJustOpened given engine →
      IsOwnStore engine result →
      MatchResult result (IsFreshStore given) (λ refused. IsOfDisk refused.0)
  own_fresh given engine (Ok store) just is = record {
    works = λ ended. just.works (is.1.stays.ended.0 ended);
    limits = ap (λ (l : LookUps). l.limits) is.1.told ∙ just.limits;
    snapshots = ap (λ (l : LookUps). l.snapshots) is.1.told ∙ just.snapshots;
  }
  own_fresh given engine (Err refused) just is = inl is.0

  -- ---- a store that was not created

  -- no store is there, so none is lost
  none_there : (left : Contents) (e : EngineError) → e ≡ engine.NotCreated →
      ((facts : Facts) (list : List BatchContent) → FilesRepresent facts list left →
      IsEnvironmental engine.Disk engine.Memory e) →
      (facts : Facts) (list : List BatchContent) → FilesRepresent facts list left → ⊥
  none_there left e is refuses facts list files =
      not_external e is (refuses facts list files)

  -- nor is it one of two
  none_of_two : (P : Facts → List BatchContent → Type 0) →
      ((facts : Facts) (list : List BatchContent) → P facts list → ⊥) → (facts : Facts)
      (list : List BatchContent) (facts' : Facts) (list' : List BatchContent) →
      P facts list ⊎ P facts' list' → ⊥
  none_of_two P none facts list facts' list' (inl files) = none facts list files
  none_of_two P none facts list facts' list' (inr files) = none facts' list' files

  -- and files that were meant to represent a list are of a store that was created
  none_was_meant : VersionsAreLawful → VersionsAreCreated → (left : Contents) →
      IsNotCreated left → (facts : Facts) (list : List BatchContent) → WereMeant facts list left → ⊥
  none_was_meant lawful created left none facts list were =
      let named : NodeVersion = record { id = facts.id; version = were.represents.version } in
      let lines = (lawful named were.meant were.represents.manifest).lines.table_files in
      let beside : (slot : ℕ) → slot < 3 →
      All (λ line. line.file ≢ slot) were.represents.version.tables =
      λ slot low. All-weaker (λ (line : TableLine). IsAllocated were.represents.version line.file)
      (λ (line : TableLine). line.file ≢ slot)
      (λ line given same. let late = given.0 in omega (arith, late, low, same))
      were.represents.version.tables lines in
      created named were.meant were.represents.manifest (record {
        first = subst IsClosedOrAbsent (were.others 1 (beside 1 (omega arith))) none.first;
        second = subst IsClosedOrAbsent (were.others 2 (beside 2 (omega arith))) none.second;
      })

  -- what was created there, where a creation may have been cut short
  created_from : (left : Contents) (result : Result (EmbeddedStore D g) (OpenError × D)) →
      WasCutShort left → CreatesStore result →
      MatchResult result (IsOpenedFrom left)
      (λ refused. ExplainsOpening left (g.state refused.1) refused.0)
  created_from left (Ok store) cut holds = inr (cut, holds)
  created_from left (Err refused) cut external =
      external_explains left (g.state refused.1) refused.0 external

  -- a creation, where no store was created and the disk is free
  creates_opens : (disk : D) (e : EngineError)
      (result : Result (EmbeddedStore D g) (OpenError × D)) → e ≡ engine.NotCreated →
      ((facts : Facts) (list : List BatchContent) →
      FilesRepresent facts list (contents (g.state disk)) →
      IsEnvironmental engine.Disk engine.Memory e) → IsNotCreated (contents (g.state disk)) →
      VersionsAreLawful → VersionsAreCreated → HasOnlyCreationFiles (contents (g.state disk)) →
      ((at : State) → IsCrashOutcome at (contents at)) → CreatesStore result →
      OpensContents g disk (contents (g.state disk)) result
  creates_opens disk e result is refuses free lawful created only reads made =
      let left = contents (g.state disk) in
      let none = none_there left e is refuses in
      let unmeant = none_was_meant lawful created left free in
      record {
        opened = λ facts list files. absurd (none facts list files);
        meant = λ facts list were. absurd (unmeant facts list were);
        created = λ cut. made;
        told = created_from left result (free, only) made;
        any_moment = λ facts list facts' list'. record {
          whole = λ leaves. absurd (none_of_two (λ f l. FilesRepresent f l left) none facts list
              facts' list' (leaves left (reads (g.state disk))));
          meant = λ leaves. absurd (none_of_two (λ f l. WereMeant f l left) unmeant facts list
              facts' list' (leaves left (reads (g.state disk))));
        };
      }

  -- a refusal, where nothing is created
  pub refused_opens : OldStoresAreApart → (disk after : D) (left : Contents) (e : EngineError)
      (s : OpenError) → s ≡ Store e →
      ((facts : Facts) (list : List BatchContent) → FilesRepresent facts list left →
      IsEnvironmental engine.Disk engine.Memory e) → ExplainsRefusal e left →
      (e ≡ engine.NotCreated → HasOnlyCreationFiles left → ⊥) →
      ((facts : Facts) (list : List BatchContent) (facts' : Facts) (list' : List BatchContent) →
      StillLeavesOneOf g disk after facts list facts' list') →
      OpensContents g disk left (Err (s, after))
  refused_opens apart disk after left e s is refuses why taken leaves = record {
    opened = λ facts list files. inl (store_external e s is (refuses facts list files));
    meant = λ facts list files. tt;
    created = λ cut. store_external e s is (refused_externally apart left e why taken cut);
    told = subst (ExplainsOpening left (g.state after)) (sym is)
        (explained left (g.state after) e why taken);
    any_moment = leaves;
  }

  -- a creation if the disk is free, and else a refusal
  pub free_opens : (disk after : D) (is_free : Bool) (e : EngineError)
      (result : Result (EmbeddedStore D g) (OpenError × D)) → e ≡ engine.NotCreated →
      (IsTrue is_free ↔ HasOnlyCreationFiles (contents (g.state disk))) →
      ((facts : Facts) (list : List BatchContent) →
      FilesRepresent facts list (contents (g.state disk)) →
      IsEnvironmental engine.Disk engine.Memory e) → IsNotCreated (contents (g.state disk)) →
      VersionsAreLawful → VersionsAreCreated → OldStoresAreApart →
      ((at : State) → IsCrashOutcome at (contents at)) →
      ((facts : Facts) (list : List BatchContent) (facts' : Facts) (list' : List BatchContent) →
      StillLeavesOneOf g disk after facts list facts' list') →
      (IsTrue is_free → CreatesStore result) →
      (IsFalse is_free → result ≡ Err (Store engine.NotCreated, after)) →
      OpensContents g disk (contents (g.state disk)) result
  free_opens disk after true e result is found refuses none lawful created apart reads leaves made
      refused = creates_opens disk e result is refuses none lawful created (found.0 refl) reads
      (made refl)
  free_opens disk after false e result is found refuses none lawful created apart reads leaves made
      refused = subst (OpensContents g disk (contents (g.state disk))) (sym (refused refl))
      (refused_opens apart disk after (contents (g.state disk)) engine.NotCreated
      (Store engine.NotCreated) refl
      (λ facts list files. subst (IsEnvironmental engine.Disk engine.Memory) is
      (refuses facts list files)) none
      (λ same only. let no : false ≡ true = found.1 only in cc) leaves)

  -- ---- what an opening leaves

  -- a chain's store is no such refusal, and its files open
  pub own_still : (disk : D) (engine : Engine D g) {for_files : Type 0}
      (result : Result (EmbeddedStore D g) (OpenError × D)) →
      (g.is_honest disk → IsOpened (contents (g.state disk)) engine) →
      SparesFound g disk (engine_disk engine) for_files → IsOwnStore engine result →
      LeavesFound g disk result
  own_still disk engine (Ok store) opens left is = record {
    refused = tt;
    named = subst (SparesNamed g disk) (sym is.1.disk) left.named;
  }
  own_still disk engine (Err refused) opens left is = record {
    refused = λ why honest. absurd (elim why [
      | inl none ↦ chain_is_store refused.0 is.0 none
      | inr shut ↦ shut.0 (facts_of engine) (look_ups engine).count (opens honest)
    ]);
    named = subst (SparesNamed g disk) (sym is.2) left.named;
  }

  -- nor is a want of the device or of memory, where a creation was cut short
  created_still : (disk : D) (result : Result (EmbeddedStore D g) (OpenError × D)) →
      (g.is_honest disk → WasCutShort (contents (g.state disk))) →
      (g.is_honest disk → CreatesStore result) → IfErr result (λ refused. IsOfNoStore refused.0
      ⊎ AreNoStore (contents (g.state disk)) → IsStill g disk refused.1)
  created_still disk (Ok store) cut made = tt
  created_still disk (Err refused) cut made = λ why honest. absurd (elim why [
    | inl none ↦ external_is_store refused.0 (made honest) none
    | inr shut ↦ shut.1 (cut honest)
  ])

  -- a creation if the disk is free, behind an opening that left what it found
  pub free_still : VersionsAreCreated → (disk mid : D) (is_free : Bool) {for_files : Type 0}
      (result : Result (EmbeddedStore D g) (OpenError × D)) →
      (g.is_honest disk →
      IsTrue is_free ↔ HasOnlyCreationFiles (contents (g.state disk))) →
      (g.is_honest disk → IsNotCreated (contents (g.state disk))) →
      (g.is_honest disk → g.is_honest mid) → IsStill g disk mid →
      SparesFound g disk mid for_files →
      (g.is_honest mid → IsTrue is_free → CreatesStore result) →
      (IsFalse is_free → result ≡ Err (Store engine.NotCreated, mid)) →
      LeavesFound g disk result
  free_still created disk mid true result found none honest still left made refused = record {
    refused = created_still disk result (λ at. (none at, (found at).0 refl))
        (λ at. made (honest at) refl);
    named = λ named at represents.
        absurd (created named (contents (g.state disk)) represents (none at));
  }
  free_still created disk mid false result found none honest still left made refused =
      subst (LeavesFound g disk) (sym (refused refl))
      (record { refused = λ why. still; named = left.named })

  -- the engine's refusal, which left what it found where it is for files, or where they are none
  pub refused_still : (disk after : D) (e : EngineError) (s : OpenError) → s ≡ Store e →
      SparesFound g disk after (IsEnvironmental engine.Disk engine.Memory e → ⊥) →
      LeavesFound g disk (Err (s, after))
  refused_still disk after e s is left = record {
    refused = λ why. left.shut (elim why [
      | inl none ↦ inr (files_not_external e s is none)
      | inr shut ↦ inl shut.0
    ]);
    named = left.named;
  }
