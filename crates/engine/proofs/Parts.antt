-- Parts of a merge, one behind another.
use Rattle.std.proofs.Common.{◌≡◌, ◌∙◌, ℕ, List, None, Result, Ok, Err}
use Rattle.std.proofs.Common.{refl, subst, sym}
use Rattle.std.specs.Prelude.{Contains, IfErr, IsErrAnd, IsErrOf, MatchResult, OnOk}
use Rattle.std.specs.Result.{result_and}
use Rattle.kv_types.specs.{BatchContent}
use Rattle.disk.specs.{AlwaysLeaves, IsEnvironmental, OnlyLeaves, State}
use Rattle.disk.specs.declared.Disk.{Ghosts}
use Rattle.disk.specs.MomentsLemmas.{join, none_yet, weaker}
use Rattle.manifest.specs.{Change, HasFullSlot}
use Rattle.store_tables.specs.declared.error.EngineError.{EngineError}
use Rattle.store_tables.specs.declared.error.EngineError.TheVariants as engine
use Rattle.store_tables.specs.Errors.{IsEnd}
use Rattle.disk.specs.KeepingLemmas.{kept_as, kept_behind, kept_but, neither, unchanged}
use Rattle.store_tables.specs.RefusalLemmas.{done, passed_on}
use Rattle.store_files.specs.declared.store_files.StoreFiles.{StoreFiles}
use Rattle.store_files.specs.Files.{Facts}
use Rattle.store_files.specs.Merging.{HeldWithOutputs, InstallsMerge, MeantWithOutputs}
use Rattle.store_files.specs.Merging.{merged_files}
use Rattle.store_files.specs.OpenFiles.{AreUsableFiles, FilesHold, WereMeantToHold, known_facts}
use Rattle.store_files.specs.StoreFiles.{FilesRepresent, WereMeant}
use Rattle.store_files.specs.TendKeeps.{StoreKeeps}
use Rattle.table_files.specs.{inner_disk}
use Rattle.table_files.specs.declared.cached_disk.CachedDisk.{CachedDisk}
use Rattle.engine.specs.LentFiles.{files_ghosts}
use Rattle.engine.specs.MergeParts.{IsPartRefusal, KeepsPart}
use Rattle.engine.specs.UnderWay.{HoldsWithMerge, WasMeantWithMerge}
use Rattle.engine.proofs.Results.{match_for, of_refusal, refused_outside}

module _ {D : Type 0} (g : Ghosts D) where
  -- one part behind another that answered, which leaves the facts too, and touches no other files
  pub part_then : {T U : Type 0} {touched later : ℕ → Type 0}
      {cause other damage harm more : Type 0}
      {Held Meant Next WereNext : List BatchContent → Type 0}
      {Holds IsMeant : U → List BatchContent → Type 0}
      {Goes Were : T → List BatchContent → Type 0} (a b c : CachedDisk D g)
      (old mid new : StoreFiles) (called : Result U EngineError) (x : U)
      (result : Result T EngineError) → called ≡ Ok x →
      KeepsPart g touched (λ IsSaid. IsSaid (known_facts old)) cause harm Held Meant Holds IsMeant a
      b old mid called →
      KeepsPart g later (λ IsSaid. IsSaid (known_facts mid)) other more Next WereNext Goes Were b c
      mid new result →
      ((file : ℕ) → later file → touched file) → (other → cause) → (more → damage) →
      ((list : List BatchContent) → Held list → Holds x list → Next list) →
      ((list : List BatchContent) → Meant list → IsMeant x list → WereNext list) →
      KeepsPart g touched (λ IsSaid. IsSaid (known_facts old)) cause damage Held Meant Goes Were a c
      old new result
  part_then {touched = touched} {cause = cause} {harm = harm} {Held = Held} {Meant = Meant}
      {Holds = Holds} {IsMeant = IsMeant} a b c old mid new called x result is part after within
      causes harms next were =
      let before = subst (λ r. KeepsPart g touched (λ IsSaid. IsSaid (known_facts old)) cause harm
      Held Meant Holds IsMeant a b old mid r) is part in
      record {
        kept = kept_behind (files_ghosts g) (λ p q r first second. tt) before.kept done
            (kept_but (files_ghosts g) causes after.kept);
        touches = λ honest file spares.
            after.touches (before.kept.honest.1 honest) file
            (λ one. spares (within file one)) ∙ before.touches honest file spares;
        numbers = (after.numbers.0 ∙ before.numbers.0, after.numbers.1 ∙ before.numbers.1);
        usable = after.usable;
        refused = after.refused;
        held = λ list honest h. after.held list (before.kept.honest.1 honest)
            (next list h (before.held list honest h));
        any_moment = λ list honest h.
            join (FilesRepresent (known_facts old) list) (g.state (inner_disk a))
            (g.state (inner_disk b)) (g.state (inner_disk c)) (g.past (inner_disk a))
            (g.past (inner_disk b)) (g.past (inner_disk c)) (before.any_moment list honest h)
            (subst (λ (facts : Facts). AlwaysLeaves g (inner_disk b) (inner_disk c)
            (FilesRepresent facts list)) before.numbers.1
            (after.any_moment list (before.kept.honest.1 honest)
            (next list h (before.held list honest h))));
        meant = λ list honest m. match_for result _ harms
            (after.meant list (before.kept.honest.1 honest)
            (were list m (before.meant list honest m)));
        meant_moment = λ list honest m.
            join (WereMeant (known_facts old) list) (g.state (inner_disk a))
            (g.state (inner_disk b)) (g.state (inner_disk c)) (g.past (inner_disk a))
            (g.past (inner_disk b)) (g.past (inner_disk c)) (before.meant_moment list honest m)
            (subst (λ (facts : Facts). AlwaysLeaves g (inner_disk b) (inner_disk c)
            (WereMeant facts list)) before.numbers.1
            (after.meant_moment list (before.kept.honest.1 honest)
            (were list m (before.meant list honest m))));
      }

  -- what a part keeps that touches fewer files, says more of the facts, fails for less, and begins
  -- on more
  pub part_wider : {T : Type 0} {touched wider : ℕ → Type 0}
      {OfFacts OfMore : (Facts → Type 0) → Type 0} {cause other damage more : Type 0}
      {Held Meant From WereFrom : List BatchContent → Type 0}
      {Holds IsMeant : T → List BatchContent → Type 0} (a b : CachedDisk D g) (old new : StoreFiles)
      (result : Result T EngineError) →
      KeepsPart g touched OfFacts cause damage Held Meant Holds IsMeant a b old new result →
      ((file : ℕ) → touched file → wider file) →
      ((P : Facts → Type 0) → OfFacts P → OfMore P) → (cause → other) → (damage → more) →
      ((list : List BatchContent) → From list → Held list) →
      ((list : List BatchContent) → WereFrom list → Meant list) →
      KeepsPart g wider OfMore other more From WereFrom Holds IsMeant a b old new result
  part_wider {OfFacts = OfFacts} {OfMore = OfMore} a b old new result part within facts causes
      harms so were = record {
        kept = kept_but (files_ghosts g) causes part.kept;
        touches = λ honest file spares. part.touches honest file (λ one. spares (within file one));
        numbers = (part.numbers.0, facts (λ (it : Facts). known_facts new ≡ it) part.numbers.1);
        usable = part.usable;
        refused = part.refused;
        held = λ list honest h. part.held list honest (so list h);
        any_moment = λ list honest h.
            weaker (λ left. OfFacts (λ (it : Facts). FilesRepresent it list left))
            (λ left. OfMore (λ (it : Facts). FilesRepresent it list left)) (g.state (inner_disk a))
            (g.past (inner_disk a)) (g.state (inner_disk b)) (g.past (inner_disk b))
            (λ left. facts (λ (it : Facts). FilesRepresent it list left))
            (part.any_moment list honest (so list h));
        meant = λ list honest m. match_for result _ harms (part.meant list honest (were list m));
        meant_moment = λ list honest m.
            weaker (λ left. OfFacts (λ (it : Facts). WereMeant it list left))
            (λ left. OfMore (λ (it : Facts). WereMeant it list left)) (g.state (inner_disk a))
            (g.past (inner_disk a)) (g.state (inner_disk b)) (g.past (inner_disk b))
            (λ left. facts (λ (it : Facts). WereMeant it list left))
            (part.meant_moment list honest (were list m));
      }

  -- a part that is refused, in the words of a call that passes the refusal on
  pub part_refused : {T U : Type 0} {touched : ℕ → Type 0}
      {OfFacts : (Facts → Type 0) → Type 0} {cause damage : Type 0}
      {Held Meant : List BatchContent → Type 0} {Holds IsMeant : U → List BatchContent → Type 0}
      {Goes Were : T → List BatchContent → Type 0} (a b : CachedDisk D g) (old new : StoreFiles)
      (called : Result U EngineError) (e : EngineError) (result : Result T EngineError) →
      called ≡ Err e → IsErrAnd result (λ s. s ≡ e) →
      KeepsPart g touched OfFacts cause damage Held Meant Holds IsMeant a b old new called →
      KeepsPart g touched OfFacts cause damage Held Meant Goes Were a b old new result
  part_refused a b old new called e (Ok x) is told part = absurd told
  part_refused {touched = touched} {OfFacts = OfFacts} {cause = cause} {damage = damage}
      {Held = Held} {Meant = Meant} {Holds = Holds} {IsMeant = IsMeant} a b old new called e (Err s)
      is told part =
      let here = subst (λ r. KeepsPart g touched OfFacts cause damage Held Meant Holds IsMeant a b
      old new r) is part in
      record {
        kept = kept_as (files_ghosts g) (passed_on called e (Err s) is told) (λ p q same. same)
            part.kept;
        touches = here.touches;
        numbers = here.numbers;
        usable = tt;
        refused = subst IsEnd (sym told) here.refused;
        held = λ list honest h. subst (IsEnvironmental engine.Disk engine.Memory) (sym told)
            (here.held list honest h);
        any_moment = here.any_moment;
        meant = λ list honest m. subst (IsPartRefusal damage) (sym told)
            (here.meant list honest m);
        meant_moment = here.meant_moment;
      }

  -- a part that answers, in the words of a call that answers something else
  pub part_answers : {T U : Type 0} {touched : ℕ → Type 0}
      {OfFacts : (Facts → Type 0) → Type 0} {cause damage : Type 0}
      {Held Meant : List BatchContent → Type 0} {Holds IsMeant : U → List BatchContent → Type 0}
      {Goes Were : T → List BatchContent → Type 0} (a b : CachedDisk D g) (old new : StoreFiles)
      (called : Result U EngineError) (x : U) (answer : T) → called ≡ Ok x →
      KeepsPart g touched OfFacts cause damage Held Meant Holds IsMeant a b old new called →
      ((list : List BatchContent) → Holds x list → Goes answer list) →
      ((list : List BatchContent) → IsMeant x list → Were answer list) →
      KeepsPart g touched OfFacts cause damage Held Meant Goes Were a b old new (Ok answer)
  part_answers {touched = touched} {OfFacts = OfFacts} {cause = cause} {damage = damage}
      {Held = Held} {Meant = Meant} {Holds = Holds} {IsMeant = IsMeant} a b old new called x answer
      is part goes were =
      let here = subst (λ r. KeepsPart g touched OfFacts cause damage Held Meant Holds IsMeant a b
      old new r) is part in
      record {
        kept = kept_as (files_ghosts g) (neither done done) (λ p q same. same) here.kept;
        touches = here.touches;
        numbers = here.numbers;
        usable = here.usable;
        refused = tt;
        held = λ list honest h. goes list (here.held list honest h);
        any_moment = here.any_moment;
        meant = λ list honest m. were list (here.meant list honest m);
        meant_moment = here.meant_moment;
      }

  -- a part whose answer stands for another
  pub part_and : {T U : Type 0} {touched : ℕ → Type 0} {OfFacts : (Facts → Type 0) → Type 0}
      {cause damage : Type 0} {Held Meant : List BatchContent → Type 0}
      {Holds IsMeant : U → List BatchContent → Type 0}
      {Goes Were : T → List BatchContent → Type 0} (a b : CachedDisk D g) (old new : StoreFiles)
      (called : Result U EngineError) (answer : T) →
      KeepsPart g touched OfFacts cause damage Held Meant Holds IsMeant a b old new called →
      ((x : U) (list : List BatchContent) → Holds x list → Goes answer list) →
      ((x : U) (list : List BatchContent) → IsMeant x list → Were answer list) →
      KeepsPart g touched OfFacts cause damage Held Meant Goes Were a b old new
      (result_and called (Ok answer))
  part_and a b old new (Ok x) answer part goes were =
      part_answers a b old new (Ok x) x answer refl part (goes x) (were x)
  part_and a b old new (Err e) answer part goes were =
      part_refused a b old new (Err e) e (Err e) refl refl part

  -- what a call of a store keeps, as a part
  pub part_of_store : {T : Type 0} {Held WereHeld : State → List BatchContent → Type 0}
      {touched : List ℕ} {OfFacts : (Facts → Type 0) → Type 0} {cause damage : Type 0}
      {Did : T → Type 0} (a b : CachedDisk D g) (old new : StoreFiles)
      (result : Result T EngineError) →
      StoreKeeps (files_ghosts g) Held WereHeld touched OfFacts cause Did a b old new result →
      KeepsPart g (Contains touched) OfFacts cause damage (Held (g.state (inner_disk a)))
      (WereHeld (g.state (inner_disk a))) (λ _. FilesHold (g.state (inner_disk b)) new)
      (λ _. WereMeantToHold (g.state (inner_disk b)) new) a b old new result
  part_of_store {damage = damage} a b old new result keeps = record {
    kept = keeps.kept;
    touches = keeps.touches;
    numbers = keeps.numbers;
    usable = keeps.usable;
    refused = of_refusal result _ IsEnd keeps.did;
    held = λ list honest h. (keeps.tended list honest h).list;
    any_moment = λ list honest h. (keeps.tended list honest h).any_moment;
    meant = λ list honest m. refused_outside damage result _ (keeps.meant list honest m).list;
    meant_moment = λ list honest m. (keeps.meant list honest m).any_moment;
  }

  -- what the record of a merge keeps, as a part that leaves none under way
  pub part_installed : {T damage : Type 0} (a b : CachedDisk D g) (old new : StoreFiles)
      (edit : Change) (called : Result (Unit {0}) EngineError) (answer : T) →
      InstallsMerge (files_ghosts g) edit a b old new called →
      KeepsPart g (Contains (merged_files old edit)) (λ IsSaid. IsSaid (known_facts old))
      (HasFullSlot old.manifest) damage
      (λ list. HeldWithOutputs (g.state (inner_disk a)) old list edit)
      (λ list. MeantWithOutputs (g.state (inner_disk a)) old list edit)
      (λ _. HoldsWithMerge g b new None) (λ _. WasMeantWithMerge g b new None) a b old new
      (result_and called (Ok answer))
  part_installed a b old new edit called answer installs =
      part_and a b old new called answer (part_of_store a b old new called installs)
      (λ _ list h. record { held = h; merges = tt }) (λ _ list m. record { was = m; merges = tt })

  -- a part that does nothing
  pub part_none : {T : Type 0} {touched : ℕ → Type 0} {OfFacts : (Facts → Type 0) → Type 0}
      {cause damage : Type 0} {Held Meant : List BatchContent → Type 0}
      {Goes Were : T → List BatchContent → Type 0} (files : CachedDisk D g) (store : StoreFiles)
      (result : Result T EngineError) → (IsErrOf result engine.Disk → ⊥) →
      ((P : Facts → Type 0) → P (known_facts store) → OfFacts P) →
      OnOk result (AreUsableFiles store) → IfErr result IsEnd →
      ((list : List BatchContent) → Held list →
      MatchResult result (λ answer. Goes answer list) (IsEnvironmental engine.Disk engine.Memory))
      → ((list : List BatchContent) → Held list →
      OnlyLeaves (FilesRepresent (known_facts store) list) (g.state (inner_disk files))) →
      ((list : List BatchContent) → Meant list →
      MatchResult result (λ answer. Were answer list) (IsPartRefusal damage)) →
      ((list : List BatchContent) → Meant list →
      OnlyLeaves (WereMeant (known_facts store) list) (g.state (inner_disk files))) →
      KeepsPart g touched OfFacts cause damage Held Meant Goes Were files files store store result
  part_none {OfFacts = OfFacts} files store result works facts usable refused held crash meant
      meant_crash = record {
        kept = kept_as (files_ghosts g) (neither (λ f. f) works) (λ p q same. same)
            (unchanged (files_ghosts g) (λ p. tt));
        touches = λ honest file spares. refl;
        numbers = (refl, facts (λ (it : Facts). known_facts store ≡ it) refl);
        usable = usable;
        refused = refused;
        held = λ list honest h. held list h;
        any_moment = λ list honest h.
            none_yet (λ left. OfFacts (λ (it : Facts). FilesRepresent it list left))
            (g.state (inner_disk files)) (g.past (inner_disk files))
            (λ left may. facts (λ (it : Facts). FilesRepresent it list left)
            (crash list h left may));
        meant = λ list honest m. meant list m;
        meant_moment = λ list honest m.
            none_yet (λ left. OfFacts (λ (it : Facts). WereMeant it list left))
            (g.state (inner_disk files)) (g.past (inner_disk files))
            (λ left may. facts (λ (it : Facts). WereMeant it list left)
            (meant_crash list m left may));
      }
