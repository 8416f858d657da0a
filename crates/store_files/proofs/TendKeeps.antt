-- What the calls of a tend keep, one behind another.
use Rattle.std.proofs.Common.{◌≡◌, ◌↔◌, ℕ, List, Result, Ok, Err, inl, inr, refl, subst, sym}
use Rattle.std.specs.Prelude.{IfOk, IsErrAnd, IsErrOf, MatchOption, MatchResult, OnOk, Option, Some}
use Rattle.kv_types.specs.{BatchContent}
use Rattle.disk.specs.declared.Disk.{Ghosts}
use Rattle.disk.specs.{DurableFileIsLeft, IsEnvironmental, IsSameBut, KeepsDisk, LeavesSince, State}
use Rattle.disk.specs.MomentsLemmas.{join}
use Rattle.manifest.specs.{HasFullSlot, HeldVersionIsLeft}
use Rattle.store_tables.specs.declared.error.EngineError.{EngineError}
use Rattle.store_tables.specs.declared.error.EngineError.TheVariants as engine
use Rattle.store_files.specs.declared.flushing.Flushed.{Flushed}
use Rattle.store_files.specs.declared.store_files.StoreFiles.{StoreFiles}
use Rattle.store_tables.specs.Errors.{IsEnd}
use Rattle.store_files.specs.Files.{Facts, IsOwned}
use Rattle.disk.specs.KeepingLemmas.{kept_as, kept_behind, kept_but, neither, unchanged}
use Rattle.store_files.specs.OpenFiles.{AreUsableFiles, FilesHold, WereMeantToHold, known_facts}
use Rattle.store_files.specs.StoreFiles.{FilesRepresent, WereMeant}
use Rattle.batch_logs.specs.Lists.{ListFollowsOn}
use Rattle.store_files.specs.TendKeeps.{FilesAreTended, StoreKeeps, TendKeeps}
use Rattle.store_files.specs.Tending.{HasSpilled, HeldAndSpilled, MeantAndSpilled, TendMayFail}
use Rattle.store_files.specs.Tending.{tended_files}
use Rattle.store_tables.specs.RefusalLemmas.{on_ok, refuses}
use Rattle.store_files.proofs.MeantTends.{not_called}
use Rattle.store_files.proofs.TendedFiles.{beside_both, table_alone}
use Rattle.store_files.proofs.Tends.{nothing_called}

-- ---- answers

module _ {T : Type 0} (Did : T → Type 0) where
  -- a lack of memory is external
  pub external_or : (result : Result T EngineError) (P : Type 0) → P →
      MatchResult result Did (λ e. e ≡ engine.Memory) →
      MatchResult result (λ _. P) (IsEnvironmental engine.Disk engine.Memory)
  external_or (Ok x) P p did = p
  external_or (Err e) P p why = inr why

  -- it ends the files
  pub ends_or : (result : Result T EngineError) →
      MatchResult result Did (λ e. e ≡ engine.Memory) → MatchResult result Did IsEnd
  ends_or (Ok x) did = did
  ends_or (Err e) why = subst IsEnd (sym why) tt

  -- and it is no failure of the device
  pub no_device : (result : Result T EngineError) →
      MatchResult result Did (λ e. e ≡ engine.Memory) → IsErrOf result engine.Disk → ⊥
  no_device (Ok x) did fails = cc
  no_device (Err e) why fails = cc

  -- what was done is what a caller wants to know of it
  pub did_as : {Does : T → Type 0} → ((x : T) → Did x → Does x) → (result : Result T EngineError) →
      MatchResult result Did IsEnd → MatchResult result Does IsEnd
  did_as so (Ok x) did = so x did
  did_as so (Err e) ends = ends

  pub did_so : {Does : T → Type 0} → ((x : T) → Did x → Does x) → (result : Result T EngineError) →
      MatchResult result Did IsEnd → IfOk result Does
  did_so so (Ok x) did = so x did
  did_so so (Err e) ends = tt

-- a refusal is no answer
pub no_answer : {T E : Type 0} (result : Result T E) (P : E → Type 0) {x : T} →
    result ≡ Ok x → IsErrAnd result P → ⊥
no_answer (Ok y) P is told = told
no_answer (Err e) P is told = cc

-- one for memory is no failure of the device
pub refused_device : {T : Type 0} (result : Result T EngineError) {e : EngineError} →
    IsErrAnd result (λ s. s ≡ e) → e ≡ engine.Memory → IsErrOf result engine.Disk → ⊥
refused_device (Ok y) told memory fails = told
refused_device (Err s) told memory fails = cc

-- nor does one leave usable files
pub refusal_on_ok : {T E : Type 0} (result : Result T E) (P : E → Type 0) (Q : Type 0) →
    IsErrAnd result P → OnOk result Q
refusal_on_ok (Ok y) P Q told = absurd told
refusal_on_ok (Err e) P Q told = tt

-- a result is passed on: an answer behind an answer, and a refusal as it is
abbrev pub IsPassedOn : {T U : Type 0} → Result T EngineError → Result U EngineError → Type 0
IsPassedOn (Ok x) (Ok y) = Unit {0}
IsPassedOn (Ok x) (Err e) = ⊥
IsPassedOn (Err e) (Ok y) = ⊥
IsPassedOn (Err e) (Err s) = s ≡ e

-- the refusal of a `?` is passed on
pub refusal_passed : {T U : Type 0} (called : Result T EngineError) (e : EngineError)
    (result : Result U EngineError) → called ≡ Err e → IsErrAnd result (λ s. s ≡ e) →
    IsPassedOn called result
refusal_passed called e (Ok x) is told = absurd told
refusal_passed (Ok y) e (Err s) is told = absurd cc
refusal_passed (Err d) e (Err s) is told = cc

-- and so is an answer
pub answer_passed : {T U : Type 0} (called : Result T EngineError) (y : U) {x : T} →
    called ≡ Ok x → IsPassedOn called (Ok y)
answer_passed (Ok x) y is = tt
answer_passed (Err e) y is = absurd cc

module _ {T U : Type 0} where
  pub passed_match : (called : Result T EngineError) (result : Result U EngineError) →
      IsPassedOn called result → (P : T → Type 0) (R : U → Type 0) (Q : EngineError → Type 0) →
      ((x : T) (y : U) → called ≡ Ok x → result ≡ Ok y → P x → R y) → MatchResult called P Q →
      MatchResult result R Q
  passed_match (Ok x) (Ok y) passed P R Q so p = so x y refl refl p
  passed_match (Ok x) (Err e) passed P R Q so p = absurd passed
  passed_match (Err e) (Ok y) passed P R Q so p = absurd passed
  passed_match (Err e) (Err s) passed P R Q so q = subst Q (sym passed) q

  pub passed_ok : (called : Result T EngineError) (result : Result U EngineError) →
      IsPassedOn called result → (P : Type 0) → OnOk called P → OnOk result P
  passed_ok (Ok x) (Ok y) passed P p = p
  passed_ok (Ok x) (Err e) passed P p = absurd passed
  passed_ok (Err e) (Ok y) passed P p = absurd passed
  passed_ok (Err e) (Err s) passed P p = tt

  pub passed_device : (called : Result T EngineError) (result : Result U EngineError) →
      IsPassedOn called result → IsErrOf called engine.Disk ↔ IsErrOf result engine.Disk
  passed_device (Ok x) (Ok y) passed = (λ f. cc, λ f. cc)
  passed_device (Ok x) (Err e) passed = absurd passed
  passed_device (Err e) (Ok y) passed = absurd passed
  passed_device (Err e) (Err s) passed = (λ f. cc, λ f. cc)

-- ---- a tend without a call, and one that is a part of it

module _ {D T : Type 0} (g : Ghosts D) {cause : Type 0} {Did : T → Type 0} where
  -- no call of the disk was made, and the files are as they were
  pub nothing_done : DurableFileIsLeft → HeldVersionIsLeft → (disk : D) (files : StoreFiles) →
      AreUsableFiles files → (result : Result T EngineError) →
      MatchResult result Did (λ e. e ≡ engine.Memory) →
      FilesAreTended g cause Did disk disk files files result
  nothing_done law held disk files usable result did = record {
    kept = kept_as g (neither (λ none. none) (no_device Did result did)) (λ a b owned. owned)
        (unchanged g {R = IsOwned} (λ a. tt));
    touches = λ honest file other. refl;
    numbers = (refl, refl);
    usable = on_ok result usable;
    did = ends_or Did result did;
    tended = λ list honest h. record {
      list = external_or Did result (FilesHold (g.state disk) files list) h did;
      any_moment = nothing_called (g.state disk) files list h law held (g.past disk);
    };
    meant = λ list honest w. record {
      list = external_or Did result (WereMeantToHold (g.state disk) files list) w did;
      any_moment = not_called (g.state disk) files list w law held (g.past disk);
    };
  }

  -- so it is where memory is out before the first call
  pub refused_first : {Held WereHeld : State → List BatchContent → Type 0} → (touched : List ℕ)
      (OfFacts : (Facts → Type 0) → Type 0) (disk : D) (files : StoreFiles)
      (result : Result T EngineError) → IsErrAnd result (λ e. e ≡ engine.Memory) →
      OfFacts (λ facts. known_facts files ≡ facts) →
      ((list : List BatchContent) → Held (g.state disk) list →
      LeavesSince (g.state disk) (g.past disk) (g.state disk) (g.past disk)
      (λ left. OfFacts (λ facts. FilesRepresent facts list left))) →
      ((list : List BatchContent) → WereHeld (g.state disk) list →
      LeavesSince (g.state disk) (g.past disk) (g.state disk) (g.past disk)
      (λ left. OfFacts (λ facts. WereMeant facts list left))) →
      StoreKeeps g Held WereHeld touched OfFacts cause Did disk disk files files result
  refused_first touched OfFacts disk files result told facts held were =
      let did : MatchResult result Did (λ e. e ≡ engine.Memory) =
      refuses result Did (λ e. e ≡ engine.Memory) told refl in
      record {
        kept = kept_as g (neither (λ none. none) (no_device Did result did)) (λ a b owned. owned)
            (unchanged g {R = IsOwned} (λ a. tt));
        touches = λ honest file other. refl;
        numbers = (refl, facts);
        usable = refusal_on_ok result _ _ told;
        did = ends_or Did result did;
        tended = λ list honest h. record {
          list = refuses result (λ _. FilesHold (g.state disk) files list)
              (IsEnvironmental engine.Disk engine.Memory) told
              (inr refl);
          any_moment = held list h;
        };
        meant = λ list honest w. record {
          list = refuses result (λ _. WereMeantToHold (g.state disk) files list)
              (IsEnvironmental engine.Disk engine.Memory) told (inr refl);
          any_moment = were list w;
        };
      }

  -- where the facts stay
  pub refused_before : {Held WereHeld : State → List BatchContent → Type 0} → (disk : D)
      (files : StoreFiles) (result : Result T EngineError) →
      IsErrAnd result (λ e. e ≡ engine.Memory) →
      ((list : List BatchContent) → Held (g.state disk) list →
      LeavesSince (g.state disk) (g.past disk) (g.state disk) (g.past disk)
      (FilesRepresent (known_facts files) list)) →
      ((list : List BatchContent) → WereHeld (g.state disk) list →
      LeavesSince (g.state disk) (g.past disk) (g.state disk) (g.past disk)
      (WereMeant (known_facts files) list)) →
      TendKeeps g Held WereHeld cause Did disk disk files files result
  refused_before disk files result told held were =
      refused_first (tended_files files) (λ IsSaid. IsSaid (known_facts files)) disk files result
      told refl held were

  -- what was done is a part of what a tend does, and fails for a cause of its causes
  pub tended_as : {other : Type 0} {Does : T → Type 0} → (cause → other) →
      ((x : T) → Did x → Does x) → (disk later : D) (old new : StoreFiles)
      (result : Result T EngineError) →
      FilesAreTended g cause Did disk later old new result →
      FilesAreTended g other Does disk later old new result
  tended_as wider so disk later old new result k = record {
    kept = kept_but g wider k.kept;
    touches = k.touches;
    numbers = k.numbers;
    usable = k.usable;
    did = did_as Did so result k.did;
    tended = k.tended;
    meant = k.meant;
  }

-- ---- a table that is written, and then installed

-- the files of a list, and a new table beside them
pub record IsSpilledFor {D : Type 0} (g : Ghosts D) (disk mid : D) (files : StoreFiles)
    (made : Flushed) : Type 0 where
  pub honest : g.is_honest disk → g.is_honest mid
  pub spares : g.is_honest disk → IsSameBut files.free_file (g.state disk) (g.state mid)
  pub held : (list : List BatchContent) → g.is_honest disk → FilesHold (g.state disk) files list →
      ListFollowsOn g (λ (made : Flushed) state. HasSpilled (g.state disk) state files made)
      (FilesRepresent (known_facts files) list) disk mid (Ok made)
  pub were : (list : List BatchContent) → g.is_honest disk →
      WereMeantToHold (g.state disk) files list →
      ListFollowsOn g (λ (made : Flushed) state. HasSpilled (g.state disk) state files made)
      (WereMeant (known_facts files) list) disk mid (Ok made)

-- it is the one that was written
pub spilled_for : {D : Type 0} (g : Ghosts D) (disk mid : D) (files : StoreFiles)
    (one : Option Flushed) (made : Flushed) → one ≡ Some made →
    (g.is_honest disk → g.is_honest mid) →
    (g.is_honest disk → IsSameBut files.free_file (g.state disk) (g.state mid)) →
    ((list : List BatchContent) → g.is_honest disk → FilesHold (g.state disk) files list →
    ListFollowsOn g (λ (made : Option Flushed) state. MatchOption made
    (FilesHold state files list) (HasSpilled (g.state disk) state files))
    (FilesRepresent (known_facts files) list) disk mid (Ok one)) →
    ((list : List BatchContent) → g.is_honest disk → WereMeantToHold (g.state disk) files list →
    ListFollowsOn g (λ (made : Option Flushed) state. MatchOption made
    (WereMeantToHold state files list) (HasSpilled (g.state disk) state files))
    (WereMeant (known_facts files) list) disk mid (Ok one)) →
    IsSpilledFor g disk mid files made
spilled_for g disk mid files one made is honest spares held were = record {
  honest = honest;
  spares = spares;
  held = λ list good h.
      let it = held list good h in
      record {
        list = subst (λ (o : Option Flushed). MatchOption o (FilesHold (g.state mid) files list)
            (HasSpilled (g.state disk) (g.state mid) files)) is it.list;
        any_moment = it.any_moment;
      };
  were = λ list good w.
      let it = were list good w in
      record {
        list = subst (λ (o : Option Flushed). MatchOption o
            (WereMeantToHold (g.state mid) files list)
            (HasSpilled (g.state disk) (g.state mid) files)) is it.list;
        any_moment = it.any_moment;
      };
}

module _ {D T U : Type 0} (g : Ghosts D) {Did : T → Type 0} {Does : U → Type 0} {first : Type 0}
  where
    -- what a tend keeps whose table was written and then installed, or not
    pub then_installed : (disk mid later : D) (files new : StoreFiles) (made : Flushed) →
        KeepsDisk g disk mid first (TendMayFail g disk files) (IsSameBut files.free_file) →
        (first → ⊥) → IsSpilledFor g disk mid files made → (called : Result T EngineError)
        (result : Result U EngineError) → IsPassedOn called result →
        ((x : T) (y : U) → result ≡ Ok y → Did x → Does y) →
        TendKeeps g (λ state list. HeldAndSpilled state files list made)
        (λ state list. MeantAndSpilled state files list made) (HasFullSlot files.manifest) Did mid
        later files new called →
        FilesAreTended g (TendMayFail g disk files) Does disk later files new result
    then_installed disk mid later files new made kept works spilled called result passed so k =
        record {
          kept = kept_behind g (λ a b d before after. tt) kept works (kept_but g (λ full. inl full)
              (kept_as g (passed_device called result passed) (λ a b owned. owned) k.kept));
          touches = λ honest. beside_both files (g.state disk) (g.state mid) (g.state later)
              (table_alone files (g.state disk) (g.state mid) (spilled.spares honest))
              (k.touches (spilled.honest honest));
          numbers = k.numbers;
          usable = passed_ok called result passed (AreUsableFiles new) k.usable;
          did = passed_match called result passed Did Does IsEnd
              (λ x y was is did. so x y is did) k.did;
          tended = λ list honest h.
              let before = spilled.held list honest h in
              let then = k.tended list (spilled.honest honest)
              (record { before = g.state disk; held = h; spilled = before.list }) in
              record {
                list = passed_match called result passed
                    (λ _. FilesHold (g.state later) new list)
                    (λ _. FilesHold (g.state later) new list)
                    (IsEnvironmental engine.Disk engine.Memory)
                    (λ x y was is held. held) then.list;
                any_moment = join (FilesRepresent (known_facts files) list) (g.state disk)
                    (g.state mid) (g.state later) (g.past disk) (g.past mid) (g.past later)
                    before.any_moment then.any_moment;
              };
          meant = λ list honest w.
              let before = spilled.were list honest w in
              let then = k.meant list (spilled.honest honest)
              (record { before = g.state disk; meant = w; spilled = before.list }) in
              record {
                list = passed_match called result passed
                    (λ _. WereMeantToHold (g.state later) new list)
                    (λ _. WereMeantToHold (g.state later) new list)
                    (IsEnvironmental engine.Disk engine.Memory)
                    (λ x y was is held. held) then.list;
                any_moment = join (WereMeant (known_facts files) list) (g.state disk)
                    (g.state mid) (g.state later) (g.past disk) (g.past mid) (g.past later)
                    before.any_moment then.any_moment;
              };
        }
