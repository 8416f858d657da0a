-- What is kept of a device, and which refusals are of it.
use Rattle.std.proofs.Common.{◌≡◌, ◌∙◌, ◌↔◌, ◌⊎◌, ℕ, List, Option, ap, inl, inr, refl, subst, sym}
use Rattle.std.specs.Prelude.{IfErr, IsErrAnd, IsErrOf, IsNone, MatchResult, Result, Ok, Err}
use Rattle.disk.specs.{AreLeftOf, Contents, IsCrashOutcome, IsEnvironmental, IsSame, IsStill}
use Rattle.disk.specs.{KeepsDisk, contents, seen}
use Rattle.disk.specs.declared.Disk.{Ghosts}
use Rattle.engine.specs.EngineError.{EngineError}
use Rattle.engine.specs.EngineError.TheVariants as engine
use Rattle.disk.specs.KeepingLemmas.{kept_as, kept_behind, neither, same_files, same_then_same}
use Rattle.disk.specs.KeepingLemmas.{unchanged}
use Rattle.disk.specs.MomentsLemmas.{join, weaker}
use Rattle.disk.specs.StillLemmas.{still, still_more}
use Rattle.engine.specs.declared.Engine.{Engine}
use Rattle.engine.specs.{AreAlone, ExplainsRefusal, HasOpened, IsOwned, IsReadableAnswer, LookUps}
use Rattle.engine.specs.{SparesFound, SparesNamed, engine_disk, engine_files, engine_version}
use Rattle.engine.specs.{kept_files}
use Rattle.node.specs.Stops.{engine_stop}
use Rattle.node.specs.declared.stop.Stop.TheVariants as stop
use Rattle.dumps.specs.declared.dump_error.DumpError.{DumpError}
use Rattle.dumps.specs.declared.dump_error.DumpError.TheVariants.{Store}
use Rattle.dumps.specs.Dumped.{AreOpenedFiles, DiskIsOnlyRead, HasOpenedFiles, IsDumpRefusal}
use Rattle.dumps.specs.Dumped.{IsNotOpened, IsOfOpened, IsOfOutput, LeavesDevice, RefusesText}
use Rattle.dumps.specs.Dumped.{UnopenedRefusal, WritesText, disk_of_dump}

-- ---- errors

-- an answer is no failure of the device
pub answers : {T : Type 0} {x : T} → IsErrOf (Ok x) (Store stop.Disk) → ⊥
answers fails = cc

-- a refusal of an engine for its device or memory is one of a dump
pub of_engine : (e : EngineError) → IsEnvironmental engine.Disk engine.Memory e →
    IsDumpRefusal (Store (engine_stop e))
of_engine e (inl is) = inl (ap (λ (x : EngineError). Store (engine_stop x)) is)
of_engine e (inr is) = inr (inl (ap (λ (x : EngineError). Store (engine_stop x)) is))

-- a text is refused for memory, or since the output takes no more
pub output_refusal : (text : List ℕ) (old new : Option (List ℕ)) (error : DumpError) →
    RefusesText text old new error → IsOfOutput error
output_refusal text old new error (inl memory) = inl memory.0
output_refusal text old new error (inr full) = inr full.0

-- what is so of an error is so of a refusal that passes it on
pub refused_so : {T : Type 0} (P : T → Type 0) (Q : DumpError → Type 0)
    (result : Result T DumpError) (error : DumpError) → IsErrAnd result (λ x. x ≡ error) →
    Q error → MatchResult result P Q
refused_so P Q (Ok x) error same so = absurd same
refused_so P Q (Err x) error same so = subst Q (sym same) so

-- a read that is refused is so of a store that was created
pub read_of_opened : (T : Type 0) (told : LookUps) (at : ℕ) (e : EngineError) →
    IsReadableAnswer {T = T} told at (Err e) → IsOfOpened (Store (engine_stop e))
read_of_opened T told at engine.Disk answer = (λ is. cc, λ is. cc)
read_of_opened T told at engine.Damaged answer = (λ is. cc, λ is. cc)
read_of_opened T told at engine.Memory answer = (λ is. cc, λ is. cc)
read_of_opened T told at engine.NotCreated answer = absurd answer
read_of_opened T told at engine.Failed answer = (λ is. cc, λ is. cc)
read_of_opened T told at engine.TooOld answer = (λ is. cc, λ is. cc)
read_of_opened T told at engine.NotCommitted answer = (λ is. cc, λ is. cc)
read_of_opened T told at engine.NoSuchSnapshot answer = absurd answer
read_of_opened T told at engine.TooManySnapshots answer = absurd answer
read_of_opened T told at engine.Exhausted answer = absurd answer
read_of_opened T told at engine.OldFormat answer = absurd answer

-- so is a refusal for memory, or of the output
pub output_of_opened : (error : DumpError) → IsOfOutput error → IsOfOpened error
output_of_opened error (inl is) = (λ none. cc, λ old. cc)
output_of_opened error (inr is) = (λ none. cc, λ old. cc)

-- such a refusal is none of the device
pub output_not_of_device : (error : DumpError) → IsOfOutput error → error ≡ Store stop.Disk → ⊥
output_not_of_device error (inl is) fails = cc
output_not_of_device error (inr is) fails = cc

-- a refusal for a last row is one of a store that was created
pub last_of_opened : {P : Type 0} (error : DumpError) →
    (error ≡ Store stop.Memory) ⊎ ((error ≡ Store stop.Damaged) × P) → IsOfOpened error
last_of_opened error (inl is) = (λ none. cc, λ old. cc)
last_of_opened error (inr is) = let damaged = is.0 in (λ none. cc, λ old. cc)

-- so is one that is passed on
pub opened_as_passed : {T : Type 0} (result : Result T DumpError) (error : DumpError) →
    IsErrAnd result (λ x. x ≡ error) → IsOfOpened error → IfErr result IsOfOpened
opened_as_passed (Ok x) error same is = tt
opened_as_passed (Err x) error same is = subst IsOfOpened (sym same) is

-- so is any other refusal of a dump
pub refused_as_passed : {T : Type 0} (result : Result T DumpError) (error : DumpError) →
    IsErrAnd result (λ x. x ≡ error) → IsDumpRefusal error → IfErr result IsDumpRefusal
refused_as_passed (Ok x) error same is = tt
refused_as_passed (Err x) error same is = subst IsDumpRefusal (sym same) is

-- a refusal for another cause is none of the device
pub other_not_of_device : {T : Type 0} (result : Result T DumpError) (error : DumpError) →
    IsErrAnd result (λ x. x ≡ error) → (error ≡ Store stop.Disk → ⊥) →
    IsErrOf result (Store stop.Disk) → ⊥
other_not_of_device (Ok x) error same other fails = absurd same
other_not_of_device (Err x) error same other fails =
    let disk : x ≡ Store stop.Disk = cc in other (sym same ∙ disk)

-- so is one of a text
pub text_not_of_device : {T : Type 0} (text : List ℕ) (old new : Option (List ℕ))
    (result : Result T DumpError) → WritesText text old new result →
    IsErrOf result (Store stop.Disk) → ⊥
text_not_of_device text old new (Ok x) writes fails = cc
text_not_of_device text old new (Err error) writes fails =
    let disk : error ≡ Store stop.Disk = cc in
    output_not_of_device error (output_refusal text old new error writes) disk

-- and it is one of a store that was created
pub text_of_opened : {T : Type 0} (text : List ℕ) (old new : Option (List ℕ))
    (result : Result T DumpError) → WritesText text old new result → IfErr result IsOfOpened
text_of_opened text old new (Ok x) writes = tt
text_of_opened text old new (Err error) writes =
    output_of_opened error (output_refusal text old new error writes)

-- a refusal for a last row is one for memory, where there is a row
pub of_last_row : {P : Type 0} (error : DumpError) →
    (error ≡ Store stop.Memory) ⊎ ((error ≡ Store stop.Damaged) × P) → (P → ⊥) → IsDumpRefusal error
of_last_row error (inl is) some = inr (inl is)
of_last_row error (inr is) some = absurd (some is.1)

-- and never one for the device, where it is passed on
pub not_of_device : {P T : Type 0} (result : Result T DumpError) (error : DumpError) →
    IsErrAnd result (λ x. x ≡ error) →
    (error ≡ Store stop.Memory) ⊎ ((error ≡ Store stop.Damaged) × P) →
    IsErrOf result (Store stop.Disk) → ⊥
not_of_device (Ok x) error same is fails = absurd same
not_of_device (Err x) error same (inl is) fails = cc
not_of_device (Err x) error same (inr is) fails = let damaged = is.0 in cc

-- a refusal that is passed on is of the device if it was
alike : {T U : Type 0} (result : Result T DumpError) (error : DumpError) →
    IsErrAnd result (λ x. x ≡ error) →
    IsErrOf {T = U} (Err error) (Store stop.Disk) ↔ IsErrOf result (Store stop.Disk)
alike (Ok x) error same = absurd same
alike (Err x) error same = (λ f. cc, λ f. cc)

-- an opening is refused for the device exactly where a dump is
of_device : (e : EngineError) (error : DumpError) → error ≡ Store (engine_stop e) →
    (e ≡ engine.Disk) ↔ (error ≡ Store stop.Disk)
of_device engine.Disk error is = (λ fails. is, λ fails. refl)
of_device engine.Damaged error is = (λ fails. cc, λ fails. cc)
of_device engine.Memory error is = (λ fails. cc, λ fails. cc)
of_device engine.NotCreated error is = (λ fails. cc, λ fails. cc)
of_device engine.Failed error is = (λ fails. cc, λ fails. cc)
of_device engine.TooOld error is = (λ fails. cc, λ fails. cc)
of_device engine.NotCommitted error is = (λ fails. cc, λ fails. cc)
of_device engine.NoSuchSnapshot error is = (λ fails. cc, λ fails. cc)
of_device engine.TooManySnapshots error is = (λ fails. cc, λ fails. cc)
of_device engine.Exhausted error is = (λ fails. cc, λ fails. cc)
of_device engine.OldFormat error is = (λ fails. cc, λ fails. cc)

-- why an engine was not opened, a dump tells too
pub unopened : (left : Contents) (e : EngineError) → ExplainsRefusal e left →
    UnopenedRefusal left (Store (engine_stop e))
unopened left engine.Disk why = tt
unopened left engine.Damaged why = why
unopened left engine.Memory why = tt
unopened left engine.NotCreated why = why
unopened left engine.Failed why = absurd why
unopened left engine.TooOld why = absurd why
unopened left engine.NotCommitted why = absurd why
unopened left engine.NoSuchSnapshot why = absurd why
unopened left engine.TooManySnapshots why = absurd why
unopened left engine.Exhausted why = absurd why
unopened left engine.OldFormat why = why

-- ---- the device

module _ {D : Type 0} (g : Ghosts D) where
  -- the opening did not fail, and this is told of the calls behind it
  pub kept_of_opened : {old mid new : D} {told : Type 0} → KeepsDisk g old mid ⊥ ⊥ IsOwned →
      DiskIsOnlyRead g mid new told → KeepsDisk g old new told ⊥ IsOwned
  kept_of_opened before read = kept_behind g (λ a b c owned same. tt) before (λ f. f) read.kept

  -- the same reads, whose failure is told in other words
  pub read_as : {old new : D} {first told : Type 0} → (first ↔ told) →
      DiskIsOnlyRead g old new first → DiskIsOnlyRead g old new told
  read_as same read =
      record { kept = kept_as g same (λ a b files. files) read.kept; still = read.still }

  -- no call was made
  pub untouched : (disk : D) {told : Type 0} → (told → ⊥) → DiskIsOnlyRead g disk disk told
  untouched disk works = record {
    kept = kept_as g (neither (λ f. f) works) (λ a b same. same) (unchanged g same_files);
    still = λ honest. still (g.state disk) (g.past disk);
  }

  -- no call failed so far, and this is told of the next one
  pub read_then : {old mid new : D} {told : Type 0} → DiskIsOnlyRead g old mid ⊥ →
      DiskIsOnlyRead g mid new told → DiskIsOnlyRead g old new told
  read_then before read = record {
    kept = kept_behind g same_then_same before.kept (λ f. f) read.kept;
    still = λ honest. still_more (before.still honest)
        (read.still (before.kept.honest.1 honest));
  }

  -- no call failed so far, nor in the next one
  pub read_more : {old mid new : D} {told : Type 0} → DiskIsOnlyRead g old mid ⊥ →
      DiskIsOnlyRead g mid new told → (told → ⊥) → DiskIsOnlyRead g old new ⊥
  read_more before read works = read_then before (read_as (neither works (λ f. f)) read)

  -- no call failed so far, and so it is told
  pub read_as_told : {old new : D} {told : Type 0} → DiskIsOnlyRead g old new ⊥ → (told → ⊥) →
      DiskIsOnlyRead g old new told
  read_as_told read works = read_as (neither (λ f. f) works) read

  -- so it is where the refusal is passed on
  pub read_as_passed : {T U : Type 0} {old new : D} (result : Result T DumpError)
      (error : DumpError) → IsErrAnd result (λ x. x ≡ error) →
      DiskIsOnlyRead g old new (IsErrOf {T = U} (Err error) (Store stop.Disk)) →
      DiskIsOnlyRead g old new (IsErrOf result (Store stop.Disk))
  read_as_passed result error same read = read_as (alike result error same) read

  -- of these files an opening and reads behind it leave what they might have been before
  pub named_behind : {old mid new : D} → (g.is_honest old → g.is_honest mid) →
      SparesNamed g old mid → IsStill g mid new → SparesNamed g old new
  named_behind {old} {mid} {new} keeps before still = λ version honest represents.
      let AreLeft : Contents → Type 0 = AreLeftOf (kept_files version.version) (g.state old) in
      let run = before version honest represents in
      join AreLeft (g.state old) (g.state mid) (g.state new) (g.past old) (g.past mid) (g.past new)
      run
      (weaker (IsCrashOutcome (g.state mid)) AreLeft (g.state mid) (g.past mid) (g.state new)
      (g.past new) run.now (still (keeps honest)))

-- ---- the disk that is returned

-- what was written, or refused, is the answer, beside the disk
abbrev pub IsPassedOn : {D : Type 0} → Result (Unit {0}) DumpError → D →
    Result D (DumpError × D) → Type 0
IsPassedOn written disk result =
    MatchResult written (λ _. result ≡ Ok disk) (λ e. result ≡ Err (e, disk))

-- so what is so of the one is so of the other
pub passed_on : {D : Type 0} (P : Type 0) (Q : DumpError → Type 0)
    (written : Result (Unit {0}) DumpError) (disk : D) (result : Result D (DumpError × D)) →
    IsPassedOn written disk result → MatchResult written (λ _. P) Q →
    MatchResult result (λ _. P) (λ refused. Q refused.0)
passed_on {D} P Q (Ok x) disk result is so =
    subst (λ (r : Result D (DumpError × D)). MatchResult r (λ _. P) (λ refused. Q refused.0))
    (sym is) so
passed_on {D} P Q (Err e) disk result is so =
    subst (λ (r : Result D (DumpError × D)). MatchResult r (λ _. P) (λ refused. Q refused.0))
    (sym is) so

module _ {D : Type 0} (g : Ghosts D) where
  -- an opening that was refused keeps the device
  pub kept_of_refused : {old new : D} (e : EngineError) (error : DumpError) →
      error ≡ Store (engine_stop e) → KeepsDisk g old new (e ≡ engine.Disk) ⊥ IsOwned →
      KeepsDisk g old new (error ≡ Store stop.Disk) ⊥ IsOwned
  kept_of_refused e error is kept = kept_as g (of_device e error is) (λ a b owned. owned) kept

  kept_answered : {old left : D} (x : Unit {0}) →
      KeepsDisk g old left (IsErrOf (Ok x) (Store stop.Disk)) ⊥ IsOwned →
      KeepsDisk g old left ⊥ ⊥ IsOwned
  kept_answered x kept = kept_as g (neither answers (λ f. f)) (λ a b owned. owned) kept

  kept_refused : {old left : D} (e : DumpError) →
      KeepsDisk g old left (IsErrOf {T = Unit {0}} (Err e) (Store stop.Disk)) ⊥ IsOwned →
      KeepsDisk g old left (e ≡ Store stop.Disk) ⊥ IsOwned
  kept_refused e kept = kept_as g (λ f. cc, λ f. cc) (λ a b owned. owned) kept

  -- so does the answer, of the disk that it has
  pub kept_passed_on : {old left : D} (written : Result (Unit {0}) DumpError) (disk : D)
      (result : Result D (DumpError × D)) → IsPassedOn written disk result → disk ≡ left →
      KeepsDisk g old left (IsErrOf written (Store stop.Disk)) ⊥ IsOwned →
      LeavesDevice g old result
  kept_passed_on {old} {left} (Ok x) disk result is same kept =
      subst (LeavesDevice g old) (sym is)
      (subst (λ (d : D). LeavesDevice g old (Ok d)) (sym same) (kept_answered x kept))
  kept_passed_on {old} {left} (Err e) disk result is same kept =
      subst (LeavesDevice g old) (sym is)
      (subst (λ (d : D). LeavesDevice g old (Err (e, d))) (sym same) (kept_refused e kept))

  -- no store was opened
  pub not_opened : (disk left : D) (out : Option (List ℕ)) (e : EngineError) (error : DumpError) →
      error ≡ Store (engine_stop e) → ExplainsRefusal e (contents (g.state disk)) →
      SparesFound g disk left (IsEnvironmental engine.Disk engine.Memory e → ⊥) →
      IsNotOpened g disk out out (Err (error, left))
  not_opened disk left out e error is why spares = record {
    refused = subst (UnopenedRefusal (contents (g.state disk))) (sym is)
        (unopened (contents (g.state disk)) e why);
    none = refl;
    still = λ why. elim why [
      | inl shut ↦ spares.shut (inl shut)
      | inr other ↦ spares.shut (inr (λ met. other
          (subst IsDumpRefusal (sym is) (of_engine e met))))
    ];
  }

  -- behind an opening no file was changed
  pub opened_files : (disk left : D) (engine : Engine D g) → HasOpened g (g.state disk) engine →
      AreAlone (engine_files engine) (g.state (engine_disk engine)) →
      IsSame (g.state (engine_disk engine)) (g.state left) →
      AreOpenedFiles (g.state disk) (g.state left)
  opened_files disk left engine opened alone same = record {
    version = engine_version engine;
    was = opened.version;
    alike = λ file has. ap seen (same file) ∙ opened.alike file has;
    alone = λ file other. subst (λ slot. IsNone (seen slot)) (sym (same file)) (alone file other);
  }

  -- the disk behind what is passed on is the same
  pub named_passed_on : {disk left : D} (written : Result (Unit {0}) DumpError) (own : D)
      (result : Result D (DumpError × D)) → IsPassedOn written own result → own ≡ left →
      SparesNamed g disk left → SparesNamed g disk (disk_of_dump result)
  named_passed_on {disk} (Ok x) own result is same spares =
      subst (SparesNamed g disk) (sym (ap disk_of_dump is ∙ same)) spares
  named_passed_on {disk} (Err e) own result is same spares =
      subst (SparesNamed g disk) (sym (ap disk_of_dump is ∙ same)) spares

  -- so are its files
  pub files_passed_on : {disk left : D} (old new : Option (List ℕ))
      (written : Result (Unit {0}) DumpError) (own : D) (result : Result D (DumpError × D)) →
      IsPassedOn written own result → own ≡ left → IfErr written IsOfOpened →
      AreOpenedFiles (g.state disk) (g.state left) → HasOpenedFiles g disk old new result
  files_passed_on {disk} {left} old new (Ok x) own result is same created files =
      subst (HasOpenedFiles g disk old new) (sym is)
      (subst (λ (d : D). AreOpenedFiles (g.state disk) (g.state d)) (sym same) files)
  files_passed_on {disk} {left} old new (Err e) own result is same created files =
      subst (HasOpenedFiles g disk old new) (sym is)
      (inl (
        subst (λ (d : D). AreOpenedFiles (g.state disk) (g.state d)) (sym same) files,
        created,
      ))
