-- The node of a disk whose slots were looked at first.
use Rattle.std.proofs.Common.{◌≡◌, ◌⊎◌, ◌↔◌, ◌<◌, ◌≤◌, inl, inr, ℕ, length, sym, ap, arith, refl}
use Rattle.std.proofs.Common.{subst}
use Rattle.std.proofs.Common.{◌∙◌, IsTrue, Bool}
use Rattle.std.specs.Prelude.{Result, Ok, Err, IfErr, IfSome, IsErrAnd, IsErrOf, IsSome}
use Rattle.std.proofs.Math.Path.{fun_ext}
use Rattle.std.proofs.lemmas.Bool.{cases_eq}
use Rattle.disk.specs.declared.Disk.{Ghosts}
use Rattle.disk.specs.{Contents, IsCrashOutcome, IsEnvironmental, IsStill, KeepsDisk, State}
use Rattle.disk.specs.{contents, seen}
use Rattle.disk.specs.declared.error.DiskError.{DiskError}
use Rattle.disk.specs.declared.error.DiskError.TheVariants as device
use Rattle.disk.specs.MomentsLemmas.{join, weaker}
use Rattle.disk.specs.StepsLemmas.{read_is_outcome}
use Rattle.disk.specs.StillLemmas.{spares_still, still_more}
use Rattle.configurations.specs.{at_epoch, Configurations}
use Rattle.engine.specs.{SparesFound, kept_files}
use Rattle.disk.specs.KeepingLemmas.{kept_behind}
use Rattle.chain_core.specs.{Machine}
use Rattle.manifest.specs.{HasOnlyCreationFiles, IsNotCreated, NodeVersion, SlotsRead}
use Rattle.manifest.specs.{OldStoresAreApart, VersionIsOne}
use Rattle.manifest.specs.Holds.{SparesOthers}
use Rattle.manifest.specs.Laws.{VersionsAreCreated}
use Rattle.node.specs.{DiskRefines, DiskRefinesOneOf}
use Rattle.node.specs.Outputs.{AlwaysRefines}
use Rattle.manifest.specs.Manifests.{ManifestRefusal}
use Rattle.manifest.specs.declared.error.ManifestError.{ManifestError}
use Rattle.manifest.specs.declared.error.ManifestError.TheVariants as manifest
use Rattle.node.specs.declared.node.Node.{Node}
use Rattle.node.specs.declared.stop.Stop.{Stop}
use Rattle.node.specs.declared.stop.Stop.TheVariants as stop
use Rattle.folder_nodes.specs.Faults.{disk_stop, manifest_stop}
use Rattle.folder_nodes.specs.Finding.{CreatesAgain, CreatesIn, ExplainsFinding, FindingRefusal}
use Rattle.folder_nodes.specs.Finding.{FindsOwn, HasOwnVersion, IsForEnvironment, IsOwn}
use Rattle.folder_nodes.specs.Finding.{IsOwnVersion, KeepsFoundDisk, NamesOwn, StartFailure}
use Rattle.folder_nodes.specs.Finding.{KeepsFoundFiles, StartsAs, StartsFrom, disk_left}
use Rattle.folder_nodes.specs.declared.fault.FolderError.{FolderError}
use Rattle.folder_nodes.specs.declared.fault.FolderError.TheVariants.{OtherNode, Stopped}

-- ---- the version

-- the disk reads as before
pub same_contents : (old mid : State) → SlotsRead mid (contents old) → SparesOthers old mid →
    contents mid ≡ contents old
same_contents old mid slots spares = fun_ext (λ file. elim (cases_eq file 1) [
  | inl one ↦ slots file (inl one)
  | inr not_one ↦ elim (cases_eq file 2) [
    | inl two ↦ slots file (inr two)
    | inr not_two ↦ ap seen (spares file (λ is. elim is [
      | inl one ↦ absurd (not_one one)
      | inr two ↦ absurd (not_two two)
    ]))
  ]
])

-- what is said of the version is said of the machine
pub own_machine : VersionIsOne → (configs : Configurations) (id x : ℕ) (n : Machine) (own : Bool)
    (left : Contents) (new : State) → NamesOwn configs id own left new → DiskRefines left x n →
    IsTrue own ↔ IsOwn configs id x n
own_machine one configs id x n own left new it read =
    let named : NodeVersion = record { id = x; version = read.version } in
    let same = one it.named named left it.represents read.manifest in (
      λ yes. own_of (subst (IsOwnVersion configs id) same (it.decides.0 yes)),
      λ is. it.decides.1 (subst (IsOwnVersion configs id) (sym same) (version_of is)),
    )
  where
    own_of : IsOwnVersion configs id (record { id = x; version = read.version }) →
        IsOwn configs id x n
    own_of is = record {
      same = is.same;
      within = subst (λ e. e < length configs) read.epoch is.within;
      ids = sym read.ids ∙ is.ids ∙ ap (at_epoch configs) read.epoch;
    }

    version_of : IsOwn configs id x n →
        IsOwnVersion configs id (record { id = x; version = read.version })
    version_of is = record {
      same = is.same;
      within = subst (λ e. e < length configs) (sym read.epoch) is.within;
      ids = read.ids ∙ is.ids ∙ ap (at_epoch configs) (sym read.epoch);
    }

-- a disk that represents a machine has an open slot
pub is_created : VersionsAreCreated → (left : Contents) (x : ℕ) (n : Machine) →
    DiskRefines left x n → IsNotCreated left → ⊥
is_created created left x n read none =
    created (record { id = x; version = read.version }) left read.manifest none

pub one_is_created : VersionsAreCreated → (disk : State) (x : ℕ) (n m : Machine) →
    DiskRefinesOneOf disk x n m → IsNotCreated (contents disk) → ⊥
one_is_created created disk x n m rests none =
    elim (rests (contents disk) (λ file. read_is_outcome (disk file))) [
      | inl read ↦ is_created created (contents disk) x n read none
      | inr read ↦ is_created created (contents disk) x m read none
    ]

-- ---- moments

module _ {D : Type 0} (g : Ghosts D) (old mid : D) (x : ℕ) (n m : Machine)
    (still : IsStill g old mid) (honest : g.is_honest old)
    (rests : DiskRefinesOneOf (g.state old) x n m) where
  -- a call that leaves nothing new leaves disks of these machines
  pub rests_still : AlwaysRefines g old mid x n m
  rests_still =
      weaker (IsCrashOutcome (g.state old)) (λ left. DiskRefines left x n ⊎ DiskRefines left x m)
      (g.state old) (g.past old) (g.state mid) (g.past mid) rests (still honest)

  pub rests_then : DiskRefinesOneOf (g.state mid) x n m
  rests_then = rests_still.now

  -- .. and so does one behind it
  pub rests_on : (new : D) → AlwaysRefines g mid new x n m → AlwaysRefines g old new x n m
  rests_on new more =
      join (λ left. DiskRefines left x n ⊎ DiskRefines left x m) (g.state old) (g.state mid)
      (g.state new) (g.past old) (g.past mid) (g.past new) rests_still more

-- two calls that leave nothing new
pub still_on : {D : Type 0} (g : Ghosts D) (old mid new : D) → (g.is_honest old → g.is_honest mid)
    → IsStill g old mid → IsStill g mid new → IsStill g old new
still_on g old mid new keeps first second = λ honest.
    still_more (first honest) (second (keeps honest))

-- ---- causes

pub env_stopped : (cause : Stop) (e : FolderError) → e ≡ Stopped cause →
    IsEnvironmental stop.Disk stop.Memory cause → IsForEnvironment e
env_stopped cause e is (inl device) = inl (is ∙ ap Stopped device)
env_stopped cause e is (inr memory) = inr (is ∙ ap Stopped memory)

-- the numbers of the files were refused for the environment
pub env_listed : (cause : DiskError) (e : FolderError) → e ≡ Stopped (disk_stop cause) →
    (cause ≡ device.Failed) ⊎ (cause ≡ device.Memory) → IsForEnvironment e
env_listed cause e is (inl failed) = inl (is ∙ ap (λ c. Stopped (disk_stop c)) failed)
env_listed cause e is (inr memory) = inr (is ∙ ap (λ c. Stopped (disk_stop c)) memory)

-- a manifest that is represented was refused for the environment
pub env_opened : VersionsAreCreated → OldStoresAreApart → (cause : ManifestError) (e : FolderError)
    (left : Contents) (x : ℕ) (n : Machine) → e ≡ Stopped (manifest_stop cause) →
    ManifestRefusal cause left → DiskRefines left x n → IsForEnvironment e
env_opened created apart manifest.Disk e left x n is why read = inl is
env_opened created apart manifest.Memory e left x n is why read = inr is
env_opened created apart manifest.Failed e left x n is why read = absurd why
env_opened created apart manifest.NotCreated e left x n is why read =
    absurd (is_created created left x n read why)
env_opened created apart manifest.Damaged e left x n is why read =
    absurd (why.1 (record { id = x; version = read.version }) read.manifest)
env_opened created apart manifest.OldFormat e left x n is why read =
    absurd ((apart left why).1 (record { id = x; version = read.version }) read.manifest)

-- a refusal of a creation or a start is of the device if its cause was
pub device_stopped : (cause : Stop) (e : FolderError) → e ≡ Stopped cause →
    (cause ≡ stop.Disk) ↔ (e ≡ Stopped stop.Disk)
device_stopped cause e is = (λ same. is ∙ ap Stopped same, λ same. cc)

-- .. and one of a look at the files
pub device_listed : {T : Type 0} (cause : DiskError) (e : FolderError) →
    e ≡ Stopped (disk_stop cause) →
    IsErrOf {T = T} (Err cause) device.Failed ↔ (e ≡ Stopped stop.Disk)
device_listed device.Failed e is = (λ fails. is, λ same. refl)
device_listed device.Memory e is = (λ fails. cc, λ same. cc)
device_listed device.NoFile e is = (λ fails. cc, λ same. cc)
device_listed device.Short e is = (λ fails. cc, λ same. cc)

-- .. and one of the slots
pub device_opened : {T : Type 0} (cause : ManifestError) (e : FolderError) →
    e ≡ Stopped (manifest_stop cause) →
    IsErrOf {T = T} (Err cause) manifest.Disk ↔ (e ≡ Stopped stop.Disk)
device_opened manifest.Disk e is = (λ fails. is, λ same. refl)
device_opened manifest.Memory e is = (λ fails. cc, λ same. cc)
device_opened manifest.NotCreated e is = (λ fails. cc, λ same. cc)
device_opened manifest.Damaged e is = (λ fails. cc, λ same. cc)
device_opened manifest.Failed e is = (λ fails. cc, λ same. cc)
device_opened manifest.OldFormat e is = (λ fails. cc, λ same. cc)

-- an answer is no failure of the device
pub answers : {T E : Type 0} {x : T} {e : E} → IsErrOf (Ok x) e → ⊥
answers fails = cc

-- nor is the refusal of slots that are not open
pub none_failed : {T : Type 0} (cause : ManifestError) → cause ≡ manifest.NotCreated →
    IsErrOf {T = T} (Err cause) manifest.Disk → ⊥
none_failed cause is fails = cc

-- a refusal for another cause is none for the device
pub not_device : Stopped stop.NotCreated ≡ Stopped stop.Disk → ⊥
not_device same = cc

pub other_not_device : OtherNode ≡ Stopped stop.Disk → ⊥
other_not_device same = cc

-- ---- what explains an answer

-- no more than a creation may have left: so it is behind a look at the slots
pub only_before : (old mid : State) → SparesOthers old mid → HasOnlyCreationFiles (contents mid) →
    HasOnlyCreationFiles (contents old)
only_before old mid spares only = record {
  files = λ file some. elim (cases_eq file 1) [
    | inl one ↦ (omega (arith, one), omega (arith, one))
    | inr not_one ↦ elim (cases_eq file 2) [
      | inl two ↦ (omega (arith, two), omega (arith, two))
      | inr not_two ↦ only.files file
          (subst IsSome (sym (same file not_one not_two)) some)
    ]
  ];
  log = subst (λ it. IfSome it (λ bytes. length bytes ≤ 1))
      (same 3 (λ is. omega (arith, is)) (λ is. omega (arith, is))) only.log;
}
  where
    same : (file : ℕ) → (file ≡ 1 → ⊥) → (file ≡ 2 → ⊥) → contents mid file ≡ contents old file
    same file not_one not_two = ap seen (spares file (λ is. elim is [
      | inl one ↦ absurd (not_one one)
      | inr two ↦ absurd (not_two two)
    ]))

-- .. and so it was before it
pub only_behind : (old mid : State) → SparesOthers old mid → HasOnlyCreationFiles (contents old) →
    HasOnlyCreationFiles (contents mid)
only_behind old mid spares only =
    only_before mid old (λ other not_slot. sym (spares other not_slot)) only

-- a refusal of a manifest is of this cause
pub refused_as : (cause same : ManifestError) (left : Contents) → cause ≡ same →
    ManifestRefusal cause left → ManifestRefusal same left
refused_as cause same left is why = subst (λ it. ManifestRefusal it left) is why

-- a manifest that was refused, but for a store that was not created
pub slots_explain : (configs : Configurations) (id : ℕ) (cause : ManifestError) (e : FolderError)
    (left : Contents) → e ≡ Stopped (manifest_stop cause) → (cause ≡ manifest.NotCreated → ⊥) →
    ManifestRefusal cause left → FindingRefusal configs id left e
slots_explain configs id manifest.Disk e left is other why =
    subst (FindingRefusal configs id left) (sym is) tt
slots_explain configs id manifest.Memory e left is other why =
    subst (FindingRefusal configs id left) (sym is) tt
slots_explain configs id manifest.NotCreated e left is other why = absurd (other refl)
slots_explain configs id manifest.Failed e left is other why = absurd why
slots_explain configs id manifest.OldFormat e left is other why =
    subst (FindingRefusal configs id left) (sym is) why
slots_explain configs id manifest.Damaged e left is other why =
    subst (FindingRefusal configs id left) (sym is) (record {
      created = why.0;
      old = why.2;
      no_store = λ facts list files.
          why.1 (record { id = facts.id; version = files.version }) files.manifest;
      shut = λ facts count opens.
          why.1 (record { id = facts.id; version = opens.version }) opens.manifest;
    })

-- a node of a store that was created, which was not started
start_explains : (configs : Configurations) (id : ℕ) (left : Contents) (e : FolderError) →
    (IsNotCreated left → ⊥) → StartFailure left e → FindingRefusal configs id left e
start_explains configs id left OtherNode created why = absurd why
start_explains configs id left (Stopped stop.Disk) created why = tt
start_explains configs id left (Stopped stop.Memory) created why = tt
start_explains configs id left (Stopped stop.Damaged) created why = why
start_explains configs id left (Stopped stop.NotCreated) created why = absurd (created why)
start_explains configs id left (Stopped stop.OldFormat) created why = why

-- a refusal for the environment needs nothing more
pub environment_explains : (configs : Configurations) (id : ℕ) (left : Contents) (e : FolderError)
    → IsForEnvironment e → FindingRefusal configs id left e
environment_explains configs id left e (inl is) =
    subst (FindingRefusal configs id left) (sym is) tt
environment_explains configs id left e (inr is) =
    subst (FindingRefusal configs id left) (sym is) tt

-- ---- answers

module _ {D : Type 0} (g : Ghosts D) where
  -- calls that did not fail, and one behind them
  pub kept_on : {old mid : D} {first : Type 0} {R : State → State → Type 0}
      (result : Result (Node D g) (FolderError × D)) → KeepsDisk g old mid first ⊥ R →
      (first → ⊥) → KeepsFoundDisk g mid result → KeepsFoundDisk g old result
  kept_on result before works kept = kept_behind g (λ a b c same owned. tt) before works kept

module _ {D : Type 0} {g : Ghosts D} where
  -- the node of a store that was created
  pub started_explains : VersionsAreCreated → (configs : Configurations) (id : ℕ) (left : Contents)
      (result : Result (Node D g) (FolderError × D)) → HasOwnVersion configs id left →
      StartsFrom left result → ExplainsFinding configs id left result
  started_explains created configs id left (Ok node) own starts = inl (own, starts)
  started_explains created configs id left (Err refused) own starts =
      start_explains configs id left refused.0 (created own.0 left own.1) starts

  -- the node of a store that was not created
  pub created_explains : (configs : Configurations) (id : ℕ) (old mid : State)
      (result : Result (Node D g) (FolderError × D)) → IsNotCreated (contents old) →
      SparesOthers old mid → CreatesAgain configs id (contents mid) result →
      ExplainsFinding configs id (contents old) result
  created_explains configs id old mid (Ok node) none spares creates =
      inr ((none, only_before old mid spares creates.0), creates.1)
  created_explains configs id old mid (Err refused) none spares (inl external) =
      environment_explains configs id (contents old) refused.0 external
  created_explains configs id old mid (Err refused) none spares (inr more) =
      subst (FindingRefusal configs id (contents old)) (sym more.0)
      (none, λ only. more.1 (only_behind old mid spares only))

  -- an own node that is started is found
  pub finds : (configs : Configurations) (id x : ℕ) (n : Machine)
      (result : Result (Node D g) (FolderError × D)) → StartsAs x n result →
      IsOwn configs id x n → FindsOwn configs id x n result
  finds configs id x n (Ok node) starts own = (own, starts)
  finds configs id x n (Err refused) starts own = inl starts

  -- a node is created where nothing else is
  pub creates_again : (configs : Configurations) (id : ℕ) (left : Contents)
      (result : Result (Node D g) (FolderError × D)) → CreatesIn configs id result →
      HasOnlyCreationFiles left → CreatesAgain configs id left result
  creates_again configs id left (Ok node) creates only = (only, creates)
  creates_again configs id left (Err refused) creates only = inl creates

  -- what is refused behind a call that leaves nothing new
  pub later_still : (old mid : D) (result : Result (Node D g) (FolderError × D)) →
      IsStill g old mid → (g.is_honest old → g.is_honest mid) →
      IfErr result (λ refused. (IsForEnvironment refused.0 → ⊥) → IsStill g mid refused.1) →
      IfErr result (λ refused. (IsForEnvironment refused.0 → ⊥) → IsStill g old refused.1)
  later_still old mid (Ok node) still keeps later = tt
  later_still old mid (Err refused) still keeps later =
      λ other. still_on g old mid refused.1 keeps still (later other)

  -- a creation is refused for the environment alone
  pub created_still : (old : D) (configs : Configurations) (id : ℕ)
      (result : Result (Node D g) (FolderError × D)) →
      (g.is_honest old → CreatesIn configs id result) →
      IfErr result (λ refused. (IsForEnvironment refused.0 → ⊥) → IsStill g old refused.1)
  created_still old configs id (Ok node) creates = tt
  created_still old configs id (Err refused) creates =
      λ other honest. absurd (other (creates honest))

  -- of a start that is refused for the files
  pub refused_still : (disk : D) (result : Result (Node D g) (FolderError × D)) →
      SparesFound g disk (disk_left result)
      (IsErrAnd result (λ refused. IsForEnvironment refused.0 → ⊥)) →
      IfErr result (λ refused. (IsForEnvironment refused.0 → ⊥) → IsStill g disk refused.1)
  refused_still disk (Ok node) left = tt
  refused_still disk (Err refused) left = λ other. left.shut (inr other)

  -- the slots were looked at, and nothing else was done
  pub only_looked : (old mid : D) (e : FolderError) → IsStill g old mid →
      KeepsFoundFiles g old (Err (e, mid))
  only_looked old mid e still = record {
    named = λ named honest represents. spares_still (kept_files named.version) (still honest);
    refused = λ other. still;
    shut = λ none cut. still;
  }
