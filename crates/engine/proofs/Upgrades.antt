-- What an upgrade of a store answers and leaves, by what its manifest does.
use Rattle.std.proofs.Common.{◌↔◌, List, Result, Ok, Err, ap, inl, inr, refl, subst}
use Rattle.std.specs.Prelude.{IfErr, IsErrOf, MatchResult, OnOk}
use Rattle.kv_types.specs.{BatchContent}
use Rattle.disk.specs.{Contents, IsEnvironmental, IsFileOutcome, LeavesSince}
use Rattle.disk.specs.{OnlyLeaves, Slot, State, contents, seen}
use Rattle.disk.specs.MomentsLemmas.{weaker}
use Rattle.disk.specs.StepsLemmas.{read_is_outcome}
use Rattle.byte_fields.specs.declared.format.Format.TheVariants as formats
use Rattle.manifest.specs.declared.error.ManifestError.{ManifestError}
use Rattle.manifest.specs.declared.error.ManifestError.TheVariants as manifest
use Rattle.manifest.specs.declared.upgrade.Upgrade.{Upgrade}
use Rattle.manifest.specs.declared.upgrade.Upgrade.TheVariants as upgrade
use Rattle.manifest.specs.Holds.{SparesOthers}
use Rattle.manifest.specs.{FormatsAreApart, IsLeftOfUpgrade, IsLeftUpgrading, IsUpgradeError}
use Rattle.manifest.specs.{IsUpgradeOf, ManifestRepresents}
use Rattle.manifest.specs.{ManifestRepresentsInEither, NodeVersion, UpgradeRefusal}
use Rattle.store_tables.specs.Errors.{error_of_manifest}
use Rattle.store_tables.specs.declared.error.EngineError.TheVariants as engine
use Rattle.store_files.specs.Files.{Facts}
use Rattle.store_files.specs.StoreFiles.{FilesRepresent, FilesRepresentInEither}
use Rattle.store_files.specs.Upgrades.{FormatsOutlastCrashes, FormatsRepresentAlike}
use Rattle.engine.specs.Upgrades.{ExplainsUpgrade, IsFoundAs, IsUpgradeEnd, IsUpgradeRefusal}
use Rattle.engine.specs.Upgrades.{answer_of}

-- a failure of the disk is told as one, and nothing else is
pub tells_disk : (result : Result Upgrade ManifestError)
    → IsErrOf result manifest.Disk ↔ IsErrOf (answer_of result) engine.Disk
tells_disk (Ok upgrade.Done) = (λ e. absurd cc, λ e. absurd cc)
tells_disk (Ok upgrade.Already) = (λ e. absurd cc, λ e. absurd cc)
tells_disk (Ok upgrade.Exhausted) = (λ e. absurd cc, λ e. absurd cc)
tells_disk (Err manifest.Disk) = (λ e. refl, λ e. refl)
tells_disk (Err manifest.Damaged) = (λ e. absurd cc, λ e. absurd cc)
tells_disk (Err manifest.NotCreated) = (λ e. absurd cc, λ e. absurd cc)
tells_disk (Err manifest.Memory) = (λ e. absurd cc, λ e. absurd cc)
tells_disk (Err manifest.Failed) = (λ e. absurd cc, λ e. absurd cc)
tells_disk (Err manifest.OldFormat) = (λ e. absurd cc, λ e. absurd cc)

-- of any disk it is refused so
pub refused_so : (result : Result Upgrade ManifestError) → IfErr result IsUpgradeError
    → IfErr (answer_of result) IsUpgradeRefusal
refused_so (Ok upgrade.Done) is = tt
refused_so (Ok upgrade.Already) is = tt
refused_so (Ok upgrade.Exhausted) is = inr (inr refl)
refused_so (Err manifest.Disk) is = inl tt
refused_so (Err manifest.Damaged) is = inl tt
refused_so (Err manifest.NotCreated) is = inr (inl refl)
refused_so (Err manifest.Memory) is = inl tt
refused_so (Err manifest.Failed) is = absurd is
refused_so (Err manifest.OldFormat) is = absurd is

-- it tells what the slots were
pub tells_slots : (left : Contents) (new : State) (result : Result Upgrade ManifestError)
    → MatchResult result (λ it. (named : NodeVersion) × IsUpgradeOf left new named it)
    (λ e. UpgradeRefusal e left)
    → MatchResult (answer_of result) (IsFoundAs left new) (λ e. ExplainsUpgrade e left)
tells_slots left new (Ok upgrade.Done) is = is
tells_slots left new (Ok upgrade.Already) is = is
tells_slots left new (Ok upgrade.Exhausted) is = (is.0, is.1.had, is.1.last)
tells_slots left new (Err manifest.Disk) is = tt
tells_slots left new (Err manifest.Damaged) is = is
tells_slots left new (Err manifest.NotCreated) is = is
tells_slots left new (Err manifest.Memory) is = tt
tells_slots left new (Err manifest.Failed) is = is
tells_slots left new (Err manifest.OldFormat) is = is

-- what is said of an answer and of the refusals
ends_so : (left : Contents) (e : ManifestError)
    → IsEnvironmental manifest.Disk manifest.Memory e → IsUpgradeEnd left (error_of_manifest e)
ends_so left e (inl failed) = inl (inl (ap error_of_manifest failed))
ends_so left e (inr memory) = inl (inr (ap error_of_manifest memory))

module _ (alike : FormatsRepresentAlike) (outlast : FormatsOutlastCrashes) (facts : Facts)
    (list : List BatchContent) (old new : State) (spares : SparesOthers old new) where
  -- behind an answer the slots represent the version in format 2, whatever a crash leaves
  in_two : (named : NodeVersion) → OnlyLeaves (ManifestRepresents named) new
      → ManifestRepresentsInEither named (contents old)
      → FilesRepresentInEither facts list (contents old)
      → FilesRepresent facts list (contents new)
  in_two named leaves had files =
      alike facts list named formats.Two (contents old) (contents new) files had
      (leaves (contents new) (λ file. read_is_outcome (new file)))
      (λ file none. ap seen (spares file none))

  pub reads_so : (result : Result Upgrade ManifestError)
      → ((named : NodeVersion) → ManifestRepresentsInEither named (contents old) →
      MatchResult result (IsUpgradeOf (contents old) new named)
      (IsEnvironmental manifest.Disk manifest.Memory))
      → FilesRepresentInEither facts list (contents old)
      → MatchResult (answer_of result) (λ _. FilesRepresent facts list (contents new))
      (IsUpgradeEnd (contents old))
  reads_so (Ok upgrade.Done) did files =
      let named : NodeVersion = record { id = facts.id; version = files.1.version } in
      let had : ManifestRepresentsInEither named (contents old) = (files.0, files.1.manifest) in
      in_two named (did named had).leaves had files
  reads_so (Ok upgrade.Already) did files =
      let named : NodeVersion = record { id = facts.id; version = files.1.version } in
      let had : ManifestRepresentsInEither named (contents old) = (files.0, files.1.manifest) in
      in_two named (did named had).leaves had files
  reads_so (Ok upgrade.Exhausted) did files =
      let named : NodeVersion = record { id = facts.id; version = files.1.version } in
      let lacks = did named (files.0, files.1.manifest) in
      inr (refl, (named, lacks.had, lacks.last))
  reads_so (Err e) did files =
      let named : NodeVersion = record { id = facts.id; version = files.1.version } in
      ends_so (contents old) e (did named (files.0, files.1.manifest))

  -- at every moment files represent the list
  pub moments_so : (past since : List State) → OnlyLeaves (FilesRepresentInEither facts list) old
      → LeavesSince old past new since (IsLeftOfUpgrade old (contents old))
      → LeavesSince old past new since (FilesRepresentInEither facts list)
  moments_so past since only run =
      weaker (IsLeftOfUpgrade old (contents old)) (FilesRepresentInEither facts list) old past new
      since
      (λ left has. elim has [
        | inl was ↦ only left was
        | inr slots ↦
            let on : IsLeftUpgrading old (contents old) slots.0 left = slots.1 in
            elim on.here [
              | inl one ↦ (
                formats.One,
                outlast facts list old slots.0 formats.One left only (formats.One, on.had)
                    (record { here = one.0; others = on.others }),
              )
              | inr two ↦ (
                formats.Two,
                outlast facts list old slots.0 formats.Two left only (formats.One, on.had)
                    (record { here = two.0; others = on.others }),
              )
            ]
      ]) run

  -- files of format 2 stay so
  pub stays_so : FormatsAreApart → (past since : List State)
      → OnlyLeaves (FilesRepresent facts list) old
      → LeavesSince old past new since (IsLeftOfUpgrade old (contents old))
      → LeavesSince old past new since (FilesRepresent facts list)
  stays_so apart past since only run =
      let files = only (contents old) (λ file. read_is_outcome (old file)) in
      let own : NodeVersion = record { id = facts.id; version = files.version } in
      weaker (IsLeftOfUpgrade old (contents old)) (FilesRepresent facts list) old past new since
      (λ left has. elim has [
        | inl was ↦ only left was
        | inr slots ↦
            let on : IsLeftUpgrading old (contents old) slots.0 left = slots.1 in
            let same = (apart formats.One formats.Two slots.0 own (contents old) on.had
            files.manifest).0 in
            absurd cc
      ]) run

  -- and behind an answer in format 2
  durable_in_two : (named : NodeVersion) → OnlyLeaves (ManifestRepresents named) new
      → ManifestRepresentsInEither named (contents old)
      → OnlyLeaves (FilesRepresentInEither facts list) old
      → OnlyLeaves (FilesRepresent facts list) new
  durable_in_two named leaves had only left now =
      outlast facts list old named formats.Two left only had (record {
        here = leaves left now;
        others = λ file none. subst (λ (s : Slot). IsFileOutcome s (left file)) (spares file none)
            (now file);
      })

  pub durable_so : (result : Result Upgrade ManifestError)
      → ((named : NodeVersion) → ManifestRepresentsInEither named (contents old) →
      MatchResult result (IsUpgradeOf (contents old) new named)
      (IsEnvironmental manifest.Disk manifest.Memory))
      → OnlyLeaves (FilesRepresentInEither facts list) old
      → OnOk (answer_of result) (OnlyLeaves (FilesRepresent facts list) new)
  durable_so (Ok upgrade.Done) did only =
      let files = only (contents old) (λ file. read_is_outcome (old file)) in
      let named : NodeVersion = record { id = facts.id; version = files.1.version } in
      let had : ManifestRepresentsInEither named (contents old) = (files.0, files.1.manifest) in
      durable_in_two named (did named had).leaves had only
  durable_so (Ok upgrade.Already) did only =
      let files = only (contents old) (λ file. read_is_outcome (old file)) in
      let named : NodeVersion = record { id = facts.id; version = files.1.version } in
      let had : ManifestRepresentsInEither named (contents old) = (files.0, files.1.manifest) in
      durable_in_two named (did named had).leaves had only
  durable_so (Ok upgrade.Exhausted) did only = tt
  durable_so (Err e) did only = tt
