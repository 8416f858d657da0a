-- An adoption: its edit, what a crash leaves while it is recorded, and the open files behind it.
use Rattle.std.proofs.Common.{◌≡◌, ◌<◌, ◌≤◌, ◌∙◌, ℕ, List, [], ◌∷◌, ap, arith, inl, inr, length}
use Rattle.std.proofs.Common.{refl, subst, sym, true}
use Rattle.std.specs.Prelude.{Contains, nat_lt}
use Rattle.std.proofs.lemmas.Bool.{and_parts}
use Rattle.std.proofs.lemmas.List.Elements.{All-nil}
use Rattle.kv_types.specs.{BatchContent, is_part}
use Rattle.configurations.specs.NodeLists.{leaves_out}
use Rattle.configurations.specs.{IsConfig}
use Rattle.disk.specs.{Contents, DurableFileIsLeft, IsFileOutcome, IsSameBut, LeavesSince, State}
use Rattle.disk.specs.MomentsLemmas.{weaker}
use Rattle.version_edits.specs.Versions.{AreLawful, keeps_ids}
use Rattle.version_edits.specs.declared.line.LogLine.{LogLine}
use Rattle.version_edits.specs.declared.line.TableLine.{TableLine}
use Rattle.manifest.specs.Changes.{IsBeforeOrAfter}
use Rattle.manifest.specs.VersionsLemmas.{all_logs_left, all_tables_left}
use Rattle.manifest.specs.declared.Manifest.{Manifest}
use Rattle.manifest.specs.{Change, EditsKeepVersions, HeldVersionIsLeft, HeldVersionStays, IsChange}
use Rattle.manifest.specs.{IsFit, IsLogLine, IsSlotFile, IsVersion, ManifestHolds}
use Rattle.manifest.specs.{ManifestRepresents, NodeVersion, SlotsAreLeft, StoreVersion, changed}
use Rattle.manifest.specs.{counting_file, node_version_after}
use Rattle.store_model.specs.{LevelTable}
use Rattle.batch_logs.specs.declared.batch_logs.BatchLogs.{BatchLogs}
use Rattle.store_files.specs.declared.store_files.StoreFiles.{StoreFiles}
use Rattle.store_files.specs.Adopting.{IsConfigEdit, adopted_files, config_change}
use Rattle.store_files.specs.Adopting.{facts_with_config, with_config}
use Rattle.store_files.specs.Files.{Facts}
use Rattle.store_files.specs.OpenFiles.{FilesHold, WereMeantToHold, known_facts, known_store}
use Rattle.store_files.specs.OpenFiles.{known_version, trimmed_count}
use Rattle.store_files.specs.StoreFiles.{FilesRepresent, IsOneOf, WereMeant, WereOneOf}
use Rattle.store_files.specs.Tending.{IsSameBeside}
use Rattle.store_files.proofs.KeptFiles.{HoldsLater, with_manifest}
use Rattle.store_files.proofs.MeantFiles.{named_were_left, tables_of_meant}
use Rattle.store_files.proofs.MeantTends.{MeantLater, named_of, not_called, recorded_meant}
use Rattle.store_files.proofs.NamedHolds.{NamedHold, log_no_slot, named_left, table_no_slot}
use Rattle.store_files.proofs.Tends.{nothing_called, recorded_later}

-- ---- the edit

-- a configuration with ids left out keeps the others
keeps_fewer : (own ids : List ℕ) → leaves_out ids own ≡ true → keeps_ids own ids ≡ true
keeps_fewer [] ids fewer = refl
keeps_fewer (id ∷ own) ids fewer =
    (and_parts (is_part ids (id ∷ own)) (nat_lt (length ids) (length (id ∷ own))) fewer).0

module _ (version : StoreVersion) (epoch : ℕ) (ids : List ℕ) where
  -- the version with the new configuration
  abbrev after : StoreVersion
  after = record version { epoch = epoch; ids = ids }

  -- it is the one after the edit
  pub config_is : changed version (config_change version epoch ids) ≡ after
  config_is =
      let all = (changed version (config_change version epoch ids)).tables in
      ap (λ (l : List LogLine). record after { logs = l; tables = all })
      (all_logs_left version.logs)
      ∙ ap (λ (t : List TableLine). record after { tables = t }) (all_tables_left version.tables)

  module _ (is : IsVersion version) where
    -- the version may take it
    pub config_fit : version.epoch < epoch → leaves_out ids version.ids ≡ true →
        IsFit version (config_change version epoch ids)
    config_fit later fewer = record {
      numbers = record {
        next_file = omega arith;
        floor = omega arith;
        flushed = omega arith;
        epoch = omega (arith, later);
      };
      ids = keeps_fewer version.ids ids fewer;
      there = record { logs = refl; logs_once = refl; tables = refl; tables_once = refl };
      new = record { logs = refl; tables = refl };
      lawful = subst (λ (v : StoreVersion). AreLawful v.logs v.tables) (sym config_is) is.lawful;
    }

    pub config_change_is : epoch ≤ 15 → IsConfig ids → IsChange (config_change version epoch ids)
    config_change_is few config = record {
      next_file = is.next_file;
      floor = is.floor;
      flushed = is.flushed;
      epoch = few;
      ids = config;
      logs_gone = (omega arith, All-nil _);
      logs_added = (omega arith, All-nil IsLogLine);
      tables_gone = (omega arith, All-nil _);
      tables_added = (omega arith, All-nil _);
    }

-- ---- the version after it

-- what changed the counting slot alone changed no other file than an adoption may
pub slot_alone : (files : StoreFiles) (old new : State) →
    IsSameBut (counting_file files.manifest) old new → IsSameBeside (adopted_files files) old new
slot_alone files old new same file other = same file (λ is. other (0, omega arith, sym is))

-- the files that a version names hold the same with any configuration
named_with_config : {disk : State} {version : StoreVersion} {logs : BatchLogs} {trimmed : ℕ}
    {tables : List LevelTable} {list : List BatchContent} (epoch : ℕ) (ids : List ℕ) →
    NamedHold disk version logs trimmed tables list →
    NamedHold disk (record version { epoch = epoch; ids = ids }) logs trimmed tables list
named_with_config epoch ids h = record {
  lines = h.lines;
  held = h.held;
  read = h.read;
  durable = h.durable;
  store = h.store;
  each = h.each;
  few = h.few;
}

module _ {files : StoreFiles} {epoch : ℕ} {ids : List ℕ} {edit : Change}
    (it : IsConfigEdit files epoch ids edit) where
  abbrev known : NodeVersion
  known = known_version files

  abbrev version : StoreVersion
  version = (known_version files).version

  abbrev adopted : NodeVersion
  adopted = with_config known epoch ids

  pub adopted_is : node_version_after known edit ≡ adopted
  adopted_is =
      ap (λ (e : Change). node_version_after known e) it.is
      ∙ ap (λ (v : StoreVersion). record { id = known.id; version = v })
      (config_is version epoch ids)

  pub adopted_lawful : EditsKeepVersions → IsVersion version → IsVersion adopted.version
  adopted_lawful versions lawful =
      subst (λ (n : NodeVersion). IsVersion n.version) adopted_is
      (versions version edit lawful it.fit it.within)

  -- ---- moments

  module _ (law : DurableFileIsLeft) (list : List BatchContent) (s1 : State)
      (past since : List State) (s2 : State)
      (run : LeavesSince s1 past s2 since (SlotsAreLeft s1 (IsBeforeOrAfter edit known))) where
    -- slots that represent the version after the edit
    recorded : (left : Contents) → ManifestRepresents (node_version_after known edit) left →
        ManifestRepresents adopted left
    recorded left represents =
        subst (λ (n : NodeVersion). ManifestRepresents n left) adopted_is represents

    -- while the edit is recorded, a crash leaves files of the list, with the old facts or the new
    pub config_is_recorded : FilesHold s1 files list → LeavesSince s1 past s2 since
        (IsOneOf (known_facts files) list (facts_with_config (known_facts files) epoch ids) list)
    config_is_recorded h =
        let trimmed = trimmed_count files in
        let own = h.known.usable.version in
        let tables = h.known.tables in
        let named = named_of s1 files list h.known in
        weaker (SlotsAreLeft s1 (IsBeforeOrAfter edit known))
        (IsOneOf (known_facts files) list (facts_with_config (known_facts files) epoch ids) list)
        s1 past s2 since
        (λ left at.
        let log_left : (line : LogLine) → Contains version.logs line →
        IsFileOutcome (s1 line.file) (left line.file) = λ line has.
        at.others line.file (log_no_slot version own line has) in
        let table_left : (line : TableLine) → Contains version.tables line →
        IsFileOutcome (s1 line.file) (left line.file) = λ line has.
        at.others line.file (table_no_slot version own line has) in
        elim at.here as (λ _. IsOneOf (known_facts files) list
        (facts_with_config (known_facts files) epoch ids) list left) [
          | inl old ↦ inl (named_left s1 version files.logs trimmed tables list named law known.id
              left old log_left table_left)
          | inr new ↦ inr (named_left s1 adopted.version files.logs trimmed tables list
              (named_with_config epoch ids named) law known.id left (recorded left new) log_left
              table_left)
        ]) run

    -- or ones that were meant to be of it
    pub config_was_recorded : EditsKeepVersions → WereMeantToHold s1 files list →
        LeavesSince s1 past s2 since
        (WereOneOf (known_facts files) list (facts_with_config (known_facts files) epoch ids) list)
    config_was_recorded versions w =
        let trimmed = trimmed_count files in
        let own = w.hold.known.usable.version in
        let tables = w.hold.known.tables in
        let named = named_of w.meant files list w.hold.known in
        let t = tables_of_meant s1 w.meant version files.tables w.disk_is in
        weaker (SlotsAreLeft s1 (IsBeforeOrAfter edit known))
        (WereOneOf (known_facts files) list (facts_with_config (known_facts files) epoch ids) list)
        s1 past s2 since
        (λ left at.
        let log_left : (line : LogLine) → Contains version.logs line →
        IsFileOutcome (s1 line.file) (left line.file) = λ line has.
        at.others line.file (log_no_slot version own line has) in
        let table_left : (line : TableLine) → Contains version.tables line →
        IsFileOutcome (s1 line.file) (left line.file) = λ line has.
        at.others line.file (table_no_slot version own line has) in
        elim at.here as (λ _. WereOneOf (known_facts files) list
        (facts_with_config (known_facts files) epoch ids) list left) [
          | inl old ↦ inl (named_were_left s1 w.meant version own files.logs trimmed tables list
              named t law known.id left old log_left table_left)
          | inr new ↦ inr (named_were_left s1 w.meant adopted.version (adopted_lawful versions own)
              files.logs trimmed tables list (named_with_config epoch ids named) t law known.id
              left (recorded left new) log_left table_left)
        ]) run

  -- ---- the open files behind the record

  module _ (versions : EditsKeepVersions) (list : List BatchContent) (s1 s2 : State)
      (manifest : Manifest) (slot : IsSlotFile (counting_file files.manifest))
      (spares : IsSameBut (counting_file files.manifest) s1 s2)
      (holds : ManifestHolds s2 manifest (node_version_after known edit)) where
    holds_config : ManifestHolds s2 manifest adopted
    holds_config = subst (ManifestHolds s2 manifest) adopted_is holds

    -- they hold what they held, and a merge can end as before
    pub adopted_later : (h : FilesHold s1 files list) →
        HoldsLater (known_store files h.known.tables) s2 (with_manifest files manifest) list
    adopted_later h = recorded_later s1 files list h epoch ids
        (adopted_lawful versions h.known.usable.version) s2 manifest
        (counting_file files.manifest) slot spares holds_config

    -- and were meant to hold what they were
    pub adopted_meant : HeldVersionStays → (w : WereMeantToHold s1 files list) →
        MeantLater (known_store files w.hold.known.tables) s2 (with_manifest files manifest) list
    adopted_meant stays w = recorded_meant s1 files list w stays epoch ids
        (adopted_lawful versions w.hold.known.usable.version) s2 manifest
        (counting_file files.manifest) slot spares holds_config

-- before the first call it leaves the old facts
module _ {files : StoreFiles} (facts : Facts) (law : DurableFileIsLeft) (held : HeldVersionIsLeft)
    (list : List BatchContent) (s1 : State) (past : List State) where
  pub none_adopted : FilesHold s1 files list →
      LeavesSince s1 past s1 past (IsOneOf (known_facts files) list facts list)
  none_adopted h = weaker (FilesRepresent (known_facts files) list)
      (IsOneOf (known_facts files) list facts list) s1 past s1 past (λ left at. inl at)
      (nothing_called s1 files list h law held past)

  pub none_was_adopted : WereMeantToHold s1 files list →
      LeavesSince s1 past s1 past (WereOneOf (known_facts files) list facts list)
  none_was_adopted w = weaker (WereMeant (known_facts files) list)
      (WereOneOf (known_facts files) list facts list) s1 past s1 past (λ left at. inl at)
      (not_called s1 files list w law held past)
