-- A rise of the floor on a disk with damaged blocks of tables.
use Rattle.std.proofs.Common.{◌≡◌, ◌≢◌, ℕ, List, inl, inr, subst, sym}
use Rattle.std.specs.Prelude.{Contains}
use Rattle.kv_types.specs.{BatchContent}
use Rattle.disk.specs.{Contents, DurableFileIsLeft, IsFileOutcome, IsSameBut}
use Rattle.disk.specs.{LeavesSince, State}
use Rattle.disk.specs.MomentsLemmas.{weaker}
use Rattle.store_model.specs.Claims.{RaisesKeep}
use Rattle.store_model.specs.{LevelTable}
use Rattle.version_edits.specs.declared.line.LogLine.{LogLine}
use Rattle.version_edits.specs.declared.line.TableLine.{TableLine}
use Rattle.manifest.specs.Changes.{IsBeforeOrAfter}
use Rattle.manifest.specs.{Change, EditsKeepVersions, HeldVersionIsLeft, HeldVersionStays}
use Rattle.manifest.specs.{IsSlotFile}
use Rattle.manifest.specs.{IsVersion, ManifestHasFailed, ManifestHolds, ManifestRepresents}
use Rattle.manifest.specs.{NodeVersion, SlotsAreLeft, StoreVersion, counting_file}
use Rattle.store_files.specs.declared.store_files.StoreFiles.{StoreFiles}
use Rattle.store_tables.specs.declared.levels.LevelTables.{LevelTables}
use Rattle.store_files.specs.OpenFiles.{IsAsMeant, WereMeantToHold, known_facts, known_version}
use Rattle.store_files.specs.OpenFiles.{trimmed_count}
use Rattle.store_files.specs.Raising.{MayRise, facts_with_floor, obsolete_files, raise_change}
use Rattle.store_files.specs.Raising.{raised_files}
use Rattle.store_files.specs.Removing.{AreLeftBeside}
use Rattle.store_files.specs.StoreFiles.{WereMeant, WereOneOf}
use Rattle.store_files.specs.Tending.{IsSameBeside}
use Rattle.store_files.proofs.Meant.{as_meant_stays}
use Rattle.store_files.proofs.MeantFiles.{TablesAsMeant, follow_but, follows, left_beside}
use Rattle.store_files.proofs.MeantFiles.{meant_left}
use Rattle.store_files.proofs.MeantFiles.{meant_outcome, named_were_left, still_as_meant}
use Rattle.store_files.proofs.MeantFiles.{tables_left, tables_of_meant}
use Rattle.store_files.proofs.MeantOpenings.{mended, mended_at, mended_beside, slot_beside}
use Rattle.store_files.proofs.MeantTends.{named_of, not_called}
use Rattle.store_files.proofs.NamedFiles.{version_same}
use Rattle.store_files.proofs.NamedHolds.{NamedHold, log_no_slot, named_in, table_no_slot}
use Rattle.store_files.proofs.RaiseEdits.{gone_no_slot, left_apart, table_apart}
use Rattle.store_files.proofs.Raised.{AreRaised, after, after_is, cut, known, named_after}
use Rattle.store_files.proofs.Raised.{raised_hold, raised_left, slots_after, table_stays}

module _ {files : StoreFiles} {floor : ℕ} (may : MayRise files floor) (keeps : RaisesKeep)
    (law : DurableFileIsLeft) (held : HeldVersionIsLeft) (stays : HeldVersionStays)
    (versions : EditsKeepVersions) (list : List BatchContent) (s1 : State)
    (w : WereMeantToHold s1 files list) where
  abbrev version : StoreVersion
  version = (known_version files).version

  abbrev lawful : IsVersion version
  lawful = may.usable.version

  abbrev lawful_after : IsVersion (after may)
  lawful_after = after_is may versions

  abbrev id : ℕ
  id = (known_version files).id

  abbrev m1 : State
  m1 = w.meant

  abbrev tables : List LevelTable
  tables = w.hold.known.tables

  -- files that were meant to be of the list, with the old facts or with the new ones
  abbrev pub WereEither : Contents → Type 0
  WereEither = WereOneOf (known_facts files) list (facts_with_floor files floor) list

  named : NamedHold m1 version files.logs (trimmed_count files) tables list
  named = named_of m1 files list w.hold.known

  t1 : TablesAsMeant s1 m1 version.tables
  t1 = tables_of_meant s1 m1 version files.tables w.disk_is

  -- before the first call
  pub none_was_raised : (past : List State) → LeavesSince s1 past s1 past WereEither
  none_was_raised past =
      weaker (WereMeant (known_facts files) list) WereEither s1 past s1 past (λ left at. inl at)
      (not_called s1 files list w law held past)

  -- ---- the record

  -- where slots represent the new version, a crash leaves files that were meant to represent the
  -- list
  raised_were_left : (left : Contents)
      → ManifestRepresents (record { id = id; version = after may }) left
      → ((line : LogLine) → Contains version.logs line
      → IsFileOutcome (s1 line.file) (left line.file))
      → ((line : TableLine) → Contains version.tables line
      → IsFileOutcome (s1 line.file) (left line.file))
      → WereMeant (facts_with_floor files floor) list left
  unfolding raised_left
  raised_were_left left manifest log_left table_left = record {
    meant = meant_left s1 m1 version.tables t1 left;
    represents = raised_left may m1 tables list named w.hold.known.count keeps law
        (meant_left s1 m1 version.tables t1 left)
        (version_same left (meant_left s1 m1 version.tables t1 left)
        (λ slot one. left_beside s1 m1 version.tables t1 left slot
        (slot_beside version lawful slot one)) (record { id = id; version = after may }) manifest)
        (λ line has. meant_outcome s1 m1 version.tables t1 left line.file (log_left line has))
        (λ line has. meant_outcome s1 m1 version.tables t1 left line.file (table_left line has));
    others = λ file beside. sym (left_beside s1 m1 version.tables t1 left file beside);
    tables = tables_left s1 m1 version.tables t1 left law named.durable table_left;
  }

  -- while the edit is recorded
  pub raise_was_recorded : (edit : Change) → edit ≡ raise_change version floor
      → (past since : List State) (s2 : State) → LeavesSince s1 past s2 since
      (SlotsAreLeft s1 (IsBeforeOrAfter edit (known_version files)))
      → LeavesSince s1 past s2 since WereEither
  raise_was_recorded edit is past since s2 run =
      weaker (SlotsAreLeft s1 (IsBeforeOrAfter edit (known_version files))) WereEither s1 past s2
      since
      (λ left at. elim at.here as (λ _. WereEither left) [
        | inl old ↦ inl (named_were_left s1 m1 version lawful files.logs (trimmed_count files)
            tables list named t1 law id left old
            (λ line has. at.others line.file (log_no_slot version lawful line has))
            (λ line has. at.others line.file (table_no_slot version lawful line has)))
        | inr new ↦ inr (raised_were_left left (slots_after may edit is left new)
            (λ line has. at.others line.file (log_no_slot version lawful line has))
            (λ line has. at.others line.file (table_no_slot version lawful line has)))
      ]) run

  -- ---- the logs that are given up

  module _ (new : StoreFiles) (r : AreRaised floor files new)
      (slot : IsSlotFile (counting_file files.manifest)) where
    -- while they are removed
    pub logs_were_removed : (s2 : State) → IsSameBut (counting_file files.manifest) s1 s2
        → ManifestHolds s2 new.manifest (known_version new) → (past since : List State)
        (s3 : State) → LeavesSince s2 past s3 since (AreLeftBeside (obsolete_files files floor) s2)
        → LeavesSince s2 past s3 since WereEither
    logs_were_removed s2 same holds past since s3 run =
        let m2 = mended version.tables m1 s2 in
        let spares = follow_but s1 m1 version.tables t1 s2 (counting_file files.manifest) same in
        let table_no : (line : TableLine) → Contains version.tables line
        → line.file ≢ counting_file files.manifest = λ line has is.
        table_no_slot version lawful line has (subst IsSlotFile (sym is) slot) in
        let t2 = still_as_meant s1 m1 version.tables t1 s2
        (λ line has. same line.file (table_no line has)) in
        let later = named_in m1 (after may) new.logs (cut may) tables list
        (named_after may new r m1 tables list named w.hold.known.count keeps) m2
        (λ line has. spares line.file (λ is. log_no_slot (after may) lawful_after line has
        (subst IsSlotFile (sym is) slot)))
        (λ line has. spares line.file (table_no line has)) in
        weaker (AreLeftBeside (obsolete_files files floor) s2) WereEither s2 past s3 since
        (λ left at. inr (named_were_left s2 m2 (after may) lawful_after new.logs (cut may) tables
        list later t2 law id left
        (subst (λ (n : NodeVersion). ManifestRepresents n left) (known may new r)
        (held s2 new.manifest (known_version new) left holds
        (λ one is. at one (λ gone. gone_no_slot version lawful floor one gone is))))
        (λ line has. at line.file (left_apart version lawful floor line has))
        (λ line has. at line.file (table_apart version lawful floor line has)))) run

    -- the open files were meant to hold the list then
    pub raised_as_meant : (s3 : State) → IsSameBeside (raised_files files floor) s1 s3
        → (ManifestHasFailed new.manifest → ⊥) → ManifestHolds s3 new.manifest (known_version new)
        → WereMeantToHold s3 new list
    raised_as_meant s3 same works holds =
        let m3 = mended version.tables m1 s3 in
        let stay = as_meant_stays s1 s3 m1 m3 version files.tables tables w.hold.known.read
        w.hold.known.served (table_stays may new r s1 s3 slot same versions)
        (λ line has. mended_at version.tables m1 s3 line has)
        (λ file beside. sym (mended_beside version.tables m1 s3 file beside)) w.disk_is in
        record {
          meant = m3;
          hold = raised_hold may new r m1 m3 slot
              (λ file other. follows s1 m1 version.tables t1 s3 file (same file other)) versions
              list w.hold keeps works (stays s3 m3 new.manifest (known_version new) holds
              (λ one is. mended_beside version.tables m1 s3 one
              (slot_beside version lawful one is)));
          disk_is = subst (λ (n : NodeVersion). IsAsMeant s3 m3 n.version new.tables)
              (sym (known may new r)) (subst (λ (t : LevelTables). IsAsMeant s3 m3 (after may) t)
              (sym r.tables) (record {
                others = stay.others;
                tables = stay.tables;
                blocks = stay.blocks;
                durable = stay.durable;
              }));
        }
