-- Which files count for what files were meant to represent, and how these open.
use Rattle.std.proofs.Common.{◌≡◌, ◌≢◌, ℕ, List, Option, refl, sym, ◌∙◌}
use Rattle.std.proofs.Common.{ap, subst, drop, length, suc, inl, inr, arith, ◌+◌, ◌-◌}
use Rattle.std.proofs.lemmas.List.{length-drop}
use Rattle.std.specs.Prelude.{All, Contains}
use Rattle.std.proofs.lemmas.List.Elements.{All-contains, All-contains_itself}
use Rattle.std.proofs.lemmas.List.Elements.{All-weaker}
use Rattle.kv_types.specs.{BatchContent}
use Rattle.disk.specs.Crashes.{durable}
use Rattle.disk.specs.{Contents, contents, seen}
use Rattle.manifest.specs.declared.TableLine.{TableLine}
use Rattle.disk.specs.Moments.{LooksAt}
use Rattle.manifest.specs.{IsVersion}
use Rattle.manifest.specs.{ManifestRepresents, NodeVersion, StoreVersion, VersionIsOne}
use Rattle.manifest.specs.{VersionsAreLawful}
use Rattle.store_files.specs.Files.{Facts}
use Rattle.store_tables.specs.LevelTables.{IsTableAsMeant}
use Rattle.store_files.specs.StoreFiles.{AreOrderedNumbers, DamagedFilesOpen, IsStoreFile}
use Rattle.store_files.specs.StoreFiles.{NamesStoreFile, WereMeant, WereOneOf, durably}
use Rattle.store_files.proofs.NamedFiles.{files_are_named}
use Rattle.store_files.proofs.ReadFiles.{kept_few}
use Rattle.store_files.proofs.ReadFiles.{ordered_of}
use Rattle.store_files.proofs.MeantOpenings.{batches_were, log_beside, mended, mended_at}
use Rattle.store_files.proofs.MeantOpenings.{mended_beside, seen_durable, slot_beside}
use Rattle.store_files.proofs.MeantOpenings.{slots_are_meant}

-- ---- which files it looks at

module _ (one : VersionIsOne) (lawful : VersionsAreLawful) (facts : Facts)
    (list : List BatchContent) (left other : Contents)
    (agree : (file : ℕ) → IsStoreFile left file → other file ≡ left file)
    (w : WereMeant facts list left) where
  abbrev its_version : StoreVersion
  its_version = w.represents.version

  abbrev its_named : NodeVersion
  its_named = record { id = facts.id; version = its_version }

  is_lawful : IsVersion its_version
  is_lawful = lawful its_named w.meant w.represents.manifest

  slots_there : ManifestRepresents its_named left
  slots_there = slots_are_meant facts list left w is_lawful

  abbrev its_meant : Contents
  its_meant = contents (mended its_version.tables (durably w.meant) (durably other))

  meant_beside : (file : ℕ) → All (λ line. line.file ≢ file) its_version.tables
      → its_meant file ≡ other file
  meant_beside file beside =
      ap seen (mended_beside its_version.tables (durably w.meant) (durably other) file beside)
      ∙ seen_durable (other file)

  meant_at : (line : TableLine) → Contains its_version.tables line
      → its_meant line.file ≡ w.meant line.file
  meant_at line has =
      ap seen (mended_at its_version.tables (durably w.meant) (durably other) line has)
      ∙ seen_durable (w.meant line.file)

  -- the named files are in what was meant as they were
  meant_agrees : (file : ℕ) → IsStoreFile w.meant file → its_meant file ≡ w.meant file
  meant_agrees file (inl slot) =
      let beside = slot_beside its_version is_lawful file slot in
      meant_beside file beside ∙ agree file (inl slot) ∙ w.others file beside
  meant_agrees file (inr (n, represents, names)) =
      let same = one n its_named w.meant represents w.represents.manifest in
      elim (subst (λ (v : NodeVersion). NamesStoreFile v.version file) same names) [
        | inl (line, has, at) ↦
            let beside = log_beside its_version is_lawful line has in
            subst (λ (f : ℕ). its_meant f ≡ w.meant f) at (meant_beside line.file beside
            ∙ agree line.file (inr (its_named, slots_there, inl (line, has, refl)))
            ∙ w.others line.file beside)
        | inr (line, has, at) ↦
            subst (λ (f : ℕ). its_meant f ≡ w.meant f) at (meant_at line has)
      ]

  -- so are files that were meant to represent a list where these are the same
  pub still_were_meant : WereMeant facts list other
  unfolding files_are_named
  still_were_meant = record {
    meant = its_meant;
    represents = files_are_named facts list w.meant its_meant meant_agrees w.represents;
    others = λ file beside. sym (meant_beside file beside);
    tables = All-weaker (Contains its_version.tables)
        (λ (line : TableLine). IsTableAsMeant (durably other line.file)
        (durably its_meant line.file))
        (λ line has.
        subst (λ (o : Option (List ℕ)). IsTableAsMeant (durable o) (durably its_meant line.file))
        (sym (agree line.file (inr (its_named, slots_there, inr (line, has, refl)))))
        (subst (λ (o : Option (List ℕ)). IsTableAsMeant (durably left line.file) (durable o))
        (sym (meant_at line has))
        (All-contains (λ (it : TableLine). IsTableAsMeant (durably left it.file)
        (durably w.meant it.file)) its_version.tables line w.tables has))) its_version.tables
        (All-contains_itself its_version.tables);
  }

-- .. of one of two stores
pub were_one_is_named : VersionIsOne → VersionsAreLawful → (facts : Facts)
    (list : List BatchContent) (facts' : Facts) (list' : List BatchContent)
    → LooksAt IsStoreFile (WereOneOf facts list facts' list')
were_one_is_named one lawful facts list facts' list' left other agree (inl w) =
    inl (still_were_meant one lawful facts list left other agree w)
were_one_is_named one lawful facts list facts' list' left other agree (inr w) =
    inr (still_were_meant one lawful facts' list' left other agree w)

-- ---- files of which only blocks of tables are damaged

-- they open as the list
pub damaged_open : VersionsAreLawful → DamagedFilesOpen
damaged_open lawful facts list left w fits =
    let h = w.represents in
    let is = lawful (record { id = facts.id; version = h.version }) w.meant h.manifest in
    let had = batches_were facts list left w is in
    let behind = length-drop facts.kept list in
    let less = kept_few facts list w.meant h in
    let total : suc facts.kept - 1 + length (drop facts.kept list) ≡ length list =
    omega (arith, behind, less) in
    let back : suc facts.kept - 1 ≡ facts.kept = omega arith in
    record {
      version = h.version;
      manifest = slots_are_meant facts list left w is;
      epoch = h.epoch;
      ids = h.ids;
      floor = h.floor;
      batches = drop facts.kept list;
      logs = had.have;
      each = had.each;
      counted = omega (arith, behind, less);
      numbers = subst (λ (k : ℕ). AreOrderedNumbers h.version k (length list)) back
          (subst (AreOrderedNumbers h.version (suc facts.kept - 1)) total
          (ordered_of facts list w.meant h));
      tables = fits;
    }
