use Rattle.std.proofs.Common.{◌∙◌, ℕ, suc, drop, inl, subst, sym, Ok}
use Rattle.disk.specs.{IsEnvironmental, contents}
use Rattle.disk.specs.KeepingLemmas.{kept_as, kept_behind, neither}
use Rattle.disk.specs.StillLemmas.{still_more}
use Rattle.manifest.specs.{NodeVersion, version_of}
use Rattle.store_files.specs.Files.{IsOwned}
use Rattle.store_files.specs.OpenFiles.{AreUsableFiles, FilesAreRead, FilesOpenAs, OpeningRefusal}
use Rattle.store_files.specs.OpenFiles.{IsOpeningError, OpensFor, WereMeantToRead}
use Rattle.store_files.specs.Openings.{AreParts, HasParts, PartsHold, PartsWereMeant, WereParts}
use Rattle.store_files.specs.StoreFiles.{durably}
use Rattle.store_files.proofs.BegunFiles.{manifest_failed, manifest_is_external}
use Rattle.store_files.proofs.BegunFiles.{manifest_refuses}
use Rattle.store_tables.specs.declared.error.EngineError.TheVariants as engine
use Rattle.store_tables.specs.RefusalLemmas.{answers_nothing, done, if_refuses, passed_on}
use Rattle.store_tables.specs.RefusalLemmas.{refuses}
use Rattle.store_files.proofs.MeantOpenings.{asked_as_meant, read_as_meant, slots_are_meant}
use Rattle.store_files.proofs.ReadFiles.{files_with}
use Rattle.store_files.proofs.ReadAnswers.{asked, end_explained, opens_as, parts_then}
use Rattle.store_files.proofs.ReadFiles.{read_alike, read_as, slots_stay}
use Rattle.store_files.proofs.ReadAnswers.{slots_explained}
use Rattle.store_files.proofs.ReadAnswers.{usable_of}
use Rattle.store_files.proofs.opening.read_files.Goals as goal

-- slots that represent a version are opened
pub returns-in_err-manifest-clause-opens : goal.returns-in_err-manifest-clause-opens
returns-in_err-manifest-clause-opens g c = record {
  kept =
      kept_as g.D.Disk (manifest_failed c.open.result c.in_err-manifest.field-0.0
      c.from_residual.result c.in_err-manifest.was c.from_residual.ensures.1) (λ a b it. tt)
      c.open.ensures.reads.kept;
  causes = if_refuses c.from_residual.result IsOpeningError c.from_residual.ensures.1
      (manifest_refuses c.in_err-manifest.field-0.0 c.in_err-manifest.ensures.reads.causes);
  opened = λ facts list honest. record {
    whole = λ h. refuses c.from_residual.result _
        (IsEnvironmental engine.Disk engine.Memory) c.from_residual.ensures.1
        (manifest_is_external c.in_err-manifest.field-0.0 (c.in_err-manifest.ensures.opened
        (record { id = facts.id; version = h.version }) honest h.manifest));
    meant = λ w. answers_nothing c.from_residual.result _ _ c.from_residual.ensures.1;
  };
  told = λ honest.
      let left = contents (g.D.Disk.state c.args.disk.now) in
      refuses c.from_residual.result (FilesOpenAs left) (λ e. OpeningRefusal e left)
      c.from_residual.ensures.1 (slots_explained c.in_err-manifest.field-0.0 left
      (c.in_err-manifest.ensures.told honest));
  usable = answers_nothing c.from_residual.result _ AreUsableFiles c.from_residual.ensures.1;
}

-- and so are the files that the version names
pub returns-in_err-parts-clause-opens : goal.returns-in_err-parts-clause-opens
returns-in_err-parts-clause-opens g c = record {
  kept =
      kept_behind g.D.Disk (λ a b d before after. tt) c.in_ok-manifest.ensures.reads.kept
      (λ fails. cc) (kept_as g.D.Disk {Q = IsOwned} (passed_on c.read_parts.result
      c.in_err-parts.field-0.0 c.from_residual-in_err-parts.result c.in_err-parts.was
      c.from_residual-in_err-parts.ensures.1) (λ a b it. tt) c.read_parts.ensures.reads.kept);
  causes = if_refuses c.from_residual-in_err-parts.result IsOpeningError
      c.from_residual-in_err-parts.ensures.1 (inl c.in_err-parts.ensures.reads.causes);
  opened = λ facts list honest. record {
    whole = λ h.
        let s0 = g.D.Disk.state c.args.disk.now in
        let s1 = g.D.Disk.state c.open.new.disk in
        let is = c.version_is_one.ensures.lawful (record { id = facts.id; version = h.version })
        (contents s0) h.manifest in
        let held = c.in_ok-manifest.ensures.opened (record { id = facts.id; version = h.version })
        honest h.manifest in
        let spares = c.open.ensures.reads.kept.files honest in
        let ask = asked s0 s1 spares facts list h is c.state.result.now
        (c.state.ensures ∙ held.knows) in
        refuses c.from_residual-in_err-parts.result _ (IsEnvironmental engine.Disk engine.Memory)
        c.from_residual-in_err-parts.ensures.1 (c.in_err-parts.ensures.opened (suc facts.kept)
        (drop facts.kept list) h.tables (c.open.ensures.reads.kept.honest.1 honest) ask.0 ask.1
        ask.2);
    meant = λ w. answers_nothing c.from_residual-in_err-parts.result _ _
        c.from_residual-in_err-parts.ensures.1;
  };
  told = λ honest.
      let s0 = g.D.Disk.state c.args.disk.now in
      let s1 = g.D.Disk.state c.open.new.disk in
      let left = contents s0 in
      let had = (c.in_ok-manifest.ensures.told honest).had in
      refuses c.from_residual-in_err-parts.result (FilesOpenAs left) (λ e. OpeningRefusal e left)
      c.from_residual-in_err-parts.ensures.1 (end_explained c.in_err-parts.field-0.0 left
      c.in_err-parts.ensures.reads.causes (c.version_is_one.ensures.created _ left had)
      (λ old. (c.version_is_one.ensures.old left old).1 _ had)
      (λ facts count opens.
      let named : NodeVersion = record { id = facts.id; version = opens.version } in
      let is = c.version_is_one.ensures.lawful named left opens.manifest in
      let held = c.in_ok-manifest.ensures.opened named honest opens.manifest in
      c.in_err-parts.ensures.told (c.open.ensures.reads.kept.honest.1 honest)
      (subst (λ (n : NodeVersion). HasParts (contents s1) n.version)
      (sym (c.state.ensures ∙ held.knows))
      (parts_then s0 s1 (c.open.ensures.reads.kept.files honest) facts count opens is))));
  usable = answers_nothing c.from_residual-in_err-parts.result _ AreUsableFiles
      c.from_residual-in_err-parts.ensures.1;
}

pub returns-in_err-parts-clause-still : goal.returns-in_err-parts-clause-still
returns-in_err-parts-clause-still g c = λ honest.
    still_more (c.open.ensures.reads.still honest)
    (c.read_parts.ensures.reads.still (c.open.ensures.reads.kept.honest.1 honest))

pub returns-clause-still : goal.returns-clause-still
returns-clause-still g c = λ honest.
    still_more (c.open.ensures.reads.still honest)
    (c.read_parts.ensures.reads.still (c.open.ensures.reads.kept.honest.1 honest))

-- the slots represented the version, and the files were those that it names
pub returns-clause-opens : goal.returns-clause-opens
returns-clause-opens g c = record {
  kept =
      kept_behind g.D.Disk (λ a b d before after. tt) c.in_ok-manifest.ensures.reads.kept
      (λ fails. cc) (kept_as g.D.Disk {Q = IsOwned} (neither done done) (λ a b it. tt)
      c.in_ok-parts.ensures.reads.kept);
  causes = tt;
  -- and hold the list that they represented, or were meant to represent
  opened = λ facts list honest.
      let s0 = g.D.Disk.state c.args.disk.now in
      let s1 = g.D.Disk.state c.open.new.disk in
      let s2 = g.D.Disk.state c.read_parts.new.disk in
      let manifest = c.in_ok-manifest.manifest in
      let parts = c.in_ok-parts.parts in
      let honest1 = c.open.ensures.reads.kept.honest.1 honest in
      let spares = c.open.ensures.reads.kept.files honest in
      let stays = c.held_versions_are_left.ensures.same in
      let first = suc facts.kept in
      let batches = drop facts.kept list in
      let usable = usable_of manifest parts c.in_ok-manifest.ensures.works
      (subst (λ (n : NodeVersion). AreParts n.version parts) c.state.ensures
      c.in_ok-parts.ensures.usable) in
      subst (λ (n : ℕ). OpensFor facts list (contents s0) (λ files. FilesAreRead s2 files list)
      (λ files. WereMeantToRead s2 files list) (Ok (files_with manifest parts n)))
      (sym c.next_file_of-free_file.ensures) (record {
        whole = λ h.
            let named : NodeVersion = record { id = facts.id; version = h.version } in
            let is = c.version_is_one.ensures.lawful named (contents s0) h.manifest in
            let held = c.in_ok-manifest.ensures.opened named honest h.manifest in
            let same = c.state.ensures ∙ held.knows in
            let ask = asked s0 s1 spares facts list h is c.state.result.now same in
            let hold = subst
            (λ (n : NodeVersion). PartsHold s2 n.version first batches h.tables parts) same
            (c.in_ok-parts.ensures.opened first batches h.tables honest1 ask.0 ask.1 ask.2) in
            let were = subst (λ (n : NodeVersion). WereParts s1 s2 n.version parts) same
            (c.in_ok-parts.ensures.told honest1) in
            read_as facts list (contents s0) h c.replays_agree.ensures s2 manifest parts usable
            (slots_stay stays s1 s2 manifest named held were.each) hold;
        meant = λ w.
            let h = w.represents in
            let named : NodeVersion = record { id = facts.id; version = h.version } in
            let is = c.version_is_one.ensures.lawful named w.meant h.manifest in
            let held = c.in_ok-manifest.ensures.opened named honest
            (slots_are_meant facts list (contents s0) w is) in
            let same = c.state.ensures ∙ held.knows in
            let ask = asked_as_meant s0 s1 spares facts list w is c.state.result.now same in
            let were_parts = subst (λ (n : NodeVersion).
            PartsWereMeant s2 (durably w.meant) n.version
            first batches h.tables parts) same (c.in_ok-parts.ensures.meant (durably w.meant) first
            batches h.tables honest1 ask.0 ask.1 ask.2) in
            let were = subst (λ (n : NodeVersion). WereParts s1 s2 n.version parts) same
            (c.in_ok-parts.ensures.told honest1) in
            read_as_meant facts list (contents s0) w is s2 manifest parts were_parts usable
            (slots_stay stays s1 s2 manifest named held were.each)
            c.replays_agree.ensures stays;
      });
  told = λ honest.
      let s0 = g.D.Disk.state c.args.disk.now in
      let s1 = g.D.Disk.state c.open.new.disk in
      let s2 = g.D.Disk.state c.read_parts.new.disk in
      let parts = c.in_ok-parts.parts in
      let had = (c.in_ok-manifest.ensures.told honest).had in
      subst (λ (n : ℕ). FilesOpenAs (contents s0) (files_with c.in_ok-manifest.manifest parts n))
      (sym c.next_file_of-free_file.ensures)
      (opens_as s0 s1 s2 (c.open.ensures.reads.kept.files honest) c.in_ok-manifest.manifest parts
      (c.version_is_one.ensures.lawful _ (contents s0) had) had
      (subst (λ (n : NodeVersion). WereParts s1 s2 n.version parts) c.state.ensures
      (c.in_ok-parts.ensures.told (c.open.ensures.reads.kept.honest.1 honest))));
  -- they can be used
  usable = let manifest = c.in_ok-manifest.manifest in
      let parts = c.in_ok-parts.parts in
      subst (λ (n : ℕ). AreUsableFiles (files_with manifest parts n))
      (sym c.next_file_of-free_file.ensures)
      (usable_of manifest parts c.in_ok-manifest.ensures.works
      (subst (λ (n : NodeVersion). AreParts n.version parts) c.state.ensures
      c.in_ok-parts.ensures.usable));
}

-- which the slots durably represent
pub returns-clause-held : goal.returns-clause-held
returns-clause-held g c = λ honest.
    let s0 = g.D.Disk.state c.args.disk.now in
    let s1 = g.D.Disk.state c.open.new.disk in
    let s2 = g.D.Disk.state c.read_parts.new.disk in
    let manifest = c.in_ok-manifest.manifest in
    let parts = c.in_ok-parts.parts in
    let it = c.in_ok-manifest.ensures.told honest in
    let were = subst (λ (n : NodeVersion). WereParts s1 s2 n.version parts) c.state.ensures
    (c.in_ok-parts.ensures.told (c.open.ensures.reads.kept.honest.1 honest)) in
    slots_stay c.held_versions_are_left.ensures.same s1 s2 manifest (version_of manifest) it.holds
    were.each

-- each file reads as before
pub returns-clause-alike : goal.returns-clause-alike
returns-clause-alike g c = λ honest.
    let s0 = g.D.Disk.state c.args.disk.now in
    let s1 = g.D.Disk.state c.open.new.disk in
    let s2 = g.D.Disk.state c.read_parts.new.disk in
    read_alike s0 s1 s2 (c.in_ok-manifest.ensures.told honest).read
    (c.open.ensures.reads.kept.files honest)
    (c.in_ok-parts.ensures.told (c.open.ensures.reads.kept.honest.1 honest)).each
