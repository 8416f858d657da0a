-- Disks whose tables' files are as they were meant, but for damaged blocks, and what a crash leaves
-- of them.
use Rattle.std.proofs.Common.{◌≡◌, ◌≢◌, ◌≤◌, ◌∙◌, ℕ, List, [], ap, arith, inl, inr, subst, sym}
use Rattle.std.specs.Prelude.{All, Contains}
use Rattle.std.proofs.lemmas.List.Elements.{All-contains, All-contains_itself, All-weaker}
use Rattle.kv_types.specs.{BatchContent}
use Rattle.disk.specs.Crashes.{durable}
use Rattle.disk.specs.StepsLemmas.{read_is_outcome}
use Rattle.disk.specs.{Absent, Contents, DurableFileIsLeft, Fresh, IsDurable, IsFileOutcome}
use Rattle.disk.specs.{IsSameBut, Kept, Slot, State, contents, seen}
use Rattle.store_model.specs.{LevelTable}
use Rattle.manifest.specs.declared.LogLine.{LogLine}
use Rattle.manifest.specs.declared.Manifest.{Manifest}
use Rattle.manifest.specs.declared.TableLine.{TableLine}
use Rattle.manifest.specs.{HeldVersionIsLeft, HeldVersionStays, IsVersion, ManifestHolds}
use Rattle.manifest.specs.{ManifestRepresents, StoreVersion}
use Rattle.batch_logs.specs.declared.batch_logs.BatchLogs.{BatchLogs}
use Rattle.store_tables.specs.declared.levels.LevelTables.{LevelTables}
use Rattle.store_tables.specs.LevelTables.{IsTableAsMeant}
use Rattle.store_files.specs.OpenFiles.{IsAsMeant}
use Rattle.store_files.specs.Openings.{kept_files}
use Rattle.store_files.specs.StoreFiles.{WereMeant, durably}
use Rattle.store_files.proofs.NamedHolds.{NamedHold, facts_of, named_left}
use Rattle.store_files.proofs.KeptNames.{kept_is_given, log_is_kept, slot_is_kept, table_is_kept}
use Rattle.store_files.proofs.MeantOpenings.{mended, mended_at, mended_beside, mended_named}
use Rattle.store_files.proofs.MeantOpenings.{named_or_beside, seen_durable, slot_beside}
use Rattle.store_files.proofs.NamedFiles.{version_same}

-- a durable slot is that of its content
pub durable_slot : (slot : Slot) → IsDurable slot → durable (seen slot) ≡ slot
durable_slot (Absent back) sure = ap Absent (sym sure)
durable_slot (Fresh bytes back) sure = absurd sure
durable_slot (Kept bytes kept touches) sure =
    ap (λ k. Kept bytes k []) (sym sure.0) ∙ ap (λ t. Kept bytes kept t) (sym sure.1)

-- The files of these lines are as they were meant, but for damaged blocks, and durable. Each other
-- file is the same.
pub record TablesAsMeant (disk meant : State) (lines : List TableLine) : Type 0 where
  pub others : (file : ℕ) → All (λ line. line.file ≢ file) lines → disk file ≡ meant file
  pub tables : All (λ line. IsTableAsMeant (disk line.file) (meant line.file)) lines
  pub durable : All (λ line. IsDurable (disk line.file)) lines

-- so are those of open tables
pub tables_of_meant : (disk meant : State) (version : StoreVersion) (opened : LevelTables)
    → IsAsMeant disk meant version opened → TablesAsMeant disk meant version.tables
tables_of_meant disk meant version opened is =
    record { others = is.others; tables = is.tables; durable = is.durable }

-- a file with a number that no version has named is no table's
pub unnamed_beside : (version : StoreVersion) → IsVersion version → (file : ℕ)
    → version.next_file ≤ file → All (λ line. line.file ≢ file) version.tables
unnamed_beside version is file above =
    All-weaker (Contains version.tables) (λ (line : TableLine). line.file ≢ file)
    (λ line has same.
    let below = kept_is_given version is line.file (table_is_kept version line has) in
    omega (arith, above, below, same)) version.tables (All-contains_itself version.tables)

-- ---- calls that leave the tables' files

module _ (disk meant : State) (lines : List TableLine) (t : TablesAsMeant disk meant lines)
    (new : State) where
  -- a file that is as it was is as it was meant
  pub follows : (file : ℕ) → new file ≡ disk file → mended lines meant new file ≡ meant file
  follows file same = elim (named_or_beside lines file) [
    | inl named ↦ mended_named lines meant new file named
    | inr beside ↦ mended_beside lines meant new file beside ∙ same ∙ t.others file beside
  ]

  pub follow_but : (file : ℕ) → IsSameBut file disk new
      → IsSameBut file meant (mended lines meant new)
  follow_but file same other apart = follows other (same other apart)

  pub still_as_meant : ((line : TableLine) → Contains lines line → new line.file ≡ disk line.file)
      → TablesAsMeant new (mended lines meant new) lines
  still_as_meant same = record {
    others = λ file beside. sym (mended_beside lines meant new file beside);
    tables = All-weaker (Contains lines)
        (λ (line : TableLine). IsTableAsMeant (new line.file) (mended lines meant new line.file))
        (λ line has. subst (λ (s : Slot). IsTableAsMeant (new line.file) s)
        (sym (mended_at lines meant new line has))
        (subst (λ (s : Slot). IsTableAsMeant s (meant line.file)) (sym (same line has))
        (All-contains (λ (one : TableLine). IsTableAsMeant (disk one.file) (meant one.file)) lines
        line t.tables has))) lines (All-contains_itself lines);
    durable = All-weaker (Contains lines) (λ (line : TableLine). IsDurable (new line.file))
        (λ line has. subst IsDurable (sym (same line has))
        (All-contains (λ (one : TableLine). IsDurable (disk one.file)) lines line t.durable has))
        lines (All-contains_itself lines);
  }

-- ---- crashes

module _ (disk meant : State) (lines : List TableLine) (t : TablesAsMeant disk meant lines)
    (left : Contents) where
  -- what a crash left, with the tables as they were meant
  abbrev pub meant_left : Contents
  meant_left = contents (mended lines meant (durably left))

  pub left_beside : (file : ℕ) → All (λ line. line.file ≢ file) lines
      → meant_left file ≡ left file
  left_beside file beside =
      ap seen (mended_beside lines meant (durably left) file beside) ∙ seen_durable (left file)

  -- it is an outcome of what was meant
  pub meant_outcome : (file : ℕ) → IsFileOutcome (disk file) (left file)
      → IsFileOutcome (meant file) (meant_left file)
  meant_outcome file leaves = elim (named_or_beside lines file) as
      (λ _. IsFileOutcome (meant file) (meant_left file)) [
        | inl named ↦ subst (λ (s : Slot). IsFileOutcome (meant file) (seen s))
            (sym (mended_named lines meant (durably left) file named))
            (read_is_outcome (meant file))
        | inr beside ↦ subst (λ o. IsFileOutcome (meant file) o) (sym (left_beside file beside))
            (subst (λ (s : Slot). IsFileOutcome s (left file)) (t.others file beside) leaves)
      ]

  -- and the tables' files in it are as they were meant
  pub tables_left : DurableFileIsLeft → All (λ line. IsDurable (meant line.file)) lines
      → ((line : TableLine) → Contains lines line
      → IsFileOutcome (disk line.file) (left line.file))
      → All (λ line. IsTableAsMeant (durably left line.file) (durably meant_left line.file)) lines
  tables_left law sure leaves =
      All-weaker (Contains lines) (λ (line : TableLine). IsTableAsMeant (durably left line.file)
      (durably meant_left line.file))
      (λ line has.
      let own = All-contains (λ (one : TableLine). IsDurable (disk one.file)) lines line t.durable
      has in
      let first : durable (left line.file) ≡ disk line.file =
      ap durable (law (disk line.file) (left line.file) own (leaves line has))
      ∙ durable_slot (disk line.file) own in
      let second : durable (seen (mended lines meant (durably left) line.file))
      ≡ meant line.file =
      ap (λ (s : Slot). durable (seen s)) (mended_at lines meant (durably left) line has)
      ∙ durable_slot (meant line.file)
      (All-contains (λ (one : TableLine). IsDurable (meant one.file)) lines line sure has) in
      subst (λ (s : Slot). IsTableAsMeant (durable (left line.file)) s) (sym second)
      (subst (λ (s : Slot). IsTableAsMeant s (meant line.file)) (sym first)
      (All-contains (λ (one : TableLine). IsTableAsMeant (disk one.file) (meant one.file)) lines
      line t.tables has))) lines (All-contains_itself lines)

-- ---- the files that a version names

module _ (disk meant : State) (version : StoreVersion) (is : IsVersion version) (logs : BatchLogs)
    (trimmed : ℕ) (tables : List LevelTable) (list : List BatchContent)
    (h : NamedHold meant version logs trimmed tables list)
    (t : TablesAsMeant disk meant version.tables) where
  -- where slots represent the version, a crash that leaves what it might of the files it names
  -- leaves files that were meant to represent the list
  pub named_were_left : DurableFileIsLeft → (id : ℕ) (left : Contents)
      → ManifestRepresents (record { id = id; version = version }) left
      → ((line : LogLine) → Contains version.logs line
      → IsFileOutcome (disk line.file) (left line.file))
      → ((line : TableLine) → Contains version.tables line
      → IsFileOutcome (disk line.file) (left line.file))
      → WereMeant (facts_of id version trimmed) list left
  unfolding named_left
  named_were_left law id left manifest log_left table_left = record {
    meant = meant_left disk meant version.tables t left;
    represents = named_left meant version logs trimmed tables list h law id
        (meant_left disk meant version.tables t left)
        (version_same left (meant_left disk meant version.tables t left)
        (λ slot one. left_beside disk meant version.tables t left slot
        (slot_beside version is slot one)) (record { id = id; version = version }) manifest)
        (λ line has. meant_outcome disk meant version.tables t left line.file (log_left line has))
        (λ line has. meant_outcome disk meant version.tables t left line.file
        (table_left line has));
    others = λ file beside. sym (left_beside disk meant version.tables t left file beside);
    tables = tables_left disk meant version.tables t left law h.durable table_left;
  }

  module _ (manifest : Manifest) (id : ℕ)
      (holds : ManifestHolds meant manifest (record { id = id; version = version }))
      (stays : HeldVersionStays) where
    -- the slots are as they were meant
    pub manifest_is_meant : ManifestHolds disk manifest (record { id = id; version = version })
    manifest_is_meant = stays meant disk manifest (record { id = id; version = version }) holds
        (λ slot one. t.others slot (slot_beside version is slot one))

    -- so does one that leaves what it might of all files but one that no version has named
    pub unnamed_is_left : DurableFileIsLeft → HeldVersionIsLeft → (file : ℕ)
        → version.next_file ≤ file → (left : Contents)
        → ((other : ℕ) → other ≢ file → IsFileOutcome (disk other) (left other))
        → WereMeant (facts_of id version trimmed) list left
    unnamed_is_left law held file above left leaves =
        let named : (other : ℕ) → Contains (kept_files version) other
        → IsFileOutcome (disk other) (left other) = λ other has.
        leaves other (λ same.
        let below = kept_is_given version is other has in
        omega (arith, above, below, same)) in
        named_were_left law id left
        (held disk manifest (record { id = id; version = version }) left manifest_is_meant
        (λ slot one. named slot (slot_is_kept version slot one)))
        (λ line has. named line.file (log_is_kept version line has))
        (λ line has. named line.file (table_is_kept version line has))
