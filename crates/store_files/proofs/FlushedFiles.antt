-- The files after a flush or an append represent what is expected.
use Rattle.std.proofs.Common.{◌≡◌, ◌⊎◌, ℕ, suc, ◌+◌, ◌-◌, ◌≤◌, List, [], ◌∷◌, ◌++◌}
use Rattle.std.proofs.Common.{length, drop, All, Contains, refl, sym, ap, subst, ◌∙◌}
use Rattle.std.proofs.Common.{inl, inr, arith}
use Rattle.std.proofs.lemmas.List.{length-append, length-drop, length_push}
use Rattle.std.proofs.lemmas.List.Elements.{All-cons, All-nil, All-push}
use Rattle.kv_types.specs.{BatchContent, IsBatch}
use Rattle.disk.specs.{Contents}
use Rattle.store_model.specs.Claims.{AppendsKeep, FlushesKeep}
use Rattle.store_model.specs.{StoreRepresents}
use Rattle.store_model.specs.{AreEdited}
use Rattle.store_model.specs.{LevelTable}
use Rattle.manifest.specs.declared.LogLine.{LogLine}
use Rattle.manifest.specs.declared.TableLine.{TableLine}
use Rattle.manifest.specs.Versions.{table_is_before, with_log, with_table}
use Rattle.manifest.specs.VersionsLemmas.{all_logs_left, all_tables_left, log_behind}
use Rattle.manifest.specs.{StoreVersion, changed}
use Rattle.batch_logs.specs.Layout.{IsLog}
use Rattle.batch_logs.specs.BatchLogs.{HaveBatches}
use Rattle.store_tables.specs.LevelTables.{AreTablesOf, IsTableOf}
use Rattle.store_files.specs.StoreFiles.{FlushesRepresent, LongerLogsRepresent}
use Rattle.store_files.specs.StoreFiles.{before_newest, begun_log, flush_change, store_of_version}
use Rattle.store_model.specs.PlacesLemmas.{contains_cases, contains_head, contains_next}
use Rattle.store_files.proofs.Records.{either}
use Rattle.store_files.proofs.NamedFiles.{logs_same, tables_same, version_same}

-- ---- logs

-- a log without records behind the last
pub one_more_log : (left : Contents) (number : ℕ) (lines : List LogLine)
    (batches : List BatchContent) (line : LogLine) → line.first ≡ number + length batches
    → IsLog (left line.file) [] → HaveBatches left number lines batches
    → HaveBatches left number (lines ++ line ∷ []) batches
one_more_log left number [] batches line first log h =
    let none : length batches ≡ 0 = ap (λ (l : List BatchContent). length l) h in
    ([], [], h, (omega (arith, first, none), log), refl)
one_more_log left number (old ∷ lines) batches line first log h =
    let long = ap (λ (l : List BatchContent). length l) h.2 ∙ length-append h.0 h.1 in (
      h.0,
      h.1,
      h.2,
      h.3,
      one_more_log left (number + length h.0) lines h.1 line (omega (arith, first, long)) log h.4,
    )

-- no log begins behind the batches
pub firsts_within : (left : Contents) (number : ℕ) (lines : List LogLine)
    (batches : List BatchContent) → HaveBatches left number lines batches
    → All (λ (line : LogLine). line.first ≤ number + length batches) lines
firsts_within left number [] batches h =
    All-nil (λ (line : LogLine). line.first ≤ number + length batches)
firsts_within left number (old ∷ lines) batches h =
    let long = ap (λ (l : List BatchContent). length l) h.2 ∙ length-append h.0 h.1 in
    let first = h.3.0 in
    let same : number + length batches ≡ number + length h.0 + length h.1 = omega (arith, long) in
    All-cons (λ (line : LogLine). line.first ≤ number + length batches) old lines
    (omega (arith, first))
    (subst (λ (n : ℕ). All (λ (line : LogLine). line.first ≤ n) lines) (sym same)
    (firsts_within left (number + length h.0) lines h.1 h.4))

-- the newest is the last
pub newest_behind : (lines : List LogLine) (line : LogLine)
    → before_newest (lines ++ line ∷ []) ≡ line.first - 1
newest_behind [] line = refl
newest_behind (old ∷ []) line = refl
newest_behind (old ∷ next ∷ lines) line = newest_behind (next ∷ lines) line

-- ---- tables

-- the tables after one was placed among them
record WithTable (left : Contents) (lines : List TableLine) (before : List LevelTable)
    (table : LevelTable) : Type 0 where
  after : List LevelTable
  read : AreTablesOf left lines after
  only : (t : LevelTable) → Contains after t → Contains before t ⊎ (table ≡ t)
  old : (t : LevelTable) → Contains before t → Contains after t
  new : Contains after table

one_more_table : (left : Contents) (lines : List TableLine) (tables : List LevelTable)
    (line : TableLine) (table : LevelTable) → AreTablesOf left lines tables
    → IsTableOf left line table → WithTable left (with_table lines line) tables table
one_more_table left [] [] line table h is = record {
  after = table ∷ [];
  read = (is, tt);
  only = λ t has. elim (contains_cases table [] t has)
      [ inl same ↦ inr same | inr none ↦ inl none ];
  old = λ t has. contains_next table [] t has;
  new = contains_head table [];
}
one_more_table left [] (t ∷ tables) line table h is = absurd h
one_more_table left (old ∷ lines) [] line table h is = absurd h
one_more_table left (old ∷ lines) (t ∷ tables) line table h is =
    elim (either (table_is_before line old)) [
      | inl first ↦ rw first (record {
        after = table ∷ t ∷ tables;
        read = (is, h);
        only = λ u has. elim (contains_cases table (t ∷ tables) u has) [
          | inl same ↦ inr same
          | inr there ↦ inl there
        ];
        old = λ u has. contains_next table (t ∷ tables) u has;
        new = contains_head table (t ∷ tables);
      })
      | inr later ↦
          let more = one_more_table left lines tables line table h.1 is in
          rw later (record {
            after = t ∷ more.after;
            read = (h.0, more.read);
            only = λ u has. elim (contains_cases t more.after u has) [
              | inl same ↦ inl (subst (Contains (t ∷ tables)) same (contains_head t tables))
              | inr there ↦ elim (more.only u there) [
                | inl was ↦ inl (contains_next t tables u was)
                | inr is_new ↦ inr is_new
              ]
            ];
            old = λ u has. elim (contains_cases t tables u has) [
              | inl same ↦ subst (Contains (t ∷ more.after)) same (contains_head t more.after)
              | inr there ↦ contains_next t more.after u (more.old u there)
            ];
            new = contains_next t more.after table more.new;
          })
    ]

-- as an edit of the model
edited : (left : Contents) (lines : List TableLine) (before : List LevelTable)
    (table : LevelTable) → (more : WithTable left lines before table)
    → AreEdited [] (table ∷ []) before more.after
edited left lines before table more = record {
  stays = λ t has. elim (more.only t has) [
    | inl was ↦ inl (was, λ gone. let lt = gone.1 in omega (arith, lt))
    | inr is ↦ inr (subst (Contains (table ∷ [])) is (contains_head table []))
  ];
  left = λ t has. inr (more.old t has);
  new = λ t has. elim (contains_cases table [] t has) [
    | inl is ↦ subst (Contains more.after) is more.new
    | inr none ↦ let lt = none.1 in absurd (omega (arith, lt))
  ];
}

-- ---- together

module _ (version : StoreVersion) (free count : ℕ) (line : TableLine) where
  abbrev pub after : StoreVersion
  after = changed version (flush_change version free count line)

  abbrev pub begun : LogLine
  begun = begun_log free count

  -- the new log stands last
  pub logs_after : All (λ (old : LogLine). old.first ≤ suc count) version.logs
      → after.logs ≡ version.logs ++ begun ∷ []
  logs_after firsts =
      ap (λ (l : List LogLine). with_log l begun) (all_logs_left version.logs)
      ∙ log_behind version.logs begun firsts

  pub tables_after : after.tables ≡ with_table version.tables line
  tables_after = ap (λ (l : List TableLine). with_table l line) (all_tables_left version.tables)

  -- so all batches come before the newest log
  pub newest_after : after.logs ≡ version.logs ++ begun ∷ [] → before_newest after.logs ≡ count
  newest_after same =
      let less : suc count - 1 ≡ count = omega arith in
      ap before_newest same ∙ newest_behind version.logs begun ∙ less

pub flushes_represent : FlushesKeep → FlushesRepresent
flushes_represent keeps facts list free line left other files flushed manifest =
    let behind = length-drop facts.kept list in
    let le = files.store.kept_floor in
    let floor = files.store.floor_count in
    let end : suc (length list) ≡ suc facts.kept + length (drop facts.kept list) =
    omega (arith, behind, le, floor) in
    let logs = logs_same left other (suc facts.kept) files.version.logs (drop facts.kept list)
    flushed.logs files.logs in
    let firsts : All (λ (old : LogLine). old.first ≤ suc (length list)) files.version.logs =
    subst (λ (n : ℕ). All (λ (old : LogLine). old.first ≤ n) files.version.logs) (sym end)
    (firsts_within other (suc facts.kept) files.version.logs (drop facts.kept list) logs) in
    let is = logs_after files.version free (length list) line firsts in
    let more = one_more_table other files.version.tables files.tables line flushed.table
    (tables_same left other files.version.tables files.tables flushed.tables files.read)
    flushed.read in
    record {
      version = after files.version free (length list) line;
      manifest = manifest;
      epoch = files.epoch;
      ids = files.ids;
      floor = files.floor;
      logs = subst (λ (l : List LogLine). HaveBatches other (suc facts.kept) l
          (drop facts.kept list)) (sym is)
          (one_more_log other (suc facts.kept) files.version.logs (drop facts.kept list)
          (begun files.version free (length list) line) end flushed.log logs);
      tables = more.after;
      read = subst (λ (l : List TableLine). AreTablesOf other l more.after)
          (sym (tables_after files.version free (length list) line)) more.read;
      store = subst (λ (n : ℕ). StoreRepresents list (record {
        tables = more.after;
        flushed = length list;
        floor = files.version.floor;
        kept = facts.kept;
        current = n;
      })) (sym (newest_after files.version free (length list) line is))
          (keeps list (store_of_version files.version facts.kept files.tables) flushed.table
          more.after files.store flushed.flush
          (edited other (with_table files.version.tables line) files.tables flushed.table more));
      each = files.each;
      few = files.few;
    }

pub longer_logs_represent : AppendsKeep → LongerLogsRepresent
longer_logs_represent keeps facts list batch left other files is room logs slots tables = record {
  version = files.version;
  manifest = version_same left other slots
      (record { id = facts.id; version = files.version }) files.manifest;
  epoch = files.epoch;
  ids = files.ids;
  floor = files.floor;
  logs = logs;
  tables = files.tables;
  read = tables_same left other files.version.tables files.tables tables files.read;
  store = keeps list (store_of_version files.version facts.kept files.tables) batch files.store;
  each = All-push IsBatch list batch files.each is;
  few = let long = length_push list batch in omega (arith, long, room);
}
