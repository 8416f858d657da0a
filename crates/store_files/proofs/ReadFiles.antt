-- The files of a store as an opening has read them.
use Rattle.std.proofs.Common.{◌≡◌, ◌⊎◌, ◌↔◌, ℕ, suc, ◌+◌, ◌-◌, ◌≤◌, List, [], All, Contains}
use Rattle.std.proofs.Common.{Option, Some, ap, arith, drop, inl, inr, length, refl, subst, sym}
use Rattle.std.proofs.Common.{◌∙◌}
use Rattle.std.specs.Prelude.{IsSomeAnd}
use Rattle.std.proofs.lemmas.Bool.{cases_eq}
use Rattle.std.proofs.lemmas.List.{length-drop}
use Rattle.std.proofs.lemmas.List.Elements.{All-contains, All-contains_itself, All-drop, All-weaker}
use Rattle.kv_types.specs.{BatchContent, Entry, IsBatch}
use Rattle.disk.specs.{Contents, IsDurable, IsEnvironmental, Kept, State, contents, seen}
use Rattle.memtable.specs.{TableHolds}
use Rattle.record_log.specs.{IsDurableAs}
use Rattle.store_model.specs.Claims.{ReplaysAgree}
use Rattle.store_model.specs.{LevelTable, StoreRepresents, memory_entries, replayed_entries}
use Rattle.manifest.specs.declared.LogLine.{LogLine}
use Rattle.manifest.specs.declared.Manifest.{Manifest}
use Rattle.manifest.specs.declared.TableLine.{TableLine}
use Rattle.manifest.specs.Holds.{SparesOthers}
use Rattle.manifest.specs.Lawful.{IsAllocated}
use Rattle.manifest.specs.{HeldVersionStays, IsSlotFile, IsVersion, ManifestHolds, NodeVersion}
use Rattle.manifest.specs.{StoreVersion}
use Rattle.manifest.specs.{SlotsRead, other_slot, version_of}
use Rattle.store_tables.specs.declared.error.EngineError.TheVariants as engine
use Rattle.store_files.specs.declared.opening.ReadParts.{ReadParts}
use Rattle.store_files.specs.declared.store_files.StoreFiles.{StoreFiles}
use Rattle.batch_logs.specs.BatchLogs.{LogsHold, first_number}
use Rattle.store_files.specs.Files.{Facts}
use Rattle.store_tables.specs.LevelTables.{AreTablesOf, FileFits, FitsLine}
use Rattle.batch_logs.specs.Replaying.{AreBatchesOf}
use Rattle.store_files.specs.OpenFiles.{AreUsableFiles}
use Rattle.store_files.specs.StoreFiles.{AreOrderedNumbers}
use Rattle.store_files.specs.OpenFiles.{FilesAreRead, known_facts}
use Rattle.store_files.specs.OpenFiles.{known_version}
use Rattle.store_files.specs.Openings.{PartsHold}
use Rattle.store_files.specs.Settling.{IsReadAlike}
use Rattle.batch_logs.specs.Syncs.{SlotSettles}
use Rattle.store_files.specs.StoreFiles.{FilesRepresent, store_of_version}
use Rattle.store_files.proofs.FilesApart.{given_no_slot}
use Rattle.store_files.proofs.NamedFiles.{logs_same, tables_same}
use Rattle.batch_logs.specs.PartsLemmas.{held_count}
use Rattle.store_files.proofs.ReadParts.{begins_at}
use Rattle.batch_logs.specs.SyncsLemmas.{settles_alike}

-- ---- slots

-- a durable file that settles is as it was
settled_same : (old new : State) (file : ℕ) (bytes : List ℕ) → IsDurableAs old file bytes
    → SlotSettles old new file → new file ≡ old file
settled_same old new file bytes sure (inl same) = same
settled_same old new file bytes sure (inr synced) =
    let read : Some bytes ≡ Some synced.0 = sym (ap seen sure) ∙ synced.1 in
    let same : bytes ≡ synced.0 = cc in
    synced.2 ∙ ap (λ (b : List ℕ). Kept b b []) (sym same) ∙ sym sure

-- the slots that a manifest holds stay when the files settle
pub slots_stay : HeldVersionStays → (old new : State) (manifest : Manifest) (named : NodeVersion)
    → ManifestHolds old manifest named → ((file : ℕ) → SlotSettles old new file)
    → ManifestHolds new manifest named
slots_stay stays old new manifest named h settle = stays old new manifest named h same
  where
    counting : new manifest.slots.slot ≡ old manifest.slots.slot
    counting = settled_same old new manifest.slots.slot h.records.log.bytes
        (subst (λ (f : ℕ). IsDurableAs old f h.records.log.bytes) h.records.at.in_file
        h.records.log.sure) (settle manifest.slots.slot)

    other : new (other_slot manifest.slots.slot) ≡ old (other_slot manifest.slots.slot)
    other = settled_same old new (other_slot manifest.slots.slot) h.records.other_bytes
        h.records.other_sure (settle (other_slot manifest.slots.slot))

    one_of : (slot : ℕ) → IsSlotFile slot
        → (slot ≡ manifest.slots.slot) ⊎ (slot ≡ other_slot manifest.slots.slot)
    one_of slot (inl a) = elim h.records.one as
        (λ _. (slot ≡ manifest.slots.slot) ⊎ (slot ≡ other_slot manifest.slots.slot)) [
          | inl b ↦ inl (a ∙ sym b)
          | inr b ↦ inr (omega (arith, a, b))
        ]
    one_of slot (inr a) = elim h.records.one as
        (λ _. (slot ≡ manifest.slots.slot) ⊎ (slot ≡ other_slot manifest.slots.slot)) [
          | inl b ↦ inr (omega (arith, a, b))
          | inr b ↦ inl (a ∙ sym b)
        ]

    same : (slot : ℕ) → IsSlotFile slot → new slot ≡ old slot
    same slot is_slot = elim (one_of slot is_slot) as (λ _. new slot ≡ old slot) [
      | inl here ↦ subst (λ (f : ℕ). new f ≡ old f) (sym here) counting
      | inr there ↦ subst (λ (f : ℕ). new f ≡ old f) (sym there) other
    ]

-- a file reads as before: a slot behind the manifest's opening, and each behind the parts'
pub read_alike : (s0 s1 s2 : State) → SlotsRead s1 (contents s0) → SparesOthers s0 s1
    → ((file : ℕ) → SlotSettles s1 s2 file) → IsReadAlike s0 s2
read_alike s0 s1 s2 slots spares settle file =
    settles_alike s1 s2 file (settle file) ∙ (elim (cases_eq file 1) [
      | inl one ↦ slots file (inl one)
      | inr not_one ↦ elim (cases_eq file 2) [
        | inl two ↦ slots file (inr two)
        | inr not_two ↦ ap seen (spares file (λ is. elim is [
          | inl one ↦ absurd (not_one one)
          | inr two ↦ absurd (not_two two)
        ]))
      ]
    ])

-- ---- contents before the slots were synced

module _ (version : StoreVersion) (is : IsVersion version) (old new : State)
    (spares : SparesOthers old new) where
  log_reads : (line : LogLine) → Contains version.logs line
      → contents new line.file ≡ contents old line.file
  log_reads line has = ap seen (spares line.file (λ slot. given_no_slot version line.file
      (All-contains (λ (l : LogLine). IsAllocated version l.file) version.logs line
      is.lines.log_files
      has) line.file slot refl))

  pub table_reads : (line : TableLine) → Contains version.tables line
      → contents new line.file ≡ contents old line.file
  table_reads line has = ap seen (spares line.file (λ slot. given_no_slot version line.file
      (All-contains (λ (l : TableLine). IsAllocated version l.file) version.tables line
      is.lines.table_files has) line.file slot refl))

  pub batches_then : (first : ℕ) (batches : List BatchContent)
      → AreBatchesOf (contents old) version.logs first batches
      → AreBatchesOf (contents new) version.logs first batches
  batches_then first batches h = record {
    positive = h.positive;
    have = logs_same (contents old) (contents new) first version.logs batches log_reads h.have;
    each = h.each;
    few = h.few;
  }

  pub batches_before : (first : ℕ) (batches : List BatchContent)
      → AreBatchesOf (contents new) version.logs first batches
      → AreBatchesOf (contents old) version.logs first batches
  batches_before first batches h = record {
    positive = h.positive;
    have = logs_same (contents new) (contents old) first version.logs batches
        (λ line has. sym (log_reads line has)) h.have;
    each = h.each;
    few = h.few;
  }

  pub tables_then : (tables : List LevelTable) → AreTablesOf (contents old) version.tables tables
      → AreTablesOf (contents new) version.tables tables
  tables_then tables h =
      tables_same (contents old) (contents new) version.tables tables table_reads h

  pub fit_then : All (FileFits (contents old)) version.tables
      → All (FileFits (contents new)) version.tables
  fit_then fit =
      All-weaker (Contains version.tables) (FileFits (contents new))
      (λ line has. subst (λ (o : Option (List ℕ)). IsSomeAnd o (FitsLine line))
      (sym (table_reads line has))
      (All-contains (FileFits (contents old)) version.tables line fit has)) version.tables
      (All-contains_itself version.tables)

  pub fit_before : All (FileFits (contents new)) version.tables
      → All (FileFits (contents old)) version.tables
  fit_before fit =
      All-weaker (Contains version.tables) (FileFits (contents old))
      (λ line has. subst (λ (o : Option (List ℕ)). IsSomeAnd o (FitsLine line))
      (table_reads line has)
      (All-contains (FileFits (contents new)) version.tables line fit has)) version.tables
      (All-contains_itself version.tables)

-- damage is no external refusal
pub damage_is_own : IsEnvironmental engine.Disk engine.Memory engine.Damaged → ⊥
damage_is_own (inl is) = cc
damage_is_own (inr is) = cc

-- ---- what represented files give

pub facts_are : (facts : Facts) (id epoch : ℕ) (ids : List ℕ) (floor kept : ℕ) → id ≡ facts.id
    → epoch ≡ facts.epoch → ids ≡ facts.ids → floor ≡ facts.floor → kept ≡ facts.kept
    → record { id = id; epoch = epoch; ids = ids; floor = floor; kept = kept } ≡ facts
facts_are facts id epoch ids floor kept a b c d e =
    ap (λ (x : ℕ). record { id = x; epoch = epoch; ids = ids; floor = floor; kept = kept }) a
    ∙ ap (λ (x : ℕ). record { id = facts.id; epoch = x; ids = ids; floor = floor; kept = kept }) b
    ∙ ap (λ (x : List ℕ).
    record { id = facts.id; epoch = facts.epoch; ids = x; floor = floor; kept = kept }) c
    ∙ ap (λ (x : ℕ).
    record { id = facts.id; epoch = facts.epoch; ids = facts.ids; floor = x; kept = kept }) d
    ∙ ap (λ (x : ℕ).
    record { id = facts.id; epoch = facts.epoch; ids = facts.ids; floor = facts.floor; kept = x }) e

-- the open files with these parts, of which this file is the first that is free
abbrev pub files_with : Manifest → ReadParts → ℕ → StoreFiles
files_with manifest parts free = record {
  manifest = manifest;
  logs = parts.logs;
  tables = parts.tables;
  memtable = parts.memtable;
  free_file = free;
}

-- the open files with these parts
abbrev pub files_of_parts : Manifest → ReadParts → StoreFiles
files_of_parts manifest parts =
    files_with manifest parts (version_of manifest).version.next_file

module _ (facts : Facts) (list : List BatchContent) (left : Contents)
    (h : FilesRepresent facts list left) where
  pub kept_few : facts.kept ≤ length list
  kept_few =
      let floor = h.store.kept_floor in
      let count = h.store.floor_count in
      omega (arith, floor, count)

  pub batches_of : AreBatchesOf left h.version.logs (suc facts.kept) (drop facts.kept list)
  batches_of = record {
    positive = omega arith;
    have = h.logs;
    each = All-drop IsBatch facts.kept list h.each;
    few =
        let behind = length-drop facts.kept list in
        let less = kept_few in
        let few = h.few in
        omega (arith, behind, less, few);
  }

  pub ordered_of : AreOrderedNumbers h.version (suc facts.kept - 1)
      (suc facts.kept - 1 + length (drop facts.kept list))
  ordered_of =
      let behind = length-drop facts.kept list in
      let less = kept_few in
      let total : length list ≡ suc facts.kept - 1 + length (drop facts.kept list) =
      omega (arith, behind, less) in
      subst (AreOrderedNumbers h.version (suc facts.kept - 1)) total (record {
        kept_floor = let le = h.store.kept_floor in omega (arith, le);
        kept_current = let le = h.store.kept_current in omega (arith, le);
        current_flushed = h.store.current_flushed;
        flushed_count = h.store.flushed_count;
        floor_count = h.store.floor_count;
        few = h.few;
      })

  -- the parts of these files, opened, hold the list
  pub read_as : ReplaysAgree → (disk : State) (manifest : Manifest) (parts : ReadParts)
      → AreUsableFiles (files_of_parts manifest parts)
      → ManifestHolds disk manifest (record { id = facts.id; version = h.version })
      → PartsHold disk h.version (suc facts.kept) (drop facts.kept list) h.tables parts
      → (known_facts (files_of_parts manifest parts) ≡ facts)
      × FilesAreRead disk (files_of_parts manifest parts) list
  read_as agree disk manifest parts usable held p =
      let knows : known_version (files_of_parts manifest parts)
      ≡ record { id = facts.id; version = h.version } =
      held.knows in
      let first = begins_at disk parts.logs (suc facts.kept) (drop facts.kept list) p.logs in
      let trimmed : first_number parts.logs - 1 ≡ facts.kept = omega (arith, first) in
      let behind = length-drop facts.kept list in
      let less = kept_few in
      let next = held_count disk parts.logs (suc facts.kept) (drop facts.kept list) p.logs in
      let store = subst (λ (n : NodeVersion). StoreRepresents list
      (store_of_version n.version facts.kept h.tables)) (sym knows) h.store in
      let back : suc facts.kept - 1 ≡ facts.kept = omega arith in
      let replayed = subst (λ (k : ℕ). (entry : Entry) → TableHolds parts.memtable entry
      ↔ replayed_entries k h.version.flushed (drop facts.kept list) entry) back p.entries in
      let entries : (entry : Entry) → TableHolds parts.memtable entry
      ↔ memory_entries list (store_of_version h.version facts.kept h.tables) entry = λ entry. (
        λ holds. (agree list (store_of_version h.version facts.kept h.tables) entry).0
            ((replayed entry).0 holds),
        λ there. (replayed entry).1
            ((agree list (store_of_version h.version facts.kept h.tables) entry).1 there),
      ) in (
        facts_are facts (known_version (files_of_parts manifest parts)).id
            (known_version (files_of_parts manifest parts)).version.epoch
            (known_version (files_of_parts manifest parts)).version.ids
            (known_version (files_of_parts manifest parts)).version.floor
            (first_number parts.logs - 1) (ap (λ (n : NodeVersion). n.id) knows)
            (ap (λ (n : NodeVersion). n.version.epoch) knows ∙ h.epoch)
            (ap (λ (n : NodeVersion). n.version.ids) knows ∙ h.ids)
            (ap (λ (n : NodeVersion). n.version.floor) knows ∙ h.floor) trimmed,
        record {
          usable = usable;
          manifest = subst (ManifestHolds disk manifest) (sym knows) held;
          logs = subst (λ (k : ℕ). LogsHold disk parts.logs (suc k) (drop k list)) (sym trimmed)
              p.logs;
          tables = h.tables;
          read = subst (λ (n : NodeVersion). AreTablesOf (contents disk) n.version.tables h.tables)
              (sym knows) p.read;
          served = p.served;
          durable = subst (λ (n : NodeVersion).
              All (λ (line : TableLine). IsDurable (disk line.file)) n.version.tables) (sym knows)
              p.durable;
          store = subst (λ (k : ℕ). StoreRepresents list (store_of_version
              (known_version (files_of_parts manifest parts)).version k h.tables)) (sym trimmed)
              store;
          entries = subst (λ (k : ℕ). (entry : Entry) → TableHolds parts.memtable entry
              ↔ memory_entries list (store_of_version
              (known_version (files_of_parts manifest parts)).version k h.tables) entry)
              (sym trimmed) (subst (λ (n : NodeVersion). (entry : Entry)
              → TableHolds parts.memtable entry
              ↔ memory_entries list (store_of_version n.version facts.kept h.tables) entry)
              (sym knows) entries);
          count = omega (arith, next, behind, less);
          each = h.each;
        },
      )
