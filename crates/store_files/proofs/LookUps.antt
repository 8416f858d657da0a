-- What a lookup in memory and tables finds is what the batches leave there.
use Rattle.std.proofs.Common.{◌≡◌, ◌↔◌, ℕ, ◌≤◌, ◌<◌, List, [], ◌∷◌, length, Option, Some, None}
use Rattle.std.proofs.Common.{Contains, Err, Ok, Result, ap, arith, inl, inr, subst, suc, sym, zero}
use Rattle.std.proofs.Common.{◌+◌, ◌-◌, ◌∙◌, refl}
use Rattle.std.specs.Result.{IsOk}
use Rattle.std.specs.Prelude.{IfErr, IfOk, IfSome, IsErrAnd, IsErrOf, IsSome, IsSomeAnd}
use Rattle.std.specs.Prelude.{MatchResult, drop, is_some, slice_get, take}
use Rattle.std.specs.Global.{Vec}
use Rattle.std.specs.Option.{option_flatten, option_map}
use Rattle.std.proofs.lemmas.List.Elements.{All-contains}
use Rattle.kv_types.specs.declared.bounds.TheConstants.{MAX_VALUE}
use Rattle.byte_fields.specs.{StoredKey}
use Rattle.kv_types.specs.{BatchContent, Entry, IsShown, IsUnseen, all_entries, map_of}
use Rattle.byte_fields.specs.{row_key}
use Rattle.kv_types.specs.{place, stored_map_of}
use Rattle.kv_types.specs.Entries.{RowsAreStored}
use Rattle.batch_logs.specs.Reads.{OnlyReads}
use Rattle.disk.specs.declared.Disk.{Ghosts}
use Rattle.disk.specs.KeepingLemmas.{kept_as}
use Rattle.disk.specs.{Contents, IsEnvironmental, IsSame, State, contents}
use Rattle.memtable.specs.declared.Memtable.{Memtable}
use Rattle.memtable.specs.declared.error.MemtableError.{MemtableError}
use Rattle.memtable.specs.declared.error.MemtableError.TheVariants as memtable
use Rattle.memtable.specs.{TableHolds}
use Rattle.table_format.specs.{IsEntryOf, IsTableEntry, TableRepresents}
use Rattle.sorted_table.specs.declared.FoundVersion.{FoundVersion}
use Rattle.sorted_table.specs.{found_entry}
use Rattle.store_model.specs.PlacesLemmas.{contains_cases, contains_head, contains_next}
use Rattle.store_model.specs.PlacesLemmas.{slice_get-drop}
use Rattle.store_model.specs.Claims.{LookUpsAreMaps, LookUpsAreShown}
use Rattle.store_model.specs.{AboveLacks, AreLeveled, KeyRange, LevelTable, StoreRepresents}
use Rattle.store_model.specs.{StoreState}
use Rattle.store_model.specs.{memory_entries}
use Rattle.manifest.specs.declared.TableLine.{TableLine}
use Rattle.store_tables.specs.declared.error.EngineError.{EngineError}
use Rattle.store_tables.specs.declared.error.EngineError.TheVariants as engine
use Rattle.store_tables.specs.LevelTables.{AreTablesOf, IsTableOf, LesserLack, LevelsRise}
use Rattle.store_tables.specs.LevelTables.{TableLookUpsAreMaps, TablesFind, found_value, line_range}
use Rattle.store_tables.specs.TableReads.{LacksBlock, NeedsNoDisk, OneLacksBlock}
use Rattle.store_tables.specs.TableReads.{OneNamedLacksBlock, WereNamed}
use Rattle.store_tables.specs.Errors.{IsEnd}
use Rattle.store_tables.specs.RefusalLemmas.{if_refuses}
use Rattle.store_files.specs.ShownValues.{EntriesShow, IsShownIn, shown_entry, shown_of}
use Rattle.store_files.specs.declared.finding.ShownValue.{ShownValue}
use Rattle.store_files.proofs.Entries.{newest_in, unseen_in}

-- a call of a memtable that is refused where it has failed alone is answered where it has not
pub is_answered : {T Fails : Type 0} (result : Result T MemtableError) →
    MatchResult result (λ _. Fails → ⊥) (λ d. (d ≡ memtable.Failed) × Fails) →
    (Fails → ⊥) → IsOk result
is_answered (Ok x) failed works = refl
is_answered (Err d) failed works = absurd (works failed.1)

-- the memtable has the entries that belong in memory
abbrev pub HasMemory : Memtable → List BatchContent → StoreState → Type 0
HasMemory table list store =
    (entry : Entry) → TableHolds table entry ↔ memory_entries list store entry

-- what a version that puts these bytes shows
abbrev shown_version : FoundVersion → Vec ℕ → ShownValue
shown_version found bytes = record { number = found.number; value = bytes.items }

-- its value
value_left : (found : FoundVersion) (value : Option (Vec ℕ)) →
    option_map (λ it. it.value) (option_map (λ bytes. shown_version found bytes) value)
    ≡ option_map (λ bytes. bytes.items) value
value_left found None = refl
value_left found (Some bytes) = refl

module _ (maps : LookUpsAreMaps) (shows : LookUpsAreShown) (list : List BatchContent)
    (store : StoreState) (h : StoreRepresents list store) (at : ℕ) (floor : store.floor ≤ at)
    (count : at ≤ length list) (key : StoredKey) (table : Memtable)
    (same : HasMemory table list store) where
  -- what memory has of a key
  pub memory_shows : (shown : Option ShownValue)
      → EntriesShow at (TableHolds table) key (Some shown) → IsShownIn list at key shown
  memory_shows None newest = record {
    left = maps list store h at floor count key (Some None)
        (inl (
          newest.0,
          newest_in at (TableHolds table) (memory_entries list store) same _ newest.1,
        ));
    entry = tt;
  }
  memory_shows (Some it) newest =
      let mine = newest_in at (TableHolds table) (memory_entries list store) same
      (shown_entry key it) newest in
      record {
        left = maps list store h at floor count key (Some (Some it.value)) (inl (it.number, mine));
        entry = shows list store h at floor count (shown_entry key it) (inl mine) refl;
      }

  -- a version that is no deletion, as what it shows
  entry_of : (found : FoundVersion) → (IsSome (found_entry key found).value
      → IsShown at (all_entries list) (found_entry key found)) → (value : Option (Vec ℕ))
      → found.value ≡ value → IfSome (option_map (λ bytes. shown_version found bytes) value)
      (λ it. IsShown at (all_entries list) (shown_entry key it))
  entry_of found shown None is = tt
  entry_of found shown (Some bytes) is =
      let put : (found_entry key found).value ≡ Some bytes.items =
      ap (λ (v : Option (Vec ℕ)). option_map (λ b. b.items) v) is in
      subst (λ (v : Option (List ℕ)). IsShown at (all_entries list)
      (record { key = key; number = found.number; value = v })) put
      (shown (ap (λ (v : Option (List ℕ)). is_some v) put))

  -- where it has nothing, what the tables have
  pub tables_show : TableLookUpsAreMaps → (found : Option FoundVersion)
      → IsUnseen at (TableHolds table) key → TablesFind at store.tables key found
      → IsShownIn list at key (shown_of found)
  tables_show law None unseen finds =
      let none = unseen_in at (TableHolds table) (memory_entries list store) same key unseen in
      record { left = law list store h at floor count key None none finds; entry = tt }
  tables_show law (Some found) unseen finds =
      let none = unseen_in at (TableHolds table) (memory_entries list store) same key unseen in
      let stops : AboveLacks at list store key finds.0 =
      record { memory = none; tables = finds.1 } in
      record {
        left = value_left found found.value
            ∙ law list store h at floor count key (Some found) none finds;
        entry = entry_of found (shows list store h at floor count (found_entry key found)
            (inr (finds.0, stops, finds.2))) found.value refl;
      }

-- the answer of a lookup shows what was found
pub shown_as : {list : List BatchContent} {at : ℕ} {key : StoredKey} {shown : Option ShownValue}
    (result : Result (Option ShownValue) EngineError) → IfOk result (λ it. it ≡ shown)
    → IsShownIn list at key shown → IfOk result (IsShownIn list at key)
shown_as {list = list} {at = at} {key = key} (Ok it) is shows =
    subst (IsShownIn list at key) (sym is) shows
shown_as (Err e) is shows = tt

-- at the key of a row that is what the map has
pub of_row : RowsAreStored → (list : List BatchContent) (key : List ℕ) (stored : StoredKey)
    → stored ≡ row_key key → stored_map_of list stored ≡ map_of list key
of_row law list key stored is = ap (stored_map_of list) is ∙ law list key

-- ---- values that tables have are short

-- an entry of a table that a line names is one of a table
entry_fits : (left : Contents) (line : TableLine) (table : LevelTable) → IsTableOf left line table
    → (entry : Entry) → Contains table.entries entry → IsTableEntry entry
entry_fits left line table is entry has = on_bytes (left line.file) is.represents
  where
    on_bytes : (file : Option (List ℕ)) → IsSomeAnd file
        (λ bytes. (length bytes ≡ line.length) × TableRepresents bytes table.entries)
        → IsTableEntry entry
    on_bytes None h = absurd h
    on_bytes (Some bytes) h =
        (All-contains (IsEntryOf h.1.format) table.entries entry h.1.table.each has).limits

entries_fit : (left : Contents) (lines : List TableLine) (tables : List LevelTable)
    → AreTablesOf left lines tables → (table : LevelTable) → Contains tables table
    → (entry : Entry) → Contains table.entries entry → IsTableEntry entry
entries_fit left [] [] h table has entry there = absurd (let lt = has.1 in omega (arith, lt))
entries_fit left [] (t ∷ tables) h table has entry there = absurd h
entries_fit left (line ∷ lines) [] h table has entry there = absurd h
entries_fit left (line ∷ lines) (t ∷ tables) h table has entry there =
    elim (contains_cases t tables table has) [
      | inl same ↦ subst (λ (u : LevelTable). Contains u.entries entry → IsTableEntry entry) same
          (entry_fits left line t h.0 entry) there
      | inr later ↦ entries_fit left lines tables h.1 table later entry there
    ]

too_long : (value : Option (List ℕ)) → IfSome value (λ bytes. length bytes ≤ MAX_VALUE)
    → IsSomeAnd value (λ bytes. MAX_VALUE < length bytes) → ⊥
too_long None short long = absurd long
too_long (Some bytes) short long = omega (arith, short, long)

-- so no value that is found is too long
pub found_short : (left : Contents) (lines : List TableLine) (tables : List LevelTable)
    → AreTablesOf left lines tables → (at : ℕ) (key : StoredKey) (found : Option FoundVersion)
    → TablesFind at tables key found
    → IsSomeAnd (option_flatten (found_value found)) (λ bytes. MAX_VALUE < length bytes) → ⊥
found_short left lines tables h at key None finds long = absurd long
found_short left lines tables h at key (Some found) finds long =
    let seen = finds.2.seen.0 in
    let fits = entries_fit left lines tables h seen.0 seen.1 (found_entry key found) seen.3 in
    too_long (option_map (λ value. value.items) found.value) fits.value long

-- so it is not refused for its length
pub never_long : {T : Type 0} (found : Option FoundVersion) (result : Result T EngineError)
    → IfErr result (λ e. (e ≡ engine.Damaged)
    × IsSomeAnd (option_flatten (found_value found)) (λ bytes. MAX_VALUE < length bytes))
    → (IsSomeAnd (option_flatten (found_value found)) (λ bytes. MAX_VALUE < length bytes) → ⊥)
    → IfErr result (IsEnvironmental engine.Disk engine.Memory)
never_long found (Ok value) damaged short = tt
never_long found (Err e) damaged short = absurd (short damaged.1)

-- so an answer is not refused for damage
pub not_damaged : {T : Type 0} (found : Option FoundVersion) (result : Result T EngineError)
    → IfErr result (λ e. (e ≡ engine.Damaged)
    × IsSomeAnd (option_flatten (found_value found)) (λ bytes. MAX_VALUE < length bytes))
    → (IsSomeAnd (option_flatten (found_value found)) (λ bytes. MAX_VALUE < length bytes) → ⊥)
    → IsErrOf result engine.Damaged → ⊥
not_damaged found (Ok value) damaged short is = absurd cc
not_damaged found (Err e) damaged short is = absurd (short damaged.1)

-- a refusal that is passed on needs no disk where its cause needs none
pub unread_passed : {D T U : Type 0} {disk later : D} (result : Result U EngineError)
    {e : EngineError} → IsErrAnd result (λ s. s ≡ e) → NeedsNoDisk {T = T} disk later (Err e)
    → NeedsNoDisk disk later result
unread_passed result told unread = record {
  same = unread.same;
  causes = if_refuses result (λ s. IsEnd s → s ≡ engine.Memory) told unread.causes;
}

-- a read that answers is the same read with another answer
pub answered_alike : {D R T : Type 0} (g : Ghosts D) (old new : D) (x : R) (y : T)
    → OnlyReads g old new IsSame (Ok x) → OnlyReads g old new IsSame (Ok y)
answered_alike g old new x y reads = record {
  kept = kept_as g ((λ told. absurd cc), (λ told. absurd cc)) (λ a b h. h) reads.kept;
  causes = tt;
  still = reads.still;
}

-- ---- tables that lack a block

-- the line of one of the tables
record NamingLine (left : Contents) (lines : List TableLine) (table : LevelTable) : Type 0 where
  pub line : TableLine
  pub there : Contains lines line
  pub is : IsTableOf left line table

naming_line : (left : Contents) (lines : List TableLine) (tables : List LevelTable)
    → AreTablesOf left lines tables → (table : LevelTable) → Contains tables table
    → NamingLine left lines table
naming_line left [] [] named table has = absurd (let lt = has.1 in omega (arith, lt))
naming_line left [] (t ∷ tables) named table has = absurd named
naming_line left (line ∷ lines) [] named table has = absurd named
naming_line left (line ∷ lines) (t ∷ tables) named table has =
    elim (contains_cases t tables table has) [
      | inl same ↦ record {
        line = line;
        there = contains_head line lines;
        is = subst (IsTableOf left line) same named.0;
      }
      | inr later ↦
          let it = naming_line left lines tables named.1 table later in
          record { line = it.line; there = contains_next line lines it.line it.there; is = it.is }
    ]

-- a table that lacks the block of a key, and was needed, is named by a line
pub named_lacks : (disk meant : State) (key : StoredKey) (at flushed : ℕ) (lines : List TableLine)
    (tables : List LevelTable) → WereNamed disk meant lines tables → AreLeveled flushed tables
    → LevelsRise tables → OneLacksBlock disk tables key at → OneNamedLacksBlock disk lines key at
named_lacks disk meant key at flushed lines tables were leveled rise one =
    let it = naming_line (contents meant) lines tables were.named one.table one.there in
    record {
      line = it.line;
      there = it.there;
      lacks = subst (λ (f : ℕ). LacksBlock (disk f) (line_range it.line) key at) it.is.file
          (subst (λ (r : KeyRange). LacksBlock (disk one.table.file) r key at) it.is.range
          one.lacks);
      meant = meant;
      tables = tables;
      were = were;
      needed = subst (LesserLack at tables key) it.is.level (one.needed flushed leveled rise);
    }

-- ---- a batch of the logs

-- the batch of a number, by its place
placed : (list : List BatchContent) (i : ℕ) (batch : BatchContent) →
    slice_get list i ≡ Some batch → place list (suc i) ≡ Some batch
placed [] i batch got = absurd cc
placed (x ∷ list) zero batch got = got
placed (x ∷ list) (suc i) batch got = placed list i batch got

pub batch_found : (list : List BatchContent) (number : ℕ)
    (result : Result BatchContent EngineError) → 0 < number →
    MatchResult result (λ b. slice_get list (number - 1) ≡ Some b)
    (IsEnvironmental engine.Disk engine.Memory) →
    MatchResult result (λ b. place list number ≡ Some b) (IsEnvironmental engine.Disk engine.Memory)
batch_found list number (Ok b) some found =
    let next : number ≡ suc (number - 1) = omega (arith, some) in
    ap (place list) next ∙ placed list (number - 1) b found
batch_found list number (Err e) some machine = machine

-- its place in the list, of which so many were trimmed
pub found_behind : (list : List BatchContent) (trimmed number : ℕ)
    (result : Result BatchContent EngineError) → trimmed < number
    → MatchResult result (λ b. slice_get (drop trimmed list) (number - suc trimmed) ≡ Some b)
    (IsEnvironmental engine.Disk engine.Memory)
    → MatchResult result (λ b. place list number ≡ Some b)
    (IsEnvironmental engine.Disk engine.Memory)
found_behind list trimmed number (Ok b) behind found =
    let there : trimmed + (number - suc trimmed) ≡ number - 1 = omega (arith, behind) in
    let is = ap (slice_get list) (sym there)
    ∙ sym (slice_get-drop trimmed list (number - suc trimmed))
    ∙ found in
    batch_found list number (Ok b) (omega (arith, behind)) is
found_behind list trimmed number (Err e) behind machine = machine
