-- What a walk over tables in order of level has found.
use Rattle.std.proofs.Common.{◌≡◌, ◌⊎◌, inl, inr, ℕ, ◌<◌, ◌≤◌, List, [], ◌∷◌, ◌++◌, All}
use Rattle.std.proofs.Common.{Contains, Option, Some, None, refl, sym, ◌∙◌, ap, subst, arith}
use Rattle.std.proofs.Common.{Bool, true, false, ◌||◌, ◌==◌, ◌+◌, map, suc}
use Rattle.std.specs.Prelude.{is_some}
use Rattle.std.specs.List.{AllZip, insert, prefix_len}
use Rattle.std.proofs.lemmas.Bool.{cases_lt, eqb-true, ltb-false}
use Rattle.std.proofs.lemmas.List.Elements.{All-cons, All-head, All-nil, All-tail, All-contains}
use Rattle.std.proofs.lemmas.List.Elements.{Contains-append_cases, Contains-append_left}
use Rattle.std.proofs.lemmas.List.Elements.{Contains-push, Contains-push_cases}
use Rattle.disk.specs.{Contents, State}
use Rattle.byte_fields.specs.{StoredKey}
use Rattle.kv_types.specs.{Entry, IsNewest, IsUnseen}
use Rattle.sorted_table.specs.{found_entry}
use Rattle.sorted_table.specs.declared.FoundVersion.{FoundVersion}
use Rattle.store_model.specs.{LevelTable, TableLacks, level_entries}
use Rattle.store_model.specs.PlacesLemmas.{contains_none}
use Rattle.manifest.specs.declared.TableLine.{TableLine}
use Rattle.manifest.specs.Versions.{table_is_before}
use Rattle.store_tables.specs.declared.levels.OpenTable.{OpenTable}
use Rattle.store_tables.specs.LevelTables.{FlushedTablesRise, WasServed, is_flushed, with_flushed}
use Rattle.store_tables.specs.LevelTables.{with_flushed_line}
use Rattle.store_tables.specs.LevelTables.{AreTablesOf, EntriesFind, LesserLack, LevelsRise}
use Rattle.store_tables.specs.LevelTables.{LinesInOrderRise, TablesFind, TablesFindForStores}

-- ---- lines in order

neither_holds : (a b : Bool) → (a || b) ≡ false → a ≡ false
neither_holds true b is = is
neither_holds false b is = refl

abbrev NotDeeper : TableLine → TableLine → Type 0
NotDeeper line other = table_is_before other line ≡ false

not_deeper : (left : Contents) (line : TableLine) (level : ℕ) → level ≡ line.level
    → (lines : List TableLine) (tables : List LevelTable) → All (NotDeeper line) lines
    → AreTablesOf left lines tables → All (λ u. level ≤ u.level) tables
not_deeper left line level is [] [] each are = All-nil (λ (u : LevelTable). level ≤ u.level)
not_deeper left line level is [] (t ∷ ts) each are = absurd are
not_deeper left line level is (l ∷ ls) [] each are = absurd are
not_deeper left line level is (l ∷ ls) (t ∷ ts) each are =
    let le = ltb-false l.level line.level
    (neither_holds _ _ (All-head (NotDeeper line) l ls each)) in
    let same = are.0.level in
    All-cons (λ (u : LevelTable). level ≤ u.level) t ts (omega (arith, le, same, is))
    (not_deeper left line level is ls ts (All-tail (NotDeeper line) l ls each) are.1)

pub lines_in_order_rise : LinesInOrderRise
lines_in_order_rise left [] [] order are = tt
lines_in_order_rise left [] (t ∷ ts) order are = absurd are
lines_in_order_rise left (l ∷ ls) [] order are = absurd are
lines_in_order_rise left (l ∷ ls) (t ∷ ts) order are = (
  not_deeper left l t.level are.0.level ls ts order.0 are.1,
  lines_in_order_rise left ls ts order.1 are.1,
)

-- ---- a table of level 0 more

pub either : (b : Bool) → (b ≡ true) ⊎ (b ≡ false)
either true = inl refl
either false = inr refl

pub flushed_tables_rise : FlushedTablesRise
flushed_tables_rise [] table is rise = (All-nil (λ (u : LevelTable). table.level ≤ u.level), tt)
flushed_tables_rise (t ∷ ts) table is rise = elim (either (t.level == 0)) [
  | inl zeroth ↦
      let none : t.level ≡ 0 = eqb-true t.level 0 zeroth in
      rw zeroth (λ k d lt. omega (arith, none), flushed_tables_rise ts table is rise.1)
  | inr deeper ↦ rw deeper (λ k d lt. omega (arith, is), rise)
]

-- the line of an open table more
pub lines_with : (items : List OpenTable) (one : OpenTable)
    → map (λ (it : OpenTable). it.line) (insert items (prefix_len is_flushed items) one)
    ≡ with_flushed_line (map (λ (it : OpenTable). it.line) items) one.line
lines_with [] one = refl
lines_with (it ∷ items) one = elim (either (it.line.level == 0)) [
  | inl zeroth ↦
      let next : 1 + prefix_len is_flushed items ≡ suc (prefix_len is_flushed items) =
      omega arith in
      rw (zeroth, next) (ap (λ (l : List TableLine). it.line ∷ l) (lines_with items one))
  | inr deeper ↦ rw deeper refl
]

module _ (disk meant : State) (one : OpenTable) (table : LevelTable)
    (is : WasServed disk meant one table) where
  -- an open table more, behind those of level 0
  pub served_with : (items : List OpenTable) (tables : List LevelTable)
      → AllZip (WasServed disk meant) items tables
      → AllZip (WasServed disk meant) (insert items (prefix_len is_flushed items) one)
      (with_flushed tables table)
  served_with [] [] zip = (is, tt)
  served_with [] (t ∷ ts) zip = absurd zip
  served_with (a ∷ xs) [] zip = absurd zip
  served_with (a ∷ xs) (t ∷ ts) zip = elim (either (a.line.level == 0)) [
    | inl zeroth ↦
        let too : (t.level == 0) ≡ true = ap (λ n. n == 0) zip.0.serves.level ∙ zeroth in
        let next : 1 + prefix_len is_flushed xs ≡ suc (prefix_len is_flushed xs) =
        omega arith in
        rw (zeroth, too, next) (zip.0, served_with xs ts zip.1)
    | inr deeper ↦
        let too : (t.level == 0) ≡ false = ap (λ n. n == 0) zip.0.serves.level ∙ deeper in
        rw (deeper, too) (is, zip)
  ]

-- ---- what two sets of entries have together

module _ (at : ℕ) (key : StoredKey) (S T U : Entry → Type 0) (left : (e : Entry) → S e → U e)
    (right : (e : Entry) → T e → U e) (either : (e : Entry) → U e → S e ⊎ T e) where
  -- the newest of the one is not older than any of the other
  pub keeps_left : (mine : Entry) → mine.key ≡ key → IsNewest at S mine
      → ((other : Entry) → T other → other.number ≤ at → other.key ≡ key
      → other.number ≤ mine.number) → IsNewest at U mine
  keeps_left mine is it none = record {
    seen = (left mine it.seen.0, it.seen.1);
    newest = λ other seen same. elim (either other seen.0) [
      | inl one ↦ it.newest other (one, seen.1) same
      | inr two ↦ none other two seen.1 (same ∙ is)
    ];
  }

  -- only the first has entries of the key
  pub first_alone : (best : Option FoundVersion) → EntriesFind at S key best
      → IsUnseen at T key → EntriesFind at U key best
  first_alone (Some best) it none =
      keeps_left (found_entry key best) refl it
      (λ other two le same. absurd (none other (two, le) same))
  first_alone None it none = λ other seen same. elim (either other seen.0) [
    | inl one ↦ it other (one, seen.1) same
    | inr two ↦ none other (two, seen.1) same
  ]

  -- both have, and the first has the newer one
  pub first_newer : (best found : FoundVersion) → EntriesFind at S key (Some best)
      → EntriesFind at T key (Some found) → found.number ≤ best.number
      → EntriesFind at U key (Some best)
  first_newer best found it that le =
      keeps_left (found_entry key best) refl it
      (λ other two seen same. let h = that.newest other (two, seen) same in omega (arith, h, le))

-- ---- one table more of a level

module _ (tables : List LevelTable) (table : LevelTable) where
  in_former : (e : Entry) → level_entries tables table.level e
      → level_entries (tables ++ table ∷ []) table.level e
  in_former e it = (it.0, Contains-append_left tables (table ∷ []) it.0 it.1, it.2, it.3)

  in_new : (e : Entry) → Contains table.entries e
      → level_entries (tables ++ table ∷ []) table.level e
  in_new e it = (table, Contains-push tables table, refl, it)

  in_either : (e : Entry) → level_entries (tables ++ table ∷ []) table.level e
      → level_entries tables table.level e ⊎ Contains table.entries e
  in_either e it = elim (Contains-push_cases tables table it.0 it.1) [
    | inl old ↦ inl (it.0, old, it.2, it.3)
    | inr is ↦ inr (subst (λ (t : LevelTable). Contains t.entries e) (sym is) it.3)
  ]

  in_other : (e : Entry) → level_entries (tables ++ table ∷ []) table.level e
      → Contains table.entries e ⊎ level_entries tables table.level e
  in_other e it = elim (in_either e it) [ inl old ↦ inr old | inr new ↦ inl new ]

  module _ (at : ℕ) (key : StoredKey) where
    abbrev Former : Entry → Type 0
    Former = level_entries tables table.level

    abbrev Joined : Entry → Type 0
    Joined = level_entries (tables ++ table ∷ []) table.level

    abbrev New : Entry → Type 0
    New = Contains table.entries

    pub former_alone : (best : Option FoundVersion) → EntriesFind at Former key best
        → EntriesFind at New key None → EntriesFind at Joined key best
    former_alone = first_alone at key Former New Joined in_former in_new in_either

    pub new_alone : (found : Option FoundVersion) → EntriesFind at Former key None
        → EntriesFind at New key found → EntriesFind at Joined key found
    new_alone found none it =
        first_alone at key New Former Joined in_new in_former in_other found it none

    pub former_newer : (best found : FoundVersion) → EntriesFind at Former key (Some best)
        → EntriesFind at New key (Some found) → found.number ≤ best.number
        → EntriesFind at Joined key (Some best)
    former_newer = first_newer at key Former New Joined in_former in_new in_either

    pub new_newer : (best found : FoundVersion) → EntriesFind at Former key (Some best)
        → EntriesFind at New key (Some found) → best.number < found.number
        → EntriesFind at Joined key (Some found)
    new_newer best found it that lt =
        first_newer at key New Former Joined in_new in_former in_other found best that it
        (omega (arith, lt))

-- ---- a walk over tables in order of level

-- the walk has passed some tables, is in this level, and has found its newest entry of the key
pub record Walked (at : ℕ) (key : StoredKey) (passed rest : List LevelTable) (level : ℕ)
    (best : Option FoundVersion) : Type 0 where
  pub lesser : LesserLack at passed key level
  pub found : EntriesFind at (level_entries passed level) key best
  pub behind : (t : LevelTable) → Contains passed t → t.level ≤ level
  pub ahead : All (λ t. level ≤ t.level) rest
  pub rise : LevelsRise rest

abbrev NotLess : ℕ → LevelTable → Type 0
NotLess level t = level ≤ t.level

-- from a table on, every table is past a level that the table is past
past_level : (level : ℕ) (table : LevelTable) (rest : List LevelTable) → level < table.level
    → LevelsRise (table ∷ rest) → (t : LevelTable) → Contains (table ∷ rest) t → level < t.level
past_level level table rest lt rise t c =
    let all : All (NotLess table.level) (table ∷ rest) =
    All-cons (NotLess table.level) table rest (omega arith) rise.0 in
    let le : table.level ≤ t.level =
    All-contains (NotLess table.level) (table ∷ rest) t all c in
    omega (arith, le, lt)

module _ (at : ℕ) (key : StoredKey) where
  -- no table was passed
  pub none_walked : (tables : List LevelTable) → LevelsRise tables
      → Walked at key [] tables 0 None
  none_walked tables rise = record {
    lesser = λ t c lt. absurd (contains_none t c);
    found = λ other seen same. absurd (contains_none seen.0.0 seen.0.1);
    behind = λ t c. absurd (contains_none t c);
    ahead = λ k d lt. omega arith;
    rise = rise;
  }

  module _ (passed : List LevelTable) (level : ℕ) where
    -- of a walk that has found nothing, no table that was passed has an entry of the key
    none_lacks : (rest : List LevelTable) → Walked at key passed rest level None
        → (t : LevelTable) → Contains passed t → TableLacks at t key
    none_lacks rest it t c other seen same = elim (cases_lt t.level level) [
      | inl lt ↦ it.lesser t c lt other seen same
      | inr ge ↦
          let le = it.behind t c in
          it.found other ((t, c, omega (arith, ge, le), seen.0), seen.1) same
    ]

    -- all tables were passed
    pub all_walked : (best : Option FoundVersion) → Walked at key passed [] level best
        → TablesFind at passed key best
    all_walked None it = none_lacks [] it
    all_walked (Some best) it = (level, it.lesser, it.found)

    module _ (table : LevelTable) (rest : List LevelTable) where
      deeper : All (NotLess level) (table ∷ rest) → level ≤ table.level
      deeper = All-head (NotLess level) table rest

      left_entries : ((t : LevelTable) → Contains (table ∷ rest) t → level < t.level)
          → (mine : Entry) → IsNewest at (level_entries passed level) mine
          → IsNewest at (level_entries (passed ++ table ∷ rest) level) mine
      left_entries past mine it = record {
        seen = (
          (
            it.seen.0.0,
            Contains-append_left passed (table ∷ rest) it.seen.0.0 it.seen.0.1,
            it.seen.0.2,
            it.seen.0.3,
          ),
          it.seen.1,
        );
        newest = λ other seen same.
            elim (Contains-append_cases passed (table ∷ rest) seen.0.0 seen.0.1) [
              | inl old ↦ it.newest other ((seen.0.0, old, seen.0.2, seen.0.3), seen.1) same
              | inr new ↦
                  let h = past seen.0.0 new in
                  let is = seen.0.2 in
                  absurd (omega (arith, h, is))
            ];
      }

      -- the walk has found an entry, and a deeper level begins
      pub level_left : (best : FoundVersion)
          → Walked at key passed (table ∷ rest) level (Some best) → (table.level ≡ level → ⊥)
          → TablesFind at (passed ++ table ∷ rest) key (Some best)
      level_left best it another =
          let le = deeper it.ahead in
          let lt : level < table.level = elim (cases_lt level table.level) [
            | inl lt ↦ lt
            | inr ge ↦ absurd (another (omega (arith, ge, le)))
          ] in
          let past = past_level level table rest lt it.rise in (
            level,
            λ t c less. elim (Contains-append_cases passed (table ∷ rest) t c) [
              | inl old ↦ it.lesser t old less
              | inr new ↦ let h = past t new in absurd (omega (arith, h, less))
            ],
            left_entries past (found_entry key best) it.found,
          )

      -- what the walk knows of the level of the next table, before it looks into that
      abbrev IsReady : Option FoundVersion → Type 0
      IsReady best = LesserLack at passed key table.level
          × EntriesFind at (level_entries passed table.level) key best

      is_ready : (best : Option FoundVersion) → Walked at key passed (table ∷ rest) level best
          → (best ≡ None) ⊎ (table.level ≡ level) → IsReady best
      is_ready best it (inl none) =
          let none_there = none_lacks (table ∷ rest)
          (subst (λ (o : Option FoundVersion). Walked at key passed (table ∷ rest) level o)
          none it) in (
            λ t c lt. none_there t c,
            subst (λ (o : Option FoundVersion).
                EntriesFind at (level_entries passed table.level) key o) (sym none)
                (λ other seen same.
                none_there seen.0.0 seen.0.1 other (seen.0.3, seen.1) same),
          )
      is_ready best it (inr same) = (
        λ t c lt. it.lesser t c (omega (arith, lt, same)),
        subst (λ (n : ℕ). EntriesFind at (level_entries passed n) key best) (sym same) it.found,
      )

      -- before it looks into that, no table of a lesser level has an entry
      pub lesser_lack : (best : Option FoundVersion)
          → Walked at key passed (table ∷ rest) level best
          → (best ≡ None) ⊎ (table.level ≡ level)
          → LesserLack at (passed ++ table ∷ rest) key table.level
      lesser_lack best it goes_on t c less =
          elim (Contains-append_cases passed (table ∷ rest) t c) [
            | inl old ↦ (is_ready best it goes_on).0 t old less
            | inr new ↦
                let all : All (NotLess table.level) (table ∷ rest) =
                All-cons (NotLess table.level) table rest (omega arith) it.rise.0 in
                let le : table.level ≤ t.level =
                All-contains (NotLess table.level) (table ∷ rest) t all new in
                absurd (omega (arith, le, less))
          ]

      -- one table more
      pub one_walked : (best then : Option FoundVersion)
          → Walked at key passed (table ∷ rest) level best
          → (best ≡ None) ⊎ (table.level ≡ level)
          → (EntriesFind at (level_entries passed table.level) key best
          → EntriesFind at (level_entries (passed ++ table ∷ []) table.level) key then)
          → Walked at key (passed ++ table ∷ []) rest table.level then
      one_walked best then it goes_on found =
          let ready = is_ready best it goes_on in
          let le = deeper it.ahead in
          record {
            lesser = λ t c lt. elim (Contains-push_cases passed table t c) [
              | inl old ↦ ready.0 t old lt
              | inr is ↦
                  let same = ap (λ (u : LevelTable). u.level) is in
                  absurd (omega (arith, lt, same))
            ];
            found = found ready.1;
            behind = λ t c. elim (Contains-push_cases passed table t c) [
              | inl old ↦ let h = it.behind t old in omega (arith, h, le)
              | inr is ↦
                  let same = ap (λ (u : LevelTable). u.level) is in
                  omega (arith, same)
            ];
            ahead = it.rise.0;
            rise = it.rise.1;
          }

-- of a walk that has found an entry
pub found_left : (at : ℕ) (key : StoredKey) (passed : List LevelTable) (level : ℕ)
    (table : LevelTable)
    (rest : List LevelTable) (best : Option FoundVersion) → is_some best ≡ true
    → Walked at key passed (table ∷ rest) level best → (table.level ≡ level → ⊥)
    → TablesFind at (passed ++ table ∷ rest) key best
found_left at key passed level table rest None is it another = absurd cc
found_left at key passed level table rest (Some best) is it another =
    level_left at key passed level table rest best it another

pub none_found : (best : Option FoundVersion) → is_some best ≡ false → best ≡ None
none_found None is = refl
none_found (Some best) is = absurd cc

-- ---- lookups in stores

pub tables_find_for_stores : TablesFindForStores
tables_find_for_stores batches store at key None none it = (none, it)
tables_find_for_stores batches store at key (Some found) none it =
    inr (it.0, record { memory = none; tables = it.1 }, (found.number, it.2))
