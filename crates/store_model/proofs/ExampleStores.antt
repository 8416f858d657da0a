-- The worked example: the store, its reads and its merge.
use Rattle.std.proofs.Common.{◌≡◌, ◌⊎◌, inl, inr, ℕ, ◌<◌, ◌≤◌, List, [], ◌∷◌, Contains, take}
use Rattle.std.proofs.Common.{Option, Some, None, codes, refl, sym, arith}
use Rattle.std.specs.declared.cmp.Ordering.TheVariants.{Less, Equal, Greater}
use Rattle.byte_fields.specs.{StoredKey}
use Rattle.kv_types.specs.{Entry, IsUnseen, all_entries, stored_map_of}
use Rattle.kv_types.specs.Entries.{ViewsAreStored}
use Rattle.store_model.specs.Keys.{AreDisjointRanges, KeyPrecedes, RangeHolds}
use Rattle.store_model.specs.Tables.{AreLeveled, FitsRange, LevelTable, level_entries}
use Rattle.store_model.specs.Tables.{tables_entries}
use Rattle.store_model.specs.Stores.{StoreRepresents, memory_entries, store_entries}
use Rattle.store_model.specs.LookUps.{AboveLacks, NewestHas, TableLacks}
use Rattle.store_model.specs.Examples.{StoreExamples, both_keys}
use Rattle.store_model.specs.Examples.{deep_table, flushed_table}
use Rattle.store_model.specs.Examples.{three_batches, two_tables}
use Rattle.store_model.specs.Examples.{key_a, key_b, key_c}
use Rattle.store_model.specs.PlacesLemmas.{contains_head, contains_it, contains_next}
use Rattle.store_model.specs.PlacesLemmas.{for_two}
use Rattle.store_model.specs.StoresLemmas.{one_entry}
use Rattle.store_model.specs.ViewsLemmas.{shown_in_both, shows_alike}
use Rattle.store_model.proofs.ExampleEntries.{a1, a2, b1}
use Rattle.store_model.proofs.ExampleEntries.{b2}
use Rattle.store_model.proofs.ExampleEntries.{c3_in_memory, deep_there, flushed_there, for_deep}
use Rattle.store_model.proofs.ExampleEntries.{for_flushed, for_memory, for_tables, from_store}
use Rattle.store_model.proofs.ExampleEntries.{in_store, other_key}

-- ---- keys

pub a_not_a : KeyPrecedes key_a key_a → ⊥
a_not_a h = let e : Equal ≡ Less = h in absurd cc

pub b_not_a : KeyPrecedes key_b key_a → ⊥
b_not_a h = let e : Greater ≡ Less = h in absurd cc

pub b_not_b : KeyPrecedes key_b key_b → ⊥
b_not_b h = let e : Equal ≡ Less = h in absurd cc

-- ---- the store

flushed_fits : FitsRange flushed_table
flushed_fits = record {
  proper = b_not_a;
  within = for_flushed (λ e. RangeHolds both_keys e.key) (a_not_a, b_not_a) (b_not_a, b_not_b);
}

deep_fits : FitsRange deep_table
deep_fits = record {
  proper = b_not_a;
  within = for_deep (λ e. RangeHolds both_keys e.key) (a_not_a, b_not_a) (b_not_a, b_not_b);
}

flushed_number : (e : Entry) → Contains flushed_table.entries e → e.number ≡ 2
flushed_number = for_flushed (λ e. e.number ≡ 2) refl refl

deep_number : (e : Entry) → Contains deep_table.entries e → e.number ≡ 1
deep_number = for_deep (λ e. e.number ≡ 1) refl refl

given : (e : Entry) → tables_entries two_tables.tables e → all_entries three_batches e
given e h = from_store e (inl h)

-- the two tables share no number
apart : (a b : Entry) → Contains flushed_table.entries a → Contains deep_table.entries b
    → a.number ≡ b.number → ⊥
apart a b h g number =
    let two = flushed_number a h in
    let one = deep_number b g in
    omega (arith, two, one, number)

-- tables that share a number are one
abbrev IsOne : LevelTable → LevelTable → Type 0
IsOne t u = (a b : Entry) → Contains t.entries a → Contains u.entries b → a.number ≡ b.number
    → t ≡ u

one_is : (t u : LevelTable) → Contains two_tables.tables t → Contains two_tables.tables u
    → IsOne t u
one_is t u in_t in_u =
    for_two (λ z. IsOne z u) flushed_table deep_table
    (for_two (IsOne flushed_table) flushed_table deep_table (λ a b h g number. refl)
    (λ a b h g number. absurd (apart a b h g number)) u in_u)
    (for_two (IsOne deep_table) flushed_table deep_table
    (λ a b h g number. absurd (apart b a g h (sym number))) (λ a b h g number. refl) u in_u) t in_t

-- a lesser level has greater numbers
abbrev IsNewer : LevelTable → LevelTable → Type 0
IsNewer t u = t.level < u.level → (a b : Entry) → Contains t.entries a → Contains u.entries b
    → b.number < a.number

newer_is : (t u : LevelTable) → Contains two_tables.tables t → Contains two_tables.tables u
    → IsNewer t u
newer_is t u in_t in_u =
    for_two (λ z. IsNewer z u) flushed_table deep_table
    (for_two (IsNewer flushed_table) flushed_table deep_table (λ lt. absurd (omega (arith, lt)))
    (λ lt a b h g.
    let two = flushed_number a h in
    let one = deep_number b g in
    omega (arith, two, one)) u in_u)
    (for_two (IsNewer deep_table) flushed_table deep_table (λ lt. absurd (omega (arith, lt)))
    (λ lt. absurd (omega (arith, lt))) u in_u) t in_t

-- level 1 has one table
abbrev IsBeside : LevelTable → LevelTable → Type 0
IsBeside t u = t.level ≡ u.level → 0 < t.level → (t ≡ u) ⊎ AreDisjointRanges t.range u.range

beside_is : (t u : LevelTable) → Contains two_tables.tables t → Contains two_tables.tables u
    → IsBeside t u
beside_is t u in_t in_u =
    for_two (λ z. IsBeside z u) flushed_table deep_table (λ eq pos. absurd (omega (arith, pos)))
    (for_two (IsBeside deep_table) flushed_table deep_table
    (λ eq pos. absurd (omega (arith, eq))) (λ eq pos. inl refl) u in_u) t in_t

pub leveled : AreLeveled 2 two_tables.tables
leveled = record {
  ranges = for_two FitsRange flushed_table deep_table flushed_fits deep_fits;
  numbers = for_tables (λ e. e.number ≤ 2) (omega arith) (omega arith) (omega arith) (omega arith);
  unique = λ t u in_t in_u a b h g same number. (
    one_is t u in_t in_u a b h g number,
    one_entry three_batches a b (given a (t, in_t, h)) (given b (u, in_u, g)) same number,
  );
  newer = λ t u in_t in_u lt a b h g same. newer_is t u in_t in_u lt a b h g;
  disjoint = beside_is;
}

-- the store has every entry of the batches, so that its views are theirs
pub two_represent : ViewsAreStored → StoreRepresents three_batches two_tables
two_represent law = record {
  tables = leveled;
  kept_floor = omega arith;
  kept_current = omega arith;
  current_flushed = omega arith;
  flushed_count = omega arith;
  floor_count = omega arith;
  views = λ at high short key.
      let value = stored_map_of (take at three_batches) key in
      shows_alike (all_entries three_batches) (store_entries three_batches two_tables) at key value
      (λ e le h. in_store e h) (λ e le h. from_store e h)
      ((law three_batches at key value).1 refl);
  real = λ at high short entry shown.
      shown_in_both (store_entries three_batches two_tables) (all_entries three_batches) at entry
      (λ e le h. from_store e h) (λ e le h. in_store e h) shown;
}

-- ---- reads

-- c3 has another key than what is looked up
memory_lacks : (at : ℕ) (key : StoredKey) → (key_c ≡ key → ⊥)
    → IsUnseen at (memory_entries three_batches two_tables) key
memory_lacks at key other e seen same =
    for_memory (λ it. it.key ≡ key → ⊥) other e seen.0 same

c_not_a : key_c ≡ key_a → ⊥
c_not_a = other_key key_c key_a refl

pub c_not_b : key_c ≡ key_b → ⊥
c_not_b = other_key key_c key_b refl

memory_finds : NewestHas 3 (memory_entries three_batches two_tables) key_c (Some (codes "1"))
memory_finds = (
  3,
  record { seen = (c3_in_memory, omega arith); newest = λ other seen same. seen.1 },
)

nothing_above : (at : ℕ) (key : StoredKey) → (key_c ≡ key → ⊥)
    → AboveLacks at three_batches two_tables key 0
nothing_above at key other = record {
  memory = memory_lacks at key other;
  tables = λ t in_t lt. absurd (omega (arith, lt));
}

-- the flushed table has nothing at number 1
flushed_lacks : (key : StoredKey) → TableLacks 1 flushed_table key
flushed_lacks key e seen same =
    let two = flushed_number e seen.0 in
    let le = seen.1 in
    omega (arith, two, le)

level_0_lacks : (key : StoredKey) → (key_c ≡ key → ⊥)
    → AboveLacks 1 three_batches two_tables key 1
level_0_lacks key other = record {
  memory = memory_lacks 1 key other;
  tables = for_two (λ t. t.level < 1 → TableLacks 1 t key) flushed_table deep_table
      (λ lt. flushed_lacks key) (λ lt. absurd (omega (arith, lt)));
}

level_0_finds : (at : ℕ) → 2 ≤ at → (key : StoredKey) (value : Option (List ℕ))
    → Contains flushed_table.entries (record { key = key; number = 2; value = value })
    → NewestHas at (level_entries two_tables.tables 0) key value
level_0_finds at high key value has = (
  2,
  record {
    seen = ((flushed_table, flushed_there, refl, has), high);
    newest = λ other seen same.
        for_two (λ t. t.level ≡ 0 → Contains t.entries other → other.number ≤ 2) flushed_table
        deep_table (λ eq h. let two = flushed_number other h in omega (arith, two))
        (λ eq h. let one = deep_number other h in omega (arith, one)) seen.0.0 seen.0.1 seen.0.2
        seen.0.3;
  },
)

level_1_finds : (key : StoredKey) (value : Option (List ℕ))
    → Contains deep_table.entries (record { key = key; number = 1; value = value })
    → NewestHas 1 (level_entries two_tables.tables 1) key value
level_1_finds key value has = (
  1,
  record {
    seen = ((deep_table, deep_there, refl, has), omega arith);
    newest = λ other seen
        same. seen.1;
  },
)

memory_is_later : IsUnseen 2 (memory_entries three_batches two_tables) key_c
memory_is_later e seen same =
    let le = seen.1 in
    for_memory (λ it. it.number ≤ 2 → ⊥) (λ it. omega (arith, it)) e seen.0 le

a_not_c : key_a ≡ key_c → ⊥
a_not_c = other_key key_a key_c refl

b_not_c : key_b ≡ key_c → ⊥
b_not_c = other_key key_b key_c refl

c_nowhere : (t : LevelTable) → Contains two_tables.tables t → TableLacks 2 t key_c
c_nowhere t in_t e seen same =
    for_tables (λ it. it.key ≡ key_c → ⊥) a_not_c b_not_c a_not_c b_not_c e (t, in_t, seen.0)
    same

pub store_examples : ViewsAreStored → StoreExamples
store_examples law = record {
  represents = two_represent law;
  in_memory = inl memory_finds;
  in_level_0 = inr (
    0,
    nothing_above 3 key_a c_not_a,
    level_0_finds 3 (omega arith) key_a (Some (codes "2")) (contains_head a2 (b2 ∷ [])),
  );
  in_level_1 = inr (
    1,
    level_0_lacks key_a c_not_a,
    level_1_finds key_a (Some (codes "1")) (contains_head a1 (b1 ∷ [])),
  );
  deletion = inr (
    0,
    nothing_above 2 key_b c_not_b,
    level_0_finds 2 (omega arith) key_b None
        (contains_next a2 (b2 ∷ []) b2 (contains_it b2)),
  );
  before_deletion = inr (
    1,
    level_0_lacks key_b c_not_b,
    level_1_finds key_b (Some (codes "1"))
        (contains_next a1 (b1 ∷ []) b1 (contains_it b1)),
  );
  nowhere = (memory_is_later, c_nowhere);
}
