-- A flush keeps the store, and a merge under way.
use Rattle.std.proofs.Common.{◌≡◌, ◌⊎◌, inl, inr, ℕ, suc, ◌<◌, ◌≤◌, List, [], ◌∷◌, length, take}
use Rattle.std.proofs.Common.{Contains, refl, subst, arith}
use Rattle.kv_types.specs.{BatchContent, Entry, stored_map_of}
use Rattle.store_model.specs.Keys.{AreDisjointRanges}
use Rattle.store_model.specs.Tables.{AreLeveled, FitsRange, LevelTable, tables_entries}
use Rattle.store_model.specs.Stores.{StoreRepresents, StoreState, store_entries}
use Rattle.store_model.specs.Steps.{AreAlikeDeeper, AreEdited, IsFlush, IsLater, IsUnderWay}
use Rattle.store_model.specs.Steps.{MergePlan, PlanFits, flushed_store}
use Rattle.store_model.specs.PlacesLemmas.{contains_none, contains_one, contains_it}
use Rattle.store_model.specs.StoresLemmas.{entry_within, one_entry}
use Rattle.store_model.specs.ViewsLemmas.{shown_in_both, shows_alike}

module _ (l : List BatchContent) (store : StoreState) (new : LevelTable) (after : List LevelTable)
    (ok : StoreRepresents l store) (flush : IsFlush l store new)
    (edited : AreEdited [] (new ∷ []) store.tables after) where
  -- a table after the flush is an old one or the new one
  old_or_new : (P : LevelTable → Type 0) (t : LevelTable) → Contains after t
      → (Contains store.tables t → P t) → P new → P t
  old_or_new P t in_t old it = elim (edited.stays t in_t) [
    | inl stayed ↦ old stayed.0
    | inr is ↦ subst P (contains_one new t is) it
  ]

  stays : (t : LevelTable) → Contains store.tables t → Contains after t
  stays t in_t = elim (edited.left t in_t) [
    | inl removed ↦ absurd (contains_none t removed)
    | inr there ↦ there
  ]

  new_there : Contains after new
  new_there = edited.new new (contains_it new)

  -- ---- numbers

  new_above : (a : Entry) → Contains new.entries a → store.flushed < a.number
  new_above a h = (flush.only a h).1

  new_within : (a : Entry) → Contains new.entries a → a.number ≤ length l
  new_within a h = entry_within l a (flush.only a h).2

  old_within : (t : LevelTable) → Contains store.tables t → (a : Entry) → Contains t.entries a
      → a.number ≤ store.flushed
  old_within t in_t a h = ok.tables.numbers a (t, in_t, h)

  -- an entry of an old table has a lesser number than one of the new table
  differ : (t : LevelTable) → Contains store.tables t → (a b : Entry) → Contains t.entries a
      → Contains new.entries b → b.number ≤ a.number → ⊥
  differ t in_t a b h g le =
      let low = old_within t in_t a h in
      let high = new_above b g in
      omega (arith, low, high, le)

  -- ---- the tables after the flush

  -- the tables share no entry, by key and number
  abbrev IsUnique : LevelTable → LevelTable → Type 0
  IsUnique t u = (a b : Entry) → Contains t.entries a → Contains u.entries b → a.key ≡ b.key
      → a.number ≡ b.number → (t ≡ u) × (a ≡ b)

  -- a table of a lesser level has greater numbers of one key
  abbrev IsNewer : LevelTable → LevelTable → Type 0
  IsNewer t u = t.level < u.level → (a b : Entry) → Contains t.entries a → Contains u.entries b
      → a.key ≡ b.key → b.number < a.number

  -- from level 1 on, tables of one level do not overlap
  abbrev IsBeside : LevelTable → LevelTable → Type 0
  IsBeside t u = t.level ≡ u.level → 0 < t.level → (t ≡ u) ⊎ AreDisjointRanges t.range u.range

  old_new_unique : (t : LevelTable) → Contains store.tables t → IsUnique t new
  old_new_unique t in_t a b h g same number =
      absurd (differ t in_t a b h g (omega (arith, number)))

  new_old_unique : (t : LevelTable) → Contains store.tables t → IsUnique new t
  new_old_unique t in_t a b h g same number =
      absurd (differ t in_t b a g h (omega (arith, number)))

  new_unique : IsUnique new new
  new_unique a b h g same number =
      (refl, one_entry l a b (flush.only a h).2 (flush.only b g).2 same number)

  after_unique : (t u : LevelTable) → Contains after t → Contains after u → IsUnique t u
  after_unique t u in_t in_u = old_or_new (λ t. IsUnique t u) t in_t
      (λ t_old. old_or_new (λ u. IsUnique t u) u in_u (λ u_old. ok.tables.unique t u t_old u_old)
      (old_new_unique t t_old))
      (old_or_new (λ u. IsUnique new u) u in_u (λ u_old. new_old_unique u u_old) new_unique)

  old_new_newer : (t : LevelTable) → IsNewer t new
  old_new_newer t lt = let zero_level = flush.level in absurd (omega (arith, lt, zero_level))

  new_old_newer : (t : LevelTable) → Contains store.tables t → IsNewer new t
  new_old_newer t in_t lt a b h g same =
      let low = old_within t in_t b g in
      let high = new_above a h in
      omega (arith, low, high)

  after_newer : (t u : LevelTable) → Contains after t → Contains after u → IsNewer t u
  after_newer t u in_t in_u = old_or_new (λ t. IsNewer t u) t in_t
      (λ t_old. old_or_new (λ u. IsNewer t u) u in_u (λ u_old. ok.tables.newer t u t_old u_old)
      (old_new_newer t))
      (old_or_new (λ u. IsNewer new u) u in_u (λ u_old. new_old_newer u u_old) (old_new_newer new))

  old_new_beside : (t : LevelTable) → IsBeside t new
  old_new_beside t eq pos =
      let zero_level = flush.level in absurd (omega (arith, eq, pos, zero_level))

  new_any_beside : (t : LevelTable) → IsBeside new t
  new_any_beside t eq pos = let zero_level = flush.level in absurd (omega (arith, pos, zero_level))

  after_beside : (t u : LevelTable) → Contains after t → Contains after u → IsBeside t u
  after_beside t u in_t in_u = old_or_new (λ t. IsBeside t u) t in_t
      (λ t_old. old_or_new (λ u. IsBeside t u) u in_u
      (λ u_old. ok.tables.disjoint t u t_old u_old) (old_new_beside t))
      (new_any_beside u)

  after_numbers : (a : Entry) → tables_entries after a → a.number ≤ length l
  after_numbers a h = old_or_new (λ t. Contains t.entries a → a.number ≤ length l) h.0 h.1
      (λ old g.
      let low = old_within h.0 old a g in
      let le = ok.flushed_count in
      omega (arith, low, le))
      (λ g. new_within a g) h.2

  flush_leveled : AreLeveled (length l) after
  flush_leveled = record {
    ranges = λ t in_t.
        old_or_new (λ t. FitsRange t) t in_t (λ old. ok.tables.ranges t old) flush.range;
    numbers = after_numbers;
    unique = after_unique;
    newer = after_newer;
    disjoint = after_beside;
  }

  -- ---- the same entries

  to_flushed : (a : Entry) → store_entries l store a
      → store_entries l (flushed_store l store after) a
  to_flushed a (inl h) = inl (h.0, stays h.0 h.1, h.2)
  to_flushed a (inr g) = inl (new, new_there, flush.all a g)

  from_flushed : (a : Entry) → store_entries l (flushed_store l store after) a
      → store_entries l store a
  from_flushed a (inl h) =
      old_or_new (λ t. Contains t.entries a → store_entries l store a) h.0 h.1
      (λ old g. inl (h.0, old, g)) (λ g. inr (flush.only a g)) h.2
  from_flushed a (inr g) =
      let high = g.1 in
      let low = entry_within l a g.2 in
      absurd (omega (arith, high, low))

  pub flush_keeps : StoreRepresents l (flushed_store l store after)
  flush_keeps =
      let a = ok.kept_current in
      let b = ok.current_flushed in
      let c = ok.flushed_count in
      record {
        tables = flush_leveled;
        kept_floor = ok.kept_floor;
        kept_current = omega (arith, a, b, c);
        current_flushed = omega arith;
        flushed_count = omega arith;
        floor_count = ok.floor_count;
        views = λ at high short key.
            shows_alike (store_entries l store) (store_entries l (flushed_store l store after)) at
            key (stored_map_of (take at l) key) (λ a le h. to_flushed a h)
            (λ a le h. from_flushed a h)
            (ok.views at high short key);
        real = λ at high short entry shown. ok.real at high short entry
            (shown_in_both (store_entries l (flushed_store l store after)) (store_entries l store)
            at entry (λ a le h. from_flushed a h) (λ a le h. to_flushed a h) shown);
      }

  -- ---- a merge under way

  flush_fits : (base : ℕ) (plan : MergePlan) → base ≤ store.flushed
      → PlanFits base plan store.tables → PlanFits base plan after
  flush_fits base plan le fits =
      let zero_level = flush.level in
      record {
        there = λ t in_t. stays t (fits.there t in_t);
        levels = fits.levels;
        early = fits.early;
        upper = λ t in_t. old_or_new (λ t. t.level ≡ plan.level → Contains plan.inputs t
            ⊎ (IsLater base t ⊎ AreDisjointRanges plan.range t.range)) t in_t
            (λ old. fits.upper t old)
            (λ at. inr (inl (λ a h. let high = new_above a h in omega (arith, high, le))));
        lower = λ t in_t. old_or_new (λ t. t.level ≡ suc plan.level → Contains plan.inputs t
            ⊎ AreDisjointRanges plan.range t.range) t in_t
            (λ old. fits.lower t old) (λ at. absurd (omega (arith, at, zero_level)));
      }

  flush_alike : (before : List LevelTable) → AreAlikeDeeper before store.tables
      → AreAlikeDeeper before after
  flush_alike before alike =
      let zero_level = flush.level in
      record {
        to = λ t in_t pos. stays t (alike.to t in_t pos);
        back = λ t in_t. old_or_new (λ t. 0 < t.level → Contains before t) t in_t
            (λ old pos. alike.back t old pos) (λ pos. absurd (omega (arith, pos, zero_level)));
      }

  pub flush_leaves : (plan : MergePlan) → IsUnderWay store plan
      → IsUnderWay (flushed_store l store after) plan
  flush_leaves plan way =
      let a = way.base_flushed in
      let b = ok.flushed_count in
      record {
        base = way.base;
        base_flushed = omega (arith, a, b);
        fits = flush_fits way.base plan way.base_flushed way.fits;
        alike = flush_alike plan.tables way.alike;
      }
