-- What a lookup finds first is what the map has, and what the view of the batches has.
use Rattle.std.proofs.Common.{◌≡◌, inl, inr, ℕ, ◌≤◌, List, length, take}
use Rattle.std.proofs.Common.{Contains, Option, Some, None, refl, sym, ◌∙◌, arith, subst}
use Rattle.std.specs.Prelude.{IsSome}
use Rattle.std.specs.Option.{option_flatten}
use Rattle.std.proofs.lemmas.Bool.{cases_lt}
use Rattle.kv_types.specs.Examples.{entry_at}
use Rattle.byte_fields.specs.{StoredKey}
use Rattle.kv_types.specs.{BatchContent, Entry, IsNewest, IsShown, ViewShows}
use Rattle.kv_types.specs.{all_entries, stored_map_of}
use Rattle.store_model.specs.Tables.{LevelTable, level_entries}
use Rattle.store_model.specs.Stores.{StoreRepresents, StoreState, memory_entries, store_entries}
use Rattle.store_model.specs.LookUps.{AboveLacks, StoreFinds, StoreStopsAt}
use Rattle.store_model.specs.StoresLemmas.{entries_differ}
use Rattle.store_model.specs.ViewsLemmas.{shows_one}

module _ (l : List BatchContent) (store : StoreState) (ok : StoreRepresents l store) (at : ℕ)
    (key : StoredKey) where
  -- the entries in memory
  abbrev Memory : Entry → Type 0
  Memory = memory_entries l store

  -- the newest entry in memory is the newest of all
  newest_in_memory : (mine : Entry) → IsNewest at Memory mine
      → IsNewest at (store_entries l store) mine
  newest_in_memory mine it = record {
    seen = (inr it.seen.0, it.seen.1);
    newest = λ other seen same. elim seen.0 [
      | inl old ↦
          let low = ok.tables.numbers other old in
          let memory = it.seen.0 in
          let high = memory.1 in
          omega (arith, low, high)
      | inr new ↦ it.newest other (new, seen.1) same
    ];
  }

  -- the newest entry of a level is newer than those of deeper levels
  newest_in_level : (level : ℕ) (mine : Entry) → mine.key ≡ key → AboveLacks at l store key level
      → IsNewest at (level_entries store.tables level) mine → (u : LevelTable)
      → Contains store.tables u → (other : Entry) → Contains u.entries other → other.number ≤ at
      → other.key ≡ key → other.number ≤ mine.number
  newest_in_level level mine is none it u in_u other h le same =
      let t = it.seen.0.0 in
      let t_at = it.seen.0.2 in
      elim (cases_lt u.level level) [
        | inl lt ↦ absurd (none.tables u in_u lt other (h, le) same)
        | inr ge ↦ elim (cases_lt level u.level) [
          | inl deeper ↦
              let less = ok.tables.newer t u it.seen.0.1 in_u (omega (arith, deeper, t_at)) mine
              other it.seen.0.3 h (is ∙ sym same) in
              omega (arith, less)
          | inr not ↦
              it.newest other ((u, in_u, omega (arith, ge, not), h), le) (same ∙ sym is)
        ]
      ]

  -- where no other before has one, it is the newest of all
  newest_of_level : (level : ℕ) (mine : Entry) → mine.key ≡ key → AboveLacks at l store key level
      → IsNewest at (level_entries store.tables level) mine
      → IsNewest at (store_entries l store) mine
  newest_of_level level mine is none it = record {
    seen = (inl (it.seen.0.0, it.seen.0.1, it.seen.0.3), it.seen.1);
    newest = λ other seen same. elim seen.0 [
      | inl old ↦
          newest_in_level level mine is none it old.0 old.1 other old.2 seen.1 (same ∙ is)
      | inr new ↦ absurd (none.memory other (new, seen.1) (same ∙ is))
    ];
  }

  shown : (found : Option (Option (List ℕ))) → StoreFinds at l store key found
      → ViewShows at (store_entries l store) key (option_flatten found)
  shown (Some value) (inl it) = inl (it.0, newest_in_memory (entry_at key it.0 value) it.1)
  shown (Some value) (inr it) =
      inl (it.2.0, newest_of_level it.0 (entry_at key it.2.0 value) refl it.1 it.2.1)
  shown None none = inr (
    λ other seen same. elim seen.0 [
      | inl old ↦ none.1 old.0 old.1 other (old.2, seen.1) same
      | inr new ↦ none.0 other (new, seen.1) same
    ],
    refl,
  )

  view_one : (v w : Option (List ℕ)) → ViewShows at (store_entries l store) key v
      → ViewShows at (store_entries l store) key w → v ≡ w
  view_one = shows_one (store_entries l store) at key (entries_differ l store ok)

  pub view_is_map : store.floor ≤ at → at ≤ length l → (value : Option (List ℕ))
      → ViewShows at (store_entries l store) key value → stored_map_of (take at l) key ≡ value
  view_is_map high short value shown =
      view_one (stored_map_of (take at l) key) value (ok.views at high short key) shown

  pub look_up_is_map : store.floor ≤ at → at ≤ length l → (found : Option (Option (List ℕ)))
      → StoreFinds at l store key found → option_flatten found ≡ stored_map_of (take at l) key
  look_up_is_map high short found finds =
      view_one (option_flatten found) (stored_map_of (take at l) key) (shown found finds)
      (ok.views at high short key)

  pub look_up_is_shown : store.floor ≤ at → at ≤ length l → (mine : Entry) → mine.key ≡ key
      → StoreStopsAt at l store mine → IsSome mine.value → IsShown at (all_entries l) mine
  look_up_is_shown high short mine is (inl it) put =
      ok.real at high short mine (record { newest = newest_in_memory mine it; put = put })
  look_up_is_shown high short mine is (inr it) put =
      let none = subst (λ k. AboveLacks at l store k it.0) is it.1 in
      ok.real at high short mine
      (record { newest = newest_of_level it.0 mine is none it.2; put = put })
