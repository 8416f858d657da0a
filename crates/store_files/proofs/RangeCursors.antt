-- Cursors over the tables and the memory of a store have its entries in a range.
use Rattle.std.proofs.Common.{◌↔◌, inl, inr, List, [], ◌∷◌, ◌++◌, Contains, arith}
use Rattle.std.proofs.Common.{Bool, subst}
use Rattle.std.specs.List.{filter}
use Rattle.kv_types.specs.Pages.{IsWithin}
use Rattle.kv_types.specs.{BatchContent, Entry, Span}
use Rattle.merge_iter.specs.declared.Cursor.{Ghosts}
use Rattle.merge_iter.specs.{AreDisjoint, AreSound, IsAlike, union_of}
use Rattle.store_model.specs.PlacesLemmas.{contains_cases, contains_head, contains_next}
use Rattle.store_model.specs.{LevelTable, StoreRepresents, StoreState, memory_entries}
use Rattle.store_model.specs.{store_entries, tables_entries}
use Rattle.store_tables.specs.CursorListsLemmas.{apart_more, each_more, union_more}
use Rattle.store_tables.specs.RangeReads.{tables_in}
use Rattle.store_files.specs.RangeEntries.{HasRange}
use Rattle.store_files.proofs.Records.{either}

-- what a filter keeps was there
kept_was : {A : Type 0} (p : A → Bool) (xs : List A) (x : A) → Contains (filter p xs) x
    → Contains xs x
kept_was p [] x has = has
kept_was p (y ∷ xs) x has = elim (either (p y)) [
  | inl passes ↦ elim (contains_cases y (filter p xs) x (rw passes at has)) [
    | inl is ↦ subst (Contains (y ∷ xs)) is (contains_head y xs)
    | inr later ↦ contains_next y xs x (kept_was p xs x later)
  ]
  | inr fails ↦ contains_next y xs x (kept_was p xs x (rw fails at has))
]

-- the entries of tables that meet a range are those of tables
some_tables : (range : Span) (tables : List LevelTable) (entry : Entry)
    → tables_entries (tables_in range tables) entry → tables_entries tables entry
some_tables range tables entry has =
    (has.0, kept_was (λ (t : LevelTable). _) tables has.0 has.1, has.2)

module _ {C S : Type 0} (g : Ghosts C S) (meant : g.Meant) (source : S) (cursors : List C)
    (memory : C) (list : List BatchContent) (store : StoreState) (ok : StoreRepresents list store)
    (range : Span)
    (met : IsAlike (union_of g meant cursors source)
    (tables_entries (tables_in range store.tables)))
    (holds : IsAlike (g.holds meant memory source) (memory_entries list store)) where
  -- with the memory they are sound
  pub all_sound : AreSound g meant cursors source → g.is_sound meant memory source
      → AreSound g meant (cursors ++ memory ∷ []) source
  all_sound each one = each_more (λ (c : C). g.is_sound meant c source) cursors memory each one

  -- numbers in memory are above those of tables
  pub all_apart : AreDisjoint g meant cursors source
      → AreDisjoint g meant (cursors ++ memory ∷ []) source
  all_apart apart =
      apart_more (λ (c : C). g.holds meant c source) cursors memory apart
      (λ a b in_tables in_memory key number.
      let low = ok.tables.numbers a (some_tables range store.tables a ((met a).0 in_tables)) in
      let high = ((holds b).0 in_memory).1 in
      omega (arith, low, high, number))

  -- and together they have the entries of the store in the range
  pub all_in_range : ((entry : Entry) → IsWithin range entry.key
      → union_of g meant cursors source entry ↔ tables_entries store.tables entry)
      → HasRange range (store_entries list store)
      (union_of g meant (cursors ++ memory ∷ []) source)
  all_in_range within = record {
    sound = λ entry has.
        elim ((union_more (λ (c : C). g.holds meant c source) cursors memory entry).0 has) [
          | inl it ↦ inl (some_tables range store.tables entry ((met entry).0 it))
          | inr it ↦ inr ((holds entry).0 it)
        ];
    all = λ entry has inside.
        (union_more (λ (c : C). g.holds meant c source) cursors memory entry).1 (elim has as
        (λ _. _) [
          | inl it ↦ inl ((within entry inside).1 it)
          | inr it ↦ inr ((holds entry).1 it)
        ]);
  }
