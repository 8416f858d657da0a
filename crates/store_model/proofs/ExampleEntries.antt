-- The entries of the worked example.
use Rattle.std.proofs.Common.{◌≡◌, ◌⊎◌, inl, inr, ℕ, zero, suc, ◌<◌, List, [], ◌∷◌, Contains}
use Rattle.std.proofs.Common.{slice_get, Option, Some, None, unwrap_or, true, false, cond, codes}
use Rattle.std.proofs.Common.{refl, sym, ◌∙◌, ap, subst, arith}
use Rattle.std.specs.Option.{option_or}
use Rattle.std.specs.Str.{bytes_eq}
use Rattle.std.proofs.lemmas.Bool.{cond_both}
use Rattle.std.proofs.lemmas.Slice.Eq.{bytes_eq-Decides}
use Rattle.byte_fields.specs.{StoredKey}
use Rattle.kv_types.specs.declared.edit.Edit.{Edit}
use Rattle.kv_types.specs.{BatchContent, Entry, all_entries, last_edit, stored_edits, unmarked}
use Rattle.kv_types.specs.Maps.{key_of, value_put}
use Rattle.kv_types.specs.Examples.{entry_at}
use Rattle.store_model.specs.Tables.{LevelTable, tables_entries}
use Rattle.store_model.specs.Stores.{memory_entries, store_entries}
use Rattle.store_model.specs.Examples.{deep_table, flushed_table, key_a, key_b, key_c}
use Rattle.store_model.specs.Examples.{three_batches, two_tables}
use Rattle.store_model.specs.PlacesLemmas.{contains_head, contains_next, contains_it, for_two}

-- keys that the test tells apart differ
pub other_key : (a b : List ℕ) → bytes_eq a b ≡ false → a ≡ b → ⊥
other_key a b test is =
    let equal = (bytes_eq-Decides a b).1 is in
    let e : true ≡ false = sym equal ∙ test in
    absurd cc

-- ---- the edit that gave an entry

-- one of the edits leaves the key this value
abbrev EditsGive : List Edit → List ℕ → Option (List ℕ) → Type 0
EditsGive [] key value = ⊥
EditsGive (edit ∷ edits) key value =
    ((key_of edit ≡ key) × (value_put edit ≡ value)) ⊎ EditsGive edits key value

by_test : (edit : Edit) (edits : List Edit) (key : List ℕ) (value : Option (List ℕ))
    → cond (bytes_eq (key_of edit) key) (Some (value_put edit)) None ≡ Some value
    → EditsGive (edit ∷ edits) key value
by_test edit edits key value =
    cond_both (bytes_eq (key_of edit) key) (Some (value_put edit)) None
    (λ found. found ≡ Some value → EditsGive (edit ∷ edits) key value)
    (λ equal is. inl ((bytes_eq-Decides (key_of edit) key).0 equal, cc (is)))
    (λ other is. absurd (cc (is)))

by_rest : (edit : Edit) (edits : List Edit) (key : List ℕ) (value : Option (List ℕ))
    → (last_edit edits key ≡ Some value → EditsGive edits key value)
    → (rest : Option (Option (List ℕ))) → last_edit edits key ≡ rest
    → option_or rest (cond (bytes_eq (key_of edit) key) (Some (value_put edit)) None) ≡ Some value
    → EditsGive (edit ∷ edits) key value
by_rest edit edits key value given (Some w) eq is = inr (given (eq ∙ is))
by_rest edit edits key value given None eq is = by_test edit edits key value is

given : (edits : List Edit) (key : List ℕ) (value : Option (List ℕ))
    → last_edit edits key ≡ Some value → EditsGive edits key value
given [] key value is = absurd (cc (is))
given (edit ∷ edits) key value is =
    by_rest edit edits key value (given edits key value) (last_edit edits key) refl is

-- ---- the entries

-- of a, the first batch
abbrev pub a1 : Entry
a1 = entry_at key_a 1 (Some (codes "1"))

-- of b, the first
abbrev pub b1 : Entry
b1 = entry_at key_b 1 (Some (codes "1"))

-- of a, the second
abbrev pub a2 : Entry
a2 = entry_at key_a 2 (Some (codes "2"))

-- of b, the second, which deletes it
abbrev pub b2 : Entry
b2 = entry_at key_b 2 None

-- of c, the third
abbrev pub c3 : Entry
c3 = entry_at key_c 3 (Some (codes "1"))

-- the batches by themselves
abbrev first_batch : BatchContent
first_batch = unwrap_or (slice_get three_batches 0) (unmarked [])

abbrev second_batch : BatchContent
second_batch = unwrap_or (slice_get three_batches 1) (unmarked [])

abbrev third_batch : BatchContent
third_batch = unwrap_or (slice_get three_batches 2) (unmarked [])

-- what holds of an entry holds of one with the same key, number and value
one_of : (P : Entry → Type 0) (key : StoredKey) (number : ℕ) (value : Option (List ℕ)) (e : Entry)
    → key ≡ e.key → e.number ≡ number → value ≡ e.value → P (entry_at key number value) → P e
one_of P key number value e k n v here =
    let same : entry_at key number value ≡ e =
    λ t. record { key = k t; number = sym n t; value = v t } in
    subst P same here

module _ (P : Entry → Type 0) where
  -- an entry of the three batches is one of five
  pub for_all : P a1 → P b1 → P a2 → P b2 → P c3 → (e : Entry) → all_entries three_batches e → P e
  for_all pa1 pb1 pa2 pb2 pc3 e (zero, batch, is, (number, last)) =
      let found = ap (λ o. last_edit (stored_edits (unwrap_or o (unmarked []))) e.key) is in
      elim (given (stored_edits first_batch) e.key e.value (found ∙ last)) [
        | inl h ↦ one_of P key_a 1 (Some (codes "1")) e h.0 number h.1 pa1
        | inr h ↦ elim h [
          | inl g ↦ one_of P key_b 1 (Some (codes "1")) e g.0 number g.1 pb1
          | inr none ↦ absurd none
        ]
      ]
  for_all pa1 pb1 pa2 pb2 pc3 e (suc zero, batch, is, (number, last)) =
      let found = ap (λ o. last_edit (stored_edits (unwrap_or o (unmarked []))) e.key) is in
      elim (given (stored_edits second_batch) e.key e.value (found ∙ last)) [
        | inl h ↦ one_of P key_a 2 (Some (codes "2")) e h.0 number h.1 pa2
        | inr h ↦ elim h [
          | inl g ↦ one_of P key_b 2 None e g.0 number g.1 pb2
          | inr none ↦ absurd none
        ]
      ]
  for_all pa1 pb1 pa2 pb2 pc3 e (suc (suc zero), batch, is, (number, last)) =
      let found = ap (λ o. last_edit (stored_edits (unwrap_or o (unmarked []))) e.key) is in
      elim (given (stored_edits third_batch) e.key e.value (found ∙ last)) [
        | inl h ↦ one_of P key_c 3 (Some (codes "1")) e h.0 number h.1 pc3
        | inr none ↦ absurd none
      ]
  for_all pa1 pb1 pa2 pb2 pc3 e (suc (suc (suc i)), batch, is, of) = absurd (cc (is))

  pub for_flushed : P a2 → P b2 → (e : Entry) → Contains flushed_table.entries e → P e
  for_flushed = for_two P a2 b2

  pub for_deep : P a1 → P b1 → (e : Entry) → Contains deep_table.entries e → P e
  for_deep = for_two P a1 b1

  -- an entry of both tables is one of four
  pub for_tables : P a1 → P b1 → P a2 → P b2 → (e : Entry)
      → tables_entries (flushed_table ∷ deep_table ∷ []) e → P e
  for_tables pa1 pb1 pa2 pb2 e h =
      for_two (λ (t : LevelTable). Contains t.entries e → P e) flushed_table deep_table
      (for_flushed pa2 pb2 e) (for_deep pa1 pb1 e) h.0 h.1 h.2

-- ---- where the entries are

pub flushed_there : Contains (flushed_table ∷ deep_table ∷ []) flushed_table
flushed_there = contains_head flushed_table (deep_table ∷ [])

pub deep_there : Contains (flushed_table ∷ deep_table ∷ []) deep_table
deep_there = contains_next flushed_table (deep_table ∷ []) deep_table (contains_it deep_table)

pub a2_there : tables_entries (flushed_table ∷ deep_table ∷ []) a2
a2_there = (flushed_table, flushed_there, contains_head a2 (b2 ∷ []))

pub b2_there : tables_entries (flushed_table ∷ deep_table ∷ []) b2
b2_there = (flushed_table, flushed_there, contains_next a2 (b2 ∷ []) b2 (contains_it b2))

pub a1_there : tables_entries (flushed_table ∷ deep_table ∷ []) a1
a1_there = (deep_table, deep_there, contains_head a1 (b1 ∷ []))

pub b1_there : tables_entries (flushed_table ∷ deep_table ∷ []) b1
b1_there = (deep_table, deep_there, contains_next a1 (b1 ∷ []) b1 (contains_it b1))

pub a1_given : all_entries three_batches a1
a1_given = (0, _, refl, (refl, refl))

pub b1_given : all_entries three_batches b1
b1_given = (0, _, refl, (refl, refl))

pub a2_given : all_entries three_batches a2
a2_given = (1, _, refl, (refl, refl))

pub b2_given : all_entries three_batches b2
b2_given = (1, _, refl, (refl, refl))

pub c3_given : all_entries three_batches c3
c3_given = (2, _, refl, (refl, refl))

pub c3_in_memory : memory_entries three_batches two_tables c3
c3_in_memory = (omega arith, omega arith, c3_given)

-- memory has c3 alone
pub for_memory : (P : Entry → Type 0) → P c3 → (e : Entry)
    → memory_entries three_batches two_tables e → P e
for_memory P pc3 e (later, high, g) =
    for_all (λ it. 2 < it.number → P it) (λ lt. absurd (omega (arith, lt)))
    (λ lt. absurd (omega (arith, lt))) (λ lt. absurd (omega (arith, lt)))
    (λ lt. absurd (omega (arith, lt))) (λ lt. pc3) e g high

-- the store has the entries of the three batches, and no others
pub in_store : (e : Entry) → all_entries three_batches e → store_entries three_batches two_tables e
in_store = for_all (store_entries three_batches two_tables) (inl a1_there) (inl b1_there)
    (inl a2_there) (inl b2_there) (inr c3_in_memory)

pub from_store : (e : Entry) → store_entries three_batches two_tables e
    → all_entries three_batches e
from_store e (inl h) =
    for_tables (all_entries three_batches) a1_given b1_given a2_given b2_given e h
from_store e (inr g) = g.2
