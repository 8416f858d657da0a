-- The entries of batches and of a store: their numbers, and that no two share key and number.
use Rattle.std.proofs.Common.{◌≡◌, inl, inr, ◌≤◌, List, length, slice_get, Some}
use Rattle.std.proofs.Common.{sym, ◌∙◌, subst, arith}
use Rattle.std.proofs.lemmas.Option.{slice_get_within}
use Rattle.kv_types.specs.{BatchContent, Entry, all_entries, last_edit, stored_edits}
use Rattle.store_model.specs.Stores.{StoreRepresents, StoreState, store_entries}

-- no entry has a number greater than that of the last batch
pub entry_within : (l : List BatchContent) (a : Entry) → all_entries l a → a.number ≤ length l
entry_within l a (i, batch, is, of) =
    let number = of.0 in
    let lt = slice_get_within l i batch is in
    omega (arith, number, lt)

-- a key and a number have one entry
pub one_entry : (l : List BatchContent) (a b : Entry) → all_entries l a → all_entries l b
    → a.key ≡ b.key → a.number ≡ b.number → a ≡ b
one_entry l a b (i, batch, is, of) (j, other, it, by) same number =
    let p = of.0 in
    let q = by.0 in
    let at : i ≡ j = omega (arith, p, q, number) in
    let there : slice_get l j ≡ Some batch = subst (λ n. slice_get l n ≡ Some batch) at is in
    let one : batch ≡ other = let h : Some batch ≡ Some other = sym there ∙ it in cc in
    let last : last_edit (stored_edits other) b.key ≡ Some a.value =
    subst (λ z. last_edit (stored_edits z) b.key ≡ Some a.value) one
    (subst (λ k. last_edit (stored_edits batch) k ≡ Some a.value) same of.1) in
    let value : a.value ≡ b.value = let h : Some a.value ≡ Some b.value = sym last ∙ by.1 in cc in
    λ t. record { key = same t; number = number t; value = value t }

module _ (l : List BatchContent) (store : StoreState) (ok : StoreRepresents l store) where
  -- no two entries of the store share key and number
  pub entries_differ : (a b : Entry) → store_entries l store a → store_entries l store b
      → a.key ≡ b.key → a.number ≡ b.number → a ≡ b
  entries_differ a b (inl h) (inl g) same number =
      (ok.tables.unique h.0 g.0 h.1 g.1 a b h.2 g.2 same number).1
  entries_differ a b (inl h) (inr g) same number =
      let low = ok.tables.numbers a h in
      let high = g.1 in
      absurd (omega (arith, low, high, number))
  entries_differ a b (inr h) (inl g) same number =
      let low = ok.tables.numbers b g in
      let high = h.1 in
      absurd (omega (arith, low, high, number))
  entries_differ a b (inr h) (inr g) same number = one_entry l a b h.2 g.2 same number
