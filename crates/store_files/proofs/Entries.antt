-- The entries of a list of batches, and of one batch more.
use Rattle.std.proofs.Common.{◌≡◌, ◌↔◌, ◌⊎◌, ℕ, zero, suc, ◌+◌, ◌≤◌, List, [], ◌∷◌, ◌++◌}
use Rattle.std.proofs.Common.{length, Some, inl, inr, refl, sym, ap, subst, ◌∙◌, arith}
use Rattle.std.specs.Prelude.{slice_get}
use Rattle.byte_fields.specs.{StoredKey}
use Rattle.kv_types.specs.{BatchContent, Entry, IsNewest, IsUnseen, all_entries, entries_of}
use Rattle.memtable.specs.declared.Memtable.{Memtable}
use Rattle.memtable.specs.{HasFailedAdd, TableHolds}
use Rattle.store_model.specs.{StoreState, memory_entries}
use Rattle.batch_logs.specs.Memtables.{IsNumberedTo}

-- ---- the places of a list with one batch more

at_front : (list : List BatchContent) (x : BatchContent) (i : ℕ) (b : BatchContent) →
    slice_get list i ≡ Some b → slice_get (list ++ x ∷ []) i ≡ Some b
at_front [] x i b got = absurd cc
at_front (y ∷ l) x zero b got = got
at_front (y ∷ l) x (suc i) b got = at_front l x i b got

at_end : (list : List BatchContent) (x : BatchContent) →
    slice_get (list ++ x ∷ []) (length list) ≡ Some x
at_end [] x = refl
at_end (y ∷ l) x = at_end l x

at_either : (list : List BatchContent) (x : BatchContent) (i : ℕ) (b : BatchContent) →
    slice_get (list ++ x ∷ []) i ≡ Some b →
    (slice_get list i ≡ Some b) ⊎ ((i ≡ length list) × (x ≡ b))
at_either [] x zero b got =
    let same : x ≡ b = cc in
    inr (refl, same)
at_either [] x (suc i) b got = absurd cc
at_either (y ∷ l) x zero b got = inl got
at_either (y ∷ l) x (suc i) b got =
    elim (at_either l x i b got) as
    (λ _. (slice_get l i ≡ Some b) ⊎ ((suc i ≡ suc (length l)) × (x ≡ b))) [
      | inl before ↦ inl before
      | inr last ↦ inr (ap suc last.0, last.1)
    ]

-- ---- memtables

-- no batch has an entry
none_at : (i : ℕ) (b : BatchContent) → slice_get [] i ≡ Some b → ⊥
none_at i b got = cc

pub none_among : (entry : Entry) → all_entries [] entry → ⊥
none_among entry among = none_at among.0 among.1 among.2

-- what an addition does: the entries of this batch are added under this number
abbrev pub Adds : Memtable → Memtable → ℕ → BatchContent → Type 0
Adds old new number batch = (entry : Entry) →
    TableHolds new entry ↔ (TableHolds old entry ⊎ entries_of number batch entry)

-- the entries of a list with one batch more
among_front : (list : List BatchContent) (batch : BatchContent) (entry : Entry)
    → all_entries list entry → all_entries (list ++ batch ∷ []) entry
among_front list batch entry among =
    (among.0, among.1, at_front list batch among.0 among.1 among.2, among.3)

among_end : (list : List BatchContent) (batch : BatchContent) (number : ℕ) (entry : Entry)
    → number ≡ suc (length list) → entries_of number batch entry
    → all_entries (list ++ batch ∷ []) entry
among_end list batch number entry is among = (
  length list,
  batch,
  at_end list batch,
  subst (λ (n : ℕ). entries_of n batch entry) is among,
)

among_either : (list : List BatchContent) (batch : BatchContent) (number : ℕ) (entry : Entry)
    → number ≡ suc (length list) → all_entries (list ++ batch ∷ []) entry
    → all_entries list entry ⊎ entries_of number batch entry
among_either list batch number entry is among =
    elim (at_either list batch among.0 among.1 among.2) as
    (λ _. all_entries list entry ⊎ entries_of number batch entry) [
      | inl before ↦ inl (among.0, among.1, before, among.3)
      | inr last ↦ inr (subst (λ (n : ℕ). entries_of n batch entry) (ap suc last.0 ∙ sym is)
          (subst (λ (b : BatchContent). entries_of (suc among.0) b entry) (sym last.1) among.3))
    ]

-- and of one that holds what no table has
pub one_more_above : (old new : Memtable) (list : List BatchContent) (batch : BatchContent)
    (number : ℕ) (store : StoreState)
    → ((entry : Entry) → TableHolds old entry ↔ memory_entries list store entry)
    → number ≡ suc (length list) → store.kept ≤ length list → store.flushed ≤ length list
    → Adds old new number batch → (entry : Entry)
    → TableHolds new entry ↔ memory_entries (list ++ batch ∷ []) store entry
one_more_above old new list batch number store has is kept flushed adds entry = (
  λ holds. elim ((adds entry).0 holds) as
      (λ _. memory_entries (list ++ batch ∷ []) store entry) [
        | inl before ↦
            let was = (has entry).0 before in
            (was.0, was.1, among_front list batch entry was.2)
        | inr among ↦ (
          omega (arith, among.0, is, kept),
          omega (arith, among.0, is, flushed),
          among_end list batch number entry is among,
        )
      ],
  λ there. (adds entry).1 (elim (among_either list batch number entry is there.2) as
      (λ _. TableHolds old entry ⊎ entries_of number batch entry) [
        | inl before ↦ inl ((has entry).1 (there.0, there.1, before))
        | inr last ↦ inr last
      ]),
)

-- and is the greatest of the memtable that was added to
pub next_numbered : (old new : Memtable) (batch : BatchContent) (count number : ℕ) →
    IsNumberedTo old count → number ≡ count + 1 → (HasFailedAdd new → ⊥) →
    Adds old new number batch → (next : ℕ) → next ≡ count + 1 → IsNumberedTo new next
next_numbered old new batch count number numbered is works adds next next_is = record {
  works = works;
  below = λ entry holds. elim ((adds entry).0 holds) as (λ _. entry.number ≤ next) [
    | inl before ↦ omega (arith, numbered.below entry before, next_is)
    | inr among ↦ omega (arith, among.0, is, next_is)
  ];
}

-- ---- what a lookup finds

module _ (at : ℕ) (A B : Entry → Type 0) (same : (entry : Entry) → A entry ↔ B entry) where
  pub newest_in : (entry : Entry) → IsNewest at A entry → IsNewest at B entry
  newest_in entry h = record {
    seen = ((same entry).0 h.seen.0, h.seen.1);
    newest = λ other seen key. h.newest other ((same other).1 seen.0, seen.1) key;
  }

  pub unseen_in : (key : StoredKey) → IsUnseen at A key → IsUnseen at B key
  unseen_in key none other seen = none other ((same other).1 seen.0, seen.1)
