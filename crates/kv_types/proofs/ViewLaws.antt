-- The view of all entries of a list of batches is what its beginnings leave, and of rows their map.
use Rattle.std.proofs.Common.{◌≡◌, ◌⊎◌, inl, inr, ⊎_elim, ℕ, zero, suc, ◌<◌, ◌≤◌}
use Rattle.std.proofs.Common.{List, [], ◌∷◌, ◌++◌, take, slice_get, Option, Some, None}
use Rattle.std.proofs.Common.{sym, refl, ◌∙◌, ap, subst, arith, append-nil, cond, map}
use Rattle.std.specs.Option.{option_or, option_flatten}
use Rattle.std.proofs.lemmas.Bool.{cases_lt}
use Rattle.std.proofs.lemmas.Grind.{flat_map-append}
use Rattle.std.proofs.lemmas.List.Concat.{flat_map-cons}
use Rattle.std.specs.List.{flat_map}
use Rattle.std.specs.Str.{bytes_eq}
use Rattle.byte_fields.specs.{row_key}
use Rattle.kv_types.specs.declared.edit.Edit.{Edit}
use Rattle.kv_types.specs.declared.edit.Edit.TheVariants.{Put, Delete}
use Rattle.kv_types.specs.declared.mark.Mark.{Mark}
use Rattle.kv_types.specs.Content.{BatchContent, edits_of, mark_of}
use Rattle.kv_types.specs.Maps.{joined, last_edit}
use Rattle.kv_types.specs.Entries.{Entry, IsSeen, RowsAreStored, ViewShows, ViewsAreMaps}
use Rattle.kv_types.specs.Entries.{ViewsAreStored}
use Rattle.kv_types.specs.Entries.{all_entries, mark_edits, row_edit, stored_edits, stored_map_of}
use Rattle.kv_types.proofs.MapLaws.{last_edit-append}

-- the edits of stored keys of all batches in order
abbrev stored_joined : List BatchContent → List Edit
stored_joined batches = flat_map stored_edits batches

-- ---- beginnings of a list

take_next : {A : Type 0} (l : List A) (n : ℕ) (x : A) → slice_get l n ≡ Some x
    → take (suc n) l ≡ take n l ++ x ∷ []
take_next [] n x e = absurd (cc)
take_next (y ∷ l) zero x e = let is : y ≡ x = cc in ap (λ z. z ∷ []) is
take_next (y ∷ l) (suc n) x e = ap (λ z. y ∷ z) (take_next l n x e)

take_end : {A : Type 0} (l : List A) (n : ℕ) → slice_get l n ≡ None
    → take (suc n) l ≡ take n l
take_end [] zero e = refl
take_end [] (suc n) e = refl
take_end (y ∷ l) zero e = absurd (cc)
take_end (y ∷ l) (suc n) e = ap (λ z. y ∷ z) (take_end l n e)

there_or_not : {A : Type 0} (found : Option A) → (found ≡ None) ⊎ ((x : A) × (found ≡ Some x))
there_or_not None = inl refl
there_or_not (Some x) = inr (x, refl)

stored-push : (l : List BatchContent) (batch : BatchContent)
    → stored_joined (l ++ batch ∷ []) ≡ stored_joined l ++ stored_edits batch
stored-push l batch =
    flat_map-append stored_edits l (batch ∷ [])
    ∙ ap (λ z. stored_joined l ++ z) (append-nil (stored_edits batch))

-- the last edit in one batch more
last-push : (l : List BatchContent) (batch : BatchContent) (key : List ℕ)
    → last_edit (stored_joined (l ++ batch ∷ [])) key
    ≡ option_or (last_edit (stored_edits batch) key) (last_edit (stored_joined l) key)
last-push l batch key =
    ap (λ edits. last_edit edits key) (stored-push l batch)
    ∙ last_edit-append (stored_joined l) (stored_edits batch) key

-- ---- a view at one number more

-- the entry of a key at a number
abbrev entry_at : List ℕ → ℕ → Option (List ℕ) → Entry
entry_at key number value = record { key = key; number = number; value = value }

module _ (S : Entry → Type 0) (at : ℕ) (key : List ℕ) where
  -- what is seen at the next number, where the key has no entry, is seen already
  seen_before : ((value : Option (List ℕ)) → S (entry_at key (suc at) value) → ⊥) → (other : Entry)
      → IsSeen (suc at) S other → other.key ≡ key → IsSeen at S other
  seen_before none other seen same = ⊎_elim
      (λ (lt : other.number < suc at). (seen.0, omega (arith, lt)))
      (λ (ge : suc at ≤ other.number).
      let le = seen.1 in
      let is : other.number ≡ suc at = omega (arith, le, ge) in
      absurd (none other.value (subst (λ n. S (entry_at key n other.value)) is
      (subst (λ k. S (record { key = k; number = other.number; value = other.value })) same
      seen.0))))
      (cases_lt other.number (suc at))

  shows_skip : (value : Option (List ℕ))
      → ((other : Option (List ℕ)) → S (entry_at key (suc at) other) → ⊥)
      → ViewShows at S key value → ViewShows (suc at) S key value
  shows_skip value none (inl (number, it)) = inl (
    number,
    record {
      seen = (it.seen.0, let le = it.seen.1 in omega (arith, le));
      newest = λ other seen same. it.newest other (seen_before none other seen same) same;
    },
  )
  shows_skip value none (inr it) =
      inr (λ other seen same. it.0 other (seen_before none other seen same) same, it.1)

  -- an entry of the number itself is the newest
  shows_new : (value : Option (List ℕ)) → S (entry_at key at value) → ViewShows at S key value
  shows_new value has =
      inl (at, record { seen = (has, omega arith); newest = λ other seen same. seen.1 })

-- ---- the entries of all batches

module _ (l : List BatchContent) (key : List ℕ) where
  -- the batch that an entry is of
  batch_of : (number : ℕ) (value : Option (List ℕ)) → all_entries l
      (entry_at key (suc number) value)
      → (batch : BatchContent) × (slice_get l number ≡ Some batch)
      × (last_edit (stored_edits batch) key ≡ Some value)
  batch_of number value (i, batch, is, (same, last)) =
      let at : i ≡ number = cc (same) in
      (batch, subst (λ n. slice_get l n ≡ Some batch) at is, last)

  none_at_zero : (value : Option (List ℕ)) → all_entries l (entry_at key 0 value) → ⊥
  none_at_zero value (i, batch, is, (same, last)) = absurd (let h : 0 ≡ suc i = same in cc)

  none_at_end : (at : ℕ) → slice_get l at ≡ None → (value : Option (List ℕ))
      → all_entries l (entry_at key (suc at) value) → ⊥
  none_at_end at none value has =
      let it = batch_of at value has in
      absurd (let h : None ≡ Some it.0 = sym none ∙ it.1 in cc)

  none_unedited : (at : ℕ) (batch : BatchContent) → slice_get l at ≡ Some batch
      → last_edit (stored_edits batch) key ≡ None → (value : Option (List ℕ))
      → all_entries l (entry_at key (suc at) value) → ⊥
  none_unedited at batch is none value has =
      let it = batch_of at value has in
      let same : it.0 ≡ batch = let h : Some it.0 ≡ Some batch = sym it.1 ∙ is in cc in
      let found : last_edit (stored_edits batch) key ≡ Some value =
      subst (λ b. last_edit (stored_edits b) key ≡ Some value) same it.2 in
      absurd (let h : None ≡ Some value = sym none ∙ found in cc)

  -- the value after one batch more
  with_batch : (at : ℕ) (batch : BatchContent) → slice_get l at ≡ Some batch
      → (found : Option (Option (List ℕ))) → last_edit (stored_edits batch) key ≡ found
      → ViewShows at (all_entries l) key (stored_map_of (take at l) key)
      → ViewShows (suc at) (all_entries l) key
      (option_flatten (option_or found (last_edit (stored_joined (take at l)) key)))
  with_batch at batch is None e shown =
      shows_skip (all_entries l) at key (stored_map_of (take at l) key)
      (none_unedited at batch is e) shown
  with_batch at batch is (Some value) e shown =
      shows_new (all_entries l) (suc at) key value (at, batch, is, (refl, e))

  shown_value : (at : ℕ) → ViewShows at (all_entries l) key (stored_map_of (take at l) key)
  shown_value zero = inr (
    (λ other seen same.
        let le = seen.1 in
        let is : other.number ≡ 0 = omega (arith, le) in
        none_at_zero other.value (subst (λ n. all_entries l (entry_at key n other.value)) is
        (subst (λ k. all_entries l (record { key = k; number = other.number; value = other.value }))
        same seen.0))),
    refl,
  )
  shown_value (suc at) = ⊎_elim
      (λ (none : slice_get l at ≡ None).
      subst (λ z. ViewShows (suc at) (all_entries l) key (stored_map_of z key))
      (sym (take_end l at none))
      (shows_skip (all_entries l) at key (stored_map_of (take at l) key) (none_at_end at none)
      (shown_value at)))
      (λ (it : (batch : BatchContent) × (slice_get l at ≡ Some batch)).
      let last = last_push_at at it.0 it.1 in
      subst (λ z. ViewShows (suc at) (all_entries l) key z) (sym (ap option_flatten last))
      (with_batch at it.0 it.1 (last_edit (stored_edits it.0) key) refl (shown_value at)))
      (there_or_not (slice_get l at))
    where
      last_push_at : (at : ℕ) (batch : BatchContent) → slice_get l at ≡ Some batch
          → last_edit (stored_joined (take (suc at) l)) key
          ≡ option_or (last_edit (stored_edits batch) key)
          (last_edit (stored_joined (take at l)) key)
      last_push_at at batch is =
          ap (λ z. last_edit (stored_joined z) key) (take_next l at batch is)
          ∙ last-push (take at l) batch
          key

  -- a number and a key have one entry
  one_entry : (m n : ℕ) (a b : Option (List ℕ)) → m ≡ n → all_entries l (entry_at key m a)
      → all_entries l (entry_at key n b) → a ≡ b
  one_entry zero n a b same p q = absurd (none_at_zero a p)
  one_entry (suc m) n a b same p q =
      let x = batch_of m a p in
      let y = batch_of m b (subst (λ z. all_entries l (entry_at key z b)) (sym same) q) in
      let one : x.0 ≡ y.0 = let h : Some x.0 ≡ Some y.0 = sym x.1 ∙ y.1 in cc in
      let z : Some a ≡ Some b = sym (subst (λ c. last_edit (stored_edits c) key ≡ Some a) one x.2)
      ∙ y.2 in
      cc

  one_view : (at : ℕ) (a b : Option (List ℕ)) → ViewShows at (all_entries l) key a
      → ViewShows at (all_entries l) key b → a ≡ b
  one_view at a b (inl (m, p)) (inl (n, q)) =
      let x = p.newest (entry_at key n b) q.seen refl in
      let y = q.newest (entry_at key m a) p.seen refl in
      one_entry m n a b (omega (arith, x, y)) p.seen.0 q.seen.0
  one_view at a b (inl (m, p)) (inr u) = absurd (u.0 (entry_at key m a) p.seen refl)
  one_view at a b (inr u) (inl (n, q)) = absurd (u.0 (entry_at key n b) q.seen refl)
  one_view at a b (inr u) (inr v) = u.1 ∙ sym v.1

pub views_are_stored : ViewsAreStored
views_are_stored batches at key value = (
  (λ shown. one_view batches key at (stored_map_of (take at batches) key) value
      (shown_value batches key at) shown),
  (λ is. subst (λ z. ViewShows at (all_entries batches) key z) is (shown_value batches key at)),
)

-- ---- rows

-- the last edit of a row's stored key is that of its key
row_last : (edits : List Edit) (key : List ℕ)
    → last_edit (map row_edit edits) (row_key key) ≡ last_edit edits key
row_last [] key = refl
row_last (Put k v ∷ edits) key =
    ap (λ r. option_or r (cond (bytes_eq k key) (Some (Some v)) None)) (row_last edits key)
row_last (Delete k ∷ edits) key =
    ap (λ r. option_or r (cond (bytes_eq k key) (Some None) None)) (row_last edits key)

-- a mark is no edit of a row
mark_is_apart : (mark : Option Mark) (key : List ℕ)
    → last_edit (mark_edits mark) (row_key key) ≡ None
mark_is_apart None key = refl
mark_is_apart (Some mark) key = refl

-- what a batch leaves at a row's stored key is what its edits leave at the key
batch_rows : (batch : BatchContent) (key : List ℕ)
    → last_edit (stored_edits batch) (row_key key) ≡ last_edit (edits_of batch) key
batch_rows batch key =
    last_edit-append (map row_edit (edits_of batch)) (mark_edits (mark_of batch)) (row_key key)
    ∙ ap (λ r. option_or r (last_edit (map row_edit (edits_of batch)) (row_key key)))
    (mark_is_apart (mark_of batch) key)
    ∙ row_last (edits_of batch) key

-- and so for all batches
all_rows : (batches : List BatchContent) (key : List ℕ)
    → last_edit (stored_joined batches) (row_key key) ≡ last_edit (joined batches) key
all_rows [] key = refl
all_rows (batch ∷ batches) key =
    ap (λ edits. last_edit edits (row_key key)) (flat_map-cons stored_edits batch batches)
    ∙ last_edit-append (stored_edits batch) (stored_joined batches) (row_key key)
    ∙ ap (λ r. option_or r (last_edit (stored_edits batch) (row_key key))) (all_rows batches key)
    ∙ ap (λ r. option_or (last_edit (joined batches) key) r) (batch_rows batch key)
    ∙ sym (last_edit-append (edits_of batch) (joined batches) key)
    ∙ sym (ap (λ edits. last_edit edits key) (flat_map-cons edits_of batch batches))

pub rows_are_stored : RowsAreStored
rows_are_stored batches key = ap option_flatten (all_rows batches key)

pub views_are_maps : ViewsAreMaps
views_are_maps batches at key value =
    let same = rows_are_stored (take at batches) key in
    let stored = views_are_stored batches at (row_key key) value in
    (λ shown. sym same ∙ stored.0 shown, λ is. stored.1 (same ∙ is))
