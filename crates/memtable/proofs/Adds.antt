-- The entries of a map with the entries of a batch.
use Rattle.std.proofs.Common.{◌≡◌, ◌↔◌, ◌⊎◌, inl, inr, ℕ, ◌<◌, ◌≤◌, sym, ap, ◌∙◌, subst, List, []}
use Rattle.std.proofs.Common.{◌∷◌, length, Bool, true, false, cond, Option, Some, None, IfSome}
use Rattle.std.proofs.Common.{refl, All, arith}
use Rattle.std.specs.List.{slice_get}
use Rattle.std.specs.Option.{option_or}
use Rattle.std.specs.Str.{bytes_eq}
use Rattle.std.proofs.lemmas.Option.{same_Some, slice_get_within}
use Rattle.std.proofs.lemmas.List.Elements.{All-head, All-tail}
use Rattle.std.proofs.lemmas.Slice.Eq.{bytes_eq-Decides}
use Rattle.std.specs.Int.{w64, to_be_bytes}
use Rattle.byte_fields.specs.{IsStoredKey, StoredKey, mark_key}
use Rattle.kv_types.specs.declared.bounds.TheConstants.{MAX_NUMBER, MAX_VALUE}
use Rattle.kv_types.specs.declared.edit.Edit.{Edit}
use Rattle.kv_types.specs.declared.edit.Edit.TheVariants.{Put, Delete}
use Rattle.kv_types.specs.declared.mark.Mark.{Mark}
use Rattle.kv_types.specs.Content.{edits_of, mark_of}
use Rattle.kv_types.specs.Entries.{mark_edits, row_edit}
use Rattle.kv_types.specs.Maps.{key_of, value_put, last_edit}
use Rattle.kv_types.specs.Spelling.{IsEdit}
use Rattle.kv_types.specs.{BatchContent, Entry, entries_of, stored_edits}
use Rattle.memtable.specs.declared.version.Version.{Version}
use Rattle.memtable.specs.Versions.{IsRisingList}
use Rattle.memtable.specs.Maps.{Adds, HasLimits, HasRisingNumbers, IsAbove, MapHolds, VersionMap}
use Rattle.memtable.specs.Maps.{added, edits_put, entry_version, versions_at}
use Rattle.memtable.proofs.VersionLists.{places, last_at, front_at, rising_more}

there : (old : List Version) (number : ℕ) (x : Option (Option (List ℕ))) (v : Version) (i : ℕ)
    → slice_get (added old number x) i ≡ Some v → ((i : ℕ) × (slice_get old i ≡ Some v))
    ⊎ ((v.number ≡ number) × (x ≡ Some v.value))
there old number None v i e = inl (i, e)
there old number (Some w) v i e = elim (places old (record { number = number; value = w }) i v e) [
  | inl h ↦ inl (i, h.0)
  | inr h ↦ inr (ap (λ (y : Version). y.number) h.1, ap (λ (y : Version). Some y.value) (sym h.1))
]

back : (old : List Version) (number : ℕ) (x : Option (Option (List ℕ))) (v : Version)
    → ((i : ℕ) × (slice_get old i ≡ Some v)) ⊎ ((v.number ≡ number) × (x ≡ Some v.value)) → (i : ℕ)
    × (slice_get (added old number x) i ≡ Some v)
back old number None v (inl h) = h
back old number None v (inr h) = absurd (let e = h.1 in cc)
back old number (Some w) v (inl h) = (
  h.0,
  front_at old (record { number = number; value = w } ∷ [])
      h.0 (slice_get_within old h.0 v h.1) ∙ h.1,
)
back old number (Some w) v (inr h) =
    let e = same_Some w v.value h.1 in
    let is : Some (record { number = number; value = w }) ≡ Some v =
    ap (λ x. Some (record { number = number; value = x })) e
    ∙ ap (λ n. Some (record { number = n; value = v.value })) (sym h.0) in
    (length old, last_at old (record { number = number; value = w }) ∙ is)

pub adds : (m n : VersionMap) (number own : ℕ) (batch : BatchContent) (given : List Edit)
    → own ≡ number → given ≡ stored_edits batch → Adds own given m n
    → (entry : Entry) → MapHolds n entry ↔ (MapHolds m entry ⊎ entries_of number batch entry)
adds m n number own batch given e f is entry =
    let edits = stored_edits batch in
    let at = subst (λ x. versions_at n entry.key ≡ added (versions_at m entry.key) x
    (last_edit edits entry.key)) e
    (subst (λ l. versions_at n entry.key ≡ added (versions_at m entry.key) own
    (last_edit l entry.key)) f (is entry.key)) in (
      (λ h. there (versions_at m entry.key) number (last_edit edits entry.key) (entry_version entry)
          h.0 (ap (λ xs. slice_get xs h.0) (sym at) ∙ h.1)),
      (λ h. let r = back (versions_at m entry.key) number (last_edit edits entry.key)
          (entry_version entry) h in (r.0, ap (λ xs. slice_get xs r.0) at ∙ r.1)),
    )

rising_added : (old : List Version) (number : ℕ) (x : Option (Option (List ℕ))) → IsRisingList old
    → ((i : ℕ) (v : Version) → slice_get old i ≡ Some v → v.number < number) → IsRisingList
    (added old number x)
rising_added old number None rising below = rising
rising_added old number (Some w) rising below =
    rising_more old (record { number = number; value = w }) rising below

pub still_rising : (m n : VersionMap) (number : ℕ) (edits : List Edit) → Adds number edits m n
    → HasRisingNumbers m → IsAbove number m → HasRisingNumbers n
still_rising m n number edits is rising below q = subst IsRisingList (sym (is q))
    (rising_added (versions_at m q) number (last_edit edits q) (rising q) (below q))

-- ---- limits

-- the limits of what an edit leaves at a key
record KeepsLimits (own : StoredKey) (left : Option (List ℕ)) : Type 0 where
  key : IsStoredKey own
  value : IfSome left (λ value. length value ≤ MAX_VALUE)

limited_row : (edit : Edit) → IsEdit edit
    → KeepsLimits (key_of (row_edit edit)) (value_put (row_edit edit))
limited_row (Put key value) h = record { key = (omega arith, h.0); value = h.1 }
limited_row (Delete key) h = record { key = (omega arith, h); value = tt }

of_edit : (edit : Edit) (key : StoredKey) (left : Option (List ℕ)) (t : Bool)
    → bytes_eq (key_of edit) key ≡ t → KeepsLimits (key_of edit) (value_put edit)
    → cond t (Some (value_put edit)) None ≡ Some left → KeepsLimits key left
of_edit edit key left true e h is =
    subst (λ k. KeepsLimits k left) ((bytes_eq-Decides (key_of edit) key).0 e)
    (subst (KeepsLimits (key_of edit)) (same_Some (value_put edit) left is) h)
of_edit edit key left false e h is = absurd (cc)

one_of : (edit : Edit) (key : StoredKey) (left : Option (List ℕ))
    (later : Option (Option (List ℕ))) → (later ≡ Some left → KeepsLimits key left)
    → KeepsLimits (key_of edit) (value_put edit)
    → option_or later (cond (bytes_eq (key_of edit) key) (Some (value_put edit)) None) ≡ Some left
    → KeepsLimits key left
one_of edit key left (Some x) rest h is = rest is
one_of edit key left None rest h is = of_edit edit key left (bytes_eq (key_of edit) key) refl h is

limits_of_mark : (mark : Option Mark) (key : StoredKey) (left : Option (List ℕ))
    → last_edit (mark_edits mark) key ≡ Some left → KeepsLimits key left
limits_of_mark None key left is = absurd (cc)
limits_of_mark (Some mark) key left is =
    one_of (Put (mark_key mark.client) (to_be_bytes w64 mark.request)) key left None
    (λ none. absurd (cc)) (record { key = (omega arith, omega arith); value = omega arith }) is

limits_of : (edits : List Edit) (mark : Option Mark) (key : StoredKey) (left : Option (List ℕ))
    → All IsEdit edits → last_edit (edits_put edits mark) key ≡ Some left → KeepsLimits key left
limits_of [] mark key left h is = limits_of_mark mark key left is
limits_of (edit ∷ edits) mark key left h is =
    one_of (row_edit edit) key left (last_edit (edits_put edits mark) key)
    (λ e. limits_of edits mark key left (All-tail IsEdit edit edits h) e)
    (limited_row edit (All-head IsEdit edit edits h)) is

pub still_limited : (m n : VersionMap) (number : ℕ) (batch : BatchContent) → number ≤ MAX_NUMBER
    → HasLimits m → All IsEdit (edits_of batch)
    → ((entry : Entry) → MapHolds n entry ↔ (MapHolds m entry ⊎ entries_of number batch entry))
    → HasLimits n
still_limited m n number batch few limits each is entry h = elim ((is entry).0 h) [
  | inl k ↦ limits entry k
  | inr k ↦
      let kept = limits_of (edits_of batch) (mark_of batch) entry.key entry.value each k.1 in
      record {
        key = kept.key;
        number = subst (λ n. n ≤ MAX_NUMBER) (sym k.0) few;
        value = kept.value;
      }
]
