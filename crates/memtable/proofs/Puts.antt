-- A map with one more version of a key.
use Rattle.std.proofs.Common.{◌≡◌, ℕ, ◌<◌, sym, ap, ap₂, ◌∙◌, subst, List, ◌∷◌, length, ◌+◌}
use Rattle.std.proofs.Common.{◌==◌, ◌^◌, ◌-◌, ◌<◌, ◌≤◌, min, Bool, true, false, not, cond, Option}
use Rattle.std.proofs.Common.{Some, None, refl, arith}
use Rattle.std.specs.List.{slice_get}
use Rattle.std.specs.Option.{option_or, is_some}
use Rattle.std.specs.Str.{bytes_eq}
use Rattle.std.specs.Ordering.{is_eq}
use Rattle.std.specs.BTreeMap.{get}
use Rattle.std.proofs.lemmas.Map.Text.{is_eq-slice_cmp}
use Rattle.std.proofs.lemmas.Slice.Eq.{bytes_eq-Decides}
use Rattle.byte_fields.specs.{StoredKey, row_key, stored_cmp}
use Rattle.kv_types.specs.declared.edit.Edit.{Edit}
use Rattle.kv_types.specs.declared.edit.Edit.TheVariants.{Put, Delete}
use Rattle.kv_types.specs.Entries.{row_edit}
use Rattle.kv_types.specs.Maps.{key_of, value_put, last_edit}
use Rattle.memtable.specs.declared.bounds.TheConstants.{ENTRY_BYTES}
use Rattle.memtable.specs.declared.version.Version.{Version}
use Rattle.memtable.specs.declared.version.Versions.{Versions}
use Rattle.memtable.specs.Versions.{all_of, with_version, lacks}
use Rattle.memtable.specs.Sizes.{capped_sum, edit_size, edits_size, value_size}
use Rattle.std.proofs.Common.{inl, inr, suc, drop, get_or}
use Rattle.std.proofs.Math.Seq.{drop-cons}
use Rattle.std.proofs.Math.Nat.{min-eq_left, min-eq_right}
use Rattle.std.proofs.lemmas.Bool.{cases_lt}
use Rattle.memtable.specs.Maps.{VersionMap, found, versions_at, added}
use Rattle.memtable.proofs.VersionLists.{lacks_last, lacks_greater, with_new, without}

updated_by : (m n : VersionMap) (key q : StoredKey) (w : Versions) (v : Version) (t : Bool)
    → bytes_eq key q ≡ t
    → get stored_cmp n q ≡ cond (is_eq (stored_cmp key q)) (Some w)
    (get stored_cmp m q)
    → all_of w ≡ with_version (versions_at m key) v
    → versions_at n q ≡ cond t (with_version (versions_at m q) v) (versions_at m q)
updated_by m n key q w v true e gets is =
    let s : key ≡ q = (bytes_eq-Decides key q).0 e in
    let g = gets ∙ ap (λ b. cond b (Some w) (get stored_cmp m q)) (is_eq-slice_cmp key q
    ∙ e) in
    ap found g ∙ (is ∙ ap (λ k. with_version (versions_at m k) v) s)
updated_by m n key q w v false e gets is =
    ap found (gets ∙ ap (λ b. cond b (Some w) (get stored_cmp m q)) (is_eq-slice_cmp key q
    ∙ e))

pub updated : (m n : VersionMap) (key : StoredKey) (w : Versions) (v : Version)
    → ((q : StoredKey) → get stored_cmp n q ≡ cond (is_eq (stored_cmp key q)) (Some w)
    (get stored_cmp m q))
    → all_of w ≡ with_version (versions_at m key) v
    → (q : StoredKey) → versions_at n q ≡ cond (bytes_eq key q) (with_version (versions_at m q) v)
    (versions_at m q)
updated m n key w v gets is q = updated_by m n key q w v (bytes_eq key q) refl (gets q) is

-- what was written at an entry of the map stands at its key
pub entered : (m n written : VersionMap) (key own : StoredKey) (w : Versions) (v : Version)
    → own ≡ key → n ≡ written
    → ((q : StoredKey) → get stored_cmp written q ≡ cond (is_eq (stored_cmp own q)) (Some w)
    (get stored_cmp m q))
    → all_of w ≡ with_version (versions_at m own) v
    → (q : StoredKey) → versions_at n q ≡ cond (bytes_eq key q) (with_version (versions_at m q) v)
    (versions_at m q)
entered m n written key own w v e same writes is =
    updated m n key w v
    (subst (λ k. (q : StoredKey) → get stored_cmp n q ≡ cond (is_eq (stored_cmp k q)) (Some w)
    (get stored_cmp m q)) e (λ q. ap (λ x. get stored_cmp x q) same ∙ writes q))
    (is ∙ ap (λ k. with_version (versions_at m k) v) e)

pub lacks_in : (m : VersionMap) (key own : StoredKey) (number : ℕ) (o : Option Versions)
    (added : Bool)
    → own ≡ key → o ≡ get stored_cmp m own → added ≡ lacks (found o) number → added ≡ lacks
    (versions_at m key) number
lacks_in m key own number o added e is a =
    a ∙ (ap (λ x. lacks (found x) number) is ∙ ap (λ k. lacks (versions_at m k) number) e)

-- ---- edits of rows, by their stored keys

pub row_edit-key : (edit : Edit) → key_of (row_edit edit) ≡ row_key (key_of edit)
row_edit-key (Put key value) = refl
row_edit-key (Delete key) = refl

pub row_edit-value : (edit : Edit) → value_put (row_edit edit) ≡ value_put edit
row_edit-value (Put key value) = refl
row_edit-value (Delete key) = refl

-- the entry of a row counts the bytes of the key that its edit names
pub row_edit-size : (edit : Edit) → edit_size (row_edit edit)
    ≡ length (key_of edit) + value_size (value_put edit) + ENTRY_BYTES
row_edit-size (Put key value) = refl
row_edit-size (Delete key) = refl

-- ---- edit by edit, from the last on

-- what was added is no more lacking
pub lacks_added : (old : List Version) (number : ℕ) (x : Option (Option (List ℕ)))
    → ((i : ℕ) (v : Version) → slice_get old i ≡ Some v → v.number < number)
    → lacks (added old number x) number ≡ not (is_some x)
lacks_added old number None below = lacks_greater old number below
lacks_added old number (Some value) below =
    lacks_last old (record { number = number; value = value }) number ∙ ap not (same number)
  where
    same : (n : ℕ) → (n == n) ≡ true
    same n = grind arith

put_on : (old : List Version) (number : ℕ) (x : Option (Option (List ℕ))) (left : Option (List ℕ))
    → ((i : ℕ) (v : Version) → slice_get old i ≡ Some v → v.number < number)
    → with_version (added old number x) (record { number = number; value = left }) ≡ added old
    number (option_or x (Some left))
put_on old number None left below = with_new old (record { number = number; value = left })
    (lacks_greater old number below)
put_on old number (Some value) left below = without (added old number (Some value))
    (record { number = number; value = left }) (lacks_added old number (Some value) below)

or_none : {X : Type 0} (x : Option X) → option_or x None ≡ x
or_none None = refl
or_none (Some x) = refl

one_edit : (t : Bool) (old : List Version) (number : ℕ) (x : Option (Option (List ℕ)))
    (left : Option (List ℕ))
    → ((i : ℕ) (v : Version) → slice_get old i ≡ Some v → v.number < number)
    → cond t (with_version (added old number x) (record { number = number; value = left }))
    (added old number x) ≡ added old number (option_or x (cond t (Some left) None))
one_edit true old number x left below = put_on old number x left below
one_edit false old number x left below = ap (added old number) (sym (or_none x))

-- the versions of a key with what the edits from this one on left
pub turned : (edit : Edit) (rest : List Edit) (q key : StoredKey) (old now next : List Version)
    (number : ℕ) (left : Option (List ℕ))
    → key ≡ key_of edit → left ≡ value_put edit
    → ((i : ℕ) (v : Version) → slice_get old i ≡ Some v → v.number < number)
    → now ≡ added old number (last_edit rest q)
    → next ≡ cond (bytes_eq key q) (with_version now (record { number = number; value = left })) now
    → next ≡ added old number (last_edit (edit ∷ rest) q)
turned edit rest q key old now next number left is_key is_left below is step =
    step
    ∙ (ap (λ xs. cond (bytes_eq key q) (with_version xs (record { number = number; value = left }))
    xs) is
    ∙ (one_edit (bytes_eq key q) old number (last_edit rest q) left below
    ∙ ap₂ (λ k l. added old number
    (option_or (last_edit rest q) (cond (bytes_eq k q) (Some l) None))) is_key is_left))

-- the edits from one place before
pub from_last : (edits : List Edit) (i : ℕ) (edit : Edit) → 0 < i → i ≤ length edits →
    edit ≡ get_or edits (i - 1) edit → drop (i - 1) edits ≡ edit ∷ drop i edits
from_last edits i edit some within is =
    let back : suc (i - 1) ≡ i = omega (arith, some) in
    drop-cons edits (i - 1) edit (omega (arith, some, within))
    ∙ ap₂ (λ (e : Edit) n. e ∷ drop n edits) (sym is) back

-- ---- the bytes

min_sum : (a c m : ℕ) → min (min a m + c) m ≡ min (a + c) m
min_sum a c m = elim (cases_lt a m) [
  | inl low ↦ ap (λ x. min (x + c) m) (min-eq_left (omega (arith, low)))
  | inr high ↦
      ap (λ x. min (x + c) m) (min-eq_right high)
      ∙ (min-eq_right (omega arith) ∙ sym (min-eq_right (omega (arith, high))))
]

capped : (a b c : ℕ) → capped_sum (capped_sum a b) c ≡ capped_sum a (b + c)
capped a b c = min_sum (a + b) c (2 ^ 64 - 1) ∙ ap (λ n. min n (2 ^ 64 - 1)) (search arith)

pub counted : (edit : Edit) (rest : List Edit) (key : StoredKey) (bytes sum next : ℕ)
    (is_added : Bool)
    → key ≡ key_of edit
    → is_added ≡ not (is_some (last_edit rest key)) → sum ≡ capped_sum bytes (edits_size rest)
    → next ≡ cond is_added (capped_sum sum (edit_size edit)) sum
    → next ≡ capped_sum bytes (edits_size (edit ∷ rest))
counted edit rest key bytes sum next is_added is_key has is step =
    let seen = has ∙ ap (λ k. not (is_some (last_edit rest k))) is_key in
    step ∙ (ap (λ s. cond is_added (capped_sum s (edit_size edit)) s) is ∙ by is_added
    (is_some (last_edit rest (key_of edit))) seen)
  where
    by : (b t : Bool) → b ≡ not t → cond b (capped_sum (capped_sum bytes (edits_size rest))
        (edit_size edit)) (capped_sum bytes (edits_size rest)) ≡ capped_sum bytes
        (edits_size rest + cond t 0 (edit_size edit))
    by true true e = absurd (cc)
    by true false e = capped bytes (edits_size rest) (edit_size edit)
    by false true e = ap (λ n. min n (2 ^ 64 - 1)) (search arith)
    by false false e = absurd (cc)
