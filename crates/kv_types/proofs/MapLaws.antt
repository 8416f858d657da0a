-- The map as a function has exactly the values that the last edits put.
use Rattle.std.proofs.Common.{◌≡◌, ◌≢◌, ℕ, Bool, true, false, cond, List, [], ◌∷◌, ◌++◌, All}
use Rattle.std.proofs.Common.{Option, Some, None, MatchOption, refl, sym, ap, subst, ◌∙◌}
use Rattle.std.specs.Option.{option_or, option_flatten}
use Rattle.std.specs.Str.{bytes_eq}
use Rattle.std.proofs.lemmas.List.Elements.{All-nil, All-cons, All-head, All-tail}
use Rattle.std.proofs.lemmas.Slice.Eq.{bytes_eq-Decides}
use Rattle.kv_types.specs.declared.edit.Edit.{Edit}
use Rattle.kv_types.specs.declared.edit.Edit.TheVariants.{Put, Delete}
use Rattle.kv_types.specs.Maps.{key_of, value_put, joined, IsLastEdit, last_edit, MapsAgree}

-- ---- one more edit

option_or_nested : {A : Type 0} (x y z : Option A)
    → option_or (option_or x y) z ≡ option_or x (option_or y z)
option_or_nested None y z = refl
option_or_nested (Some a) y z = refl

pub option_or_none : {A : Type 0} (x : Option A) → option_or x None ≡ x
option_or_none None = refl
option_or_none (Some a) = refl

pub last_edit-append : (a b : List Edit) (key : List ℕ)
    → last_edit (a ++ b) key ≡ option_or (last_edit b key) (last_edit a key)
last_edit-append [] b key = sym (option_or_none (last_edit b key))
last_edit-append (edit ∷ a) b key =
    let one = cond (bytes_eq (key_of edit) key) (Some (value_put edit)) None in
    ap (λ found. option_or found one) (last_edit-append a b key)
    ∙ option_or_nested (last_edit b key) (last_edit a key) one

flatten_one : (same : Bool) (left : Option (List ℕ)) (before : Option (Option (List ℕ)))
    → cond same left (option_flatten before)
    ≡ option_flatten (option_or (cond same (Some left) None) before)
flatten_one true left before = refl
flatten_one false left before = refl

-- the value of a key after one more edit
pub one_more : (edits : List Edit) (edit : Edit) (key : List ℕ) (had : Option (List ℕ))
    → had ≡ option_flatten (last_edit edits key)
    → cond (bytes_eq (key_of edit) key) (value_put edit) had
    ≡ option_flatten (last_edit (edits ++ edit ∷ []) key)
one_more edits edit key had is =
    let same = bytes_eq (key_of edit) key in
    ap (cond same (value_put edit)) is ∙ flatten_one same (value_put edit) (last_edit edits key)
    ∙ ap option_flatten (sym (last_edit-append edits (edit ∷ []) key))

-- ---- the last edit of a key

abbrev Others : List ℕ → List Edit → Type 0
Others key edits = All (λ later. key_of later ≢ key) edits

-- the edit behind an answer of `last_edit`
abbrev Says : List Edit → List ℕ → Option (Option (List ℕ)) → Type 0
Says edits key found =
    MatchOption found (Others key edits)
    (λ left. (edit : Edit) × IsLastEdit edits key edit × (value_put edit ≡ left))

says_more : (edit : Edit) (edits : List Edit) (key : List ℕ) (same : Bool)
    (found : Option (Option (List ℕ)))
    → (same ≡ true → key_of edit ≡ key) × (key_of edit ≡ key → same ≡ true) → Says edits key found
    → Says (edit ∷ edits) key (option_or found (cond same (Some (value_put edit)) None))
says_more edit edits key same (Some left) decides found =
    let last = found.1 in (
      found.0,
      record {
        before = edit ∷ last.before;
        after = last.after;
        parts = ap (λ l. edit ∷ l) last.parts;
        of_key = last.of_key;
        none_later = last.none_later;
      },
      found.2,
    )
says_more edit edits key true None decides found = (
  edit,
  record {
    before = [];
    after = edits;
    parts = refl;
    of_key = decides.0 refl;
    none_later = found;
  },
  refl,
)
says_more edit edits key false None decides found =
    All-cons (λ later. key_of later ≢ key) edit edits
    (λ is. let e : false ≡ true = decides.1 is in absurd cc) found

says : (edits : List Edit) (key : List ℕ) → Says edits key (last_edit edits key)
says [] key = All-nil (λ later. key_of later ≢ key)
says (edit ∷ edits) key =
    says_more edit edits key (bytes_eq (key_of edit) key) (last_edit edits key)
    (bytes_eq-Decides (key_of edit) key) (says edits key)

put_of : (edit : Edit) (key value : List ℕ) → value_put edit ≡ Some value → key_of edit ≡ key
    → edit ≡ Put key value
put_of (Put k v) key value left of_key = cc
put_of (Delete k) key value left of_key = absurd cc

found_put : (edits : List Edit) (key value : List ℕ) (found : Option (Option (List ℕ)))
    → Says edits key found → option_flatten found ≡ Some value
    → IsLastEdit edits key (Put key value)
found_put edits key value None from is = absurd cc
found_put edits key value (Some left) from is =
    subst (IsLastEdit edits key) (put_of from.0 key value (from.2 ∙ is) from.1.of_key) from.1

none_of : (edits : List Edit) (key : List ℕ) → Others key edits → last_edit edits key ≡ None
none_of [] key others = refl
none_of (edit ∷ edits) key others =
    let differs = All-head (λ later. key_of later ≢ key) edit edits others in
    let rest = none_of edits key (All-tail (λ later. key_of later ≢ key) edit edits others) in
    by_test (bytes_eq (key_of edit) key)
    (λ e. differs ((bytes_eq-Decides (key_of edit) key).0 e)) rest
  where
    by_test : (same : Bool) → (same ≡ true → ⊥) → last_edit edits key ≡ None
        → option_or (last_edit edits key) (cond same (Some (value_put edit)) None) ≡ None
    by_test true never rest = absurd (never refl)
    by_test false never rest = ap (λ found. option_or found None) rest

last_at : (before : List Edit) (edit : Edit) (after : List Edit) (key : List ℕ) → key_of edit ≡ key
    → Others key after → last_edit (before ++ edit ∷ after) key ≡ Some (value_put edit)
last_at [] edit after key of_key others =
    let same = (bytes_eq-Decides (key_of edit) key).1 of_key in
    rw (none_of after key others, same) refl
last_at (first ∷ before) edit after key of_key others =
    ap (λ found. option_or found (cond (bytes_eq (key_of first) key) (Some (value_put first)) None))
    (last_at before edit after key of_key others)

pub maps_agree : MapsAgree
maps_agree batches key value =
    let edits = joined batches in (
      λ is. found_put edits key value (last_edit edits key) (says edits key) is,
      λ last. ap (λ l. option_flatten (last_edit l key)) last.parts
          ∙ ap option_flatten
          (last_at last.before (Put key value) last.after key refl last.none_later),
    )
