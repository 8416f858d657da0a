-- Each step leaves fewer entries.
use Rattle.std.proofs.Common.{◌≡◌, ◌⊎◌, inl, inr, ℕ, suc, zero, ◌<◌, ◌≤◌, sym, ap, ◌∙◌, subst}
use Rattle.std.proofs.Common.{arith, List, [], ◌∷◌, ◌++◌, Bool, true, false, not, cond, Option}
use Rattle.std.proofs.Common.{Some, None, refl}
use Rattle.std.specs.List.{slice_get}
use Rattle.std.specs.Map.{lookup}
use Rattle.std.specs.BTreeMap.{is_at}
use Rattle.std.specs.declared.cmp.Ordering.{Ordering}
use Rattle.std.specs.declared.cmp.Ordering.TheVariants.{Less, Equal, Greater}
use Rattle.std.specs.Ordering.{is_lt, is_eq}
use Rattle.std.proofs.lemmas.Option.{same_Some, slice_get_cases}
use Rattle.std.proofs.lemmas.Map.Text.{is_eq-slice_cmp}
use Rattle.std.proofs.lemmas.Slice.Eq.{bytes_eq-Decides}
use Rattle.merge_iter.specs.declared.direction.Direction.{Direction}
use Rattle.merge_iter.specs.declared.direction.Direction.TheVariants.{Forward, Backward}
use Rattle.byte_fields.specs.{StoredKey, stored_cmp}
use Rattle.kv_types.specs.{Entry}
use Rattle.merge_iter.specs.{Position, On, Off, Broken, EntryPrecedes, IsFirst, IfOn}
use Rattle.merge_iter.specs.EntryOrder.{never, chain}
use Rattle.memtable.specs.declared.version.Version.{Version}
use Rattle.memtable.specs.declared.version.Versions.{Versions}
use Rattle.memtable.specs.declared.place.VersionPlace.{VersionPlace}
use Rattle.memtable.specs.Versions.{all_of}
use Rattle.memtable.specs.Maps.{VersionMap, MapHolds, version_entry}
use Rattle.memtable.specs.Places.{position_on, place_position, maybe_position, cursor_position}
use Rattle.memtable.specs.Places.{IsVersionPlace}
use Rattle.memtable.specs.Left.{key_entries, map_entries, is_met_first, count, left_on}

abbrev pub In : Entry → List Entry → Type 0
In entry [] = ⊥
In entry (x ∷ xs) = (x ≡ entry) ⊎ In entry xs

in_left : (entry : Entry) (xs ys : List Entry) → In entry xs → In entry (xs ++ ys)
in_left entry [] ys h = absurd h
in_left entry (x ∷ xs) ys (inl e) = inl e
in_left entry (x ∷ xs) ys (inr h) = inr (in_left entry xs ys h)

in_right : (entry : Entry) (xs ys : List Entry) → In entry ys → In entry (xs ++ ys)
in_right entry [] ys h = h
in_right entry (x ∷ xs) ys h = inr (in_right entry xs ys h)

in_key : (k : StoredKey) (vs : List Version) (i : ℕ) (v : Version) → slice_get vs i ≡ Some v
    → In (version_entry k v) (key_entries k vs)
in_key k [] i v e = absurd (let z : None ≡ Some v = e in cc)
in_key k (x ∷ xs) zero v e = inl (ap (version_entry k) (same_Some x v e))
in_key k (x ∷ xs) (suc i) v e = inr (in_key k xs i v e)

in_entry : (key : StoredKey) (entry : StoredKey × Versions) (es : List (StoredKey × Versions))
    (vs : Versions) (i : ℕ) (v : Version) (t : Bool) → is_eq (stored_cmp key entry.0) ≡ t
    → cond t (Some entry.1) (lookup (is_at (stored_cmp key)) es) ≡ Some vs → slice_get
    (all_of vs) i ≡ Some v
    → (lookup (is_at (stored_cmp key)) es ≡ Some vs → In (version_entry key v)
    (map_entries es))
    → In (version_entry key v) (key_entries entry.0 (all_of entry.1) ++ map_entries es)
in_entry key entry es vs i v true is e at rest =
    let same : key ≡ entry.0 = (bytes_eq-Decides key entry.0).0 (sym (is_eq-slice_cmp key entry.0)
    ∙ is) in
    let here : entry.1 ≡ vs = same_Some entry.1 vs e in
    in_left (version_entry key v) (key_entries entry.0 (all_of entry.1)) (map_entries es)
    (subst (λ k. In (version_entry k v) (key_entries entry.0 (all_of entry.1))) (sym same)
    (in_key entry.0 (all_of entry.1) i v (ap (λ x. slice_get (all_of x) i) here ∙ at)))
in_entry key entry es vs i v false is e at rest = in_right (version_entry key v)
    (key_entries entry.0 (all_of entry.1)) (map_entries es) (rest e)

in_all : (key : StoredKey) (es : List (StoredKey × Versions)) (vs : Versions) (i : ℕ) (v : Version)
    → lookup (is_at (stored_cmp key)) es ≡ Some vs → slice_get (all_of vs) i ≡ Some v
    → In (version_entry key v) (map_entries es)
in_all key [] vs i v e at = absurd (let z : None ≡ Some vs = e in cc)
in_all key (entry ∷ es) vs i v e at = in_entry key entry es vs i v
    (is_eq (stored_cmp key entry.0)) refl e at (λ h. in_all key es vs i v h at)

-- ---- counts

le_step : (a b : Bool) (m n : ℕ) → (b ≡ true → a ≡ true) → m ≤ n → cond b (suc m) m ≤ cond a (suc n)
    n
le_step true true m n h l = omega (arith, l)
le_step true false m n h l = omega (arith, l)
le_step false true m n h l = absurd (let z = h refl in cc)
le_step false false m n h l = l

lt_step : (a b : Bool) (m n : ℕ) → (b ≡ true → a ≡ true) → m < n → cond b (suc m) m < cond a (suc n)
    n
lt_step true true m n h l = omega (arith, l)
lt_step true false m n h l = omega (arith, l)
lt_step false true m n h l = absurd (let z = h refl in cc)
lt_step false false m n h l = l

fewest : (p q : Entry → Bool) (xs : List Entry) → ((x : Entry) → q x ≡ true → p x ≡ true)
    → count q xs ≤ count p xs
fewest p q [] h = omega arith
fewest p q (x ∷ xs) h = le_step (p x) (q x) (count q xs) (count p xs) (h x) (fewest p q xs h)

at_head : (a b : Bool) (m n : ℕ) → a ≡ true → b ≡ false → m ≤ n → cond b (suc m) m < cond a (suc n)
    n
at_head true false m n x y l = omega (arith, l)
at_head true true m n x y l = absurd (cc)
at_head false b m n x y l = absurd (cc)

fewer : (p q : Entry → Bool) (xs : List Entry) (entry : Entry)
    → ((x : Entry) → q x ≡ true → p x ≡ true) → In entry xs → p entry ≡ true → q entry ≡ false
    → count q xs < count p xs
fewer p q [] entry h is here gone = absurd is
fewer p q (x ∷ xs) entry h (inl e) here gone = at_head (p x) (q x) (count q xs) (count p xs)
    (ap p e ∙ here) (ap q e ∙ gone) (fewest p q xs h)
fewer p q (x ∷ xs) entry h (inr is) here gone = lt_step (p x) (q x) (count q xs) (count p xs) (h x)
    (fewer p q xs entry h is here gone)

none : (xs : List Entry) → count (λ _. false) xs ≡ 0
none [] = refl
none (x ∷ xs) = none xs

-- ---- steps

lt_is : (o : Ordering) → is_lt o ≡ true → o ≡ Less
lt_is Less h = refl
lt_is Equal h = absurd (cc)
lt_is Greater h = absurd (cc)

precedes_is : (way : Direction) (a b : Entry) → is_met_first way a b ≡ true → EntryPrecedes way a b
precedes_is Forward a b h = lt_is _ h
precedes_is Backward a b h = lt_is _ h

is_precedes : (way : Direction) (a b : Entry) → EntryPrecedes way a b → is_met_first way a b ≡ true
is_precedes Forward a b h = ap is_lt h
is_precedes Backward a b h = ap is_lt h

not_by : (s t : Bool) → (s ≡ true → t ≡ true) → not t ≡ true → not s ≡ true
not_by true true h e = e
not_by true false h e = absurd (let z = h refl in cc)
not_by false t h e = refl

not_self : (way : Direction) (a : Entry) (t : Bool) → is_met_first way a a ≡ t → not t ≡ true
not_self way a true e = absurd (never way a (precedes_is way a a e))
not_self way a false e = refl

pub fall : (way : Direction) (entries : List Entry) (P : Entry → Type 0) (here : Entry)
    (s : Position) → In here entries → IsFirst way (λ entry. P entry × EntryPrecedes way here entry)
    s → left_on entries way s < left_on entries way (On here)
fall way entries P here (On entry) is f =
    fewer (λ x. not (is_met_first way x here)) (λ x. not (is_met_first way x entry)) entries here
    (λ x. not_by (is_met_first way x here) (is_met_first way x entry)
    (λ e. is_precedes way x entry (chain way x here entry (precedes_is way x here e) f.0.1)))
    is (not_self way here (is_met_first way here here) refl)
    (ap not (is_precedes way here entry f.0.1))
fall way entries P here Off is f =
    subst (λ n. n < count (λ x. not (is_met_first way x here)) entries) (none entries)
    (fewer (λ x. not (is_met_first way x here)) (λ _. false) entries here (λ x e. absurd (cc))
    is (not_self way here (is_met_first way here here) refl) refl)
fall way entries P here Broken is f = absurd f

pub falls_from : (way : Direction) (m : VersionMap) (place : VersionPlace) (s : Position)
    → IsVersionPlace m place
    → IfOn (place_position place)
    (λ here. IsFirst way (λ entry. MapHolds m entry × EntryPrecedes way here entry) s)
    → left_on (map_entries m.entries) way s < left_on (map_entries m.entries) way
    (place_position place)
falls_from way m place s placed first =
    elim (slice_get_cases (all_of place.versions.now) place.at).1 [
      | inl (v, within, there, read) ↦
          let on : place_position place ≡ On (version_entry place.key.now v) =
          ap (position_on place.key.now) there in
          let f = subst (λ x. IfOn x
          (λ here. IsFirst way (λ entry. MapHolds m entry × EntryPrecedes way here entry) s)) on
          first in
          subst (λ x. left_on (map_entries m.entries) way s < left_on (map_entries m.entries) way x)
          (sym on)
          (fall way (map_entries m.entries) (MapHolds m) (version_entry place.key.now v) s
          (in_all place.key.now m.entries place.versions.now place.at v placed.found there) f)
      | inr (past, none_) ↦ absurd (let w = placed.within in omega (arith, past, w))
    ]

same_stand : (o : Option VersionPlace) → maybe_position o ≡ cursor_position false o
same_stand None = refl
same_stand (Some place) = refl

pub ends_by : (way : Direction) (m : VersionMap) (has_failed : Bool)
    (was next : Option VersionPlace) (place : VersionPlace) → was ≡ Some place → IsVersionPlace m
    place
    → IfOn (place_position place)
    (λ here. IsFirst way (λ entry. MapHolds m entry × EntryPrecedes way here entry)
    (maybe_position next))
    → left_on (map_entries m.entries) way (cursor_position false next) < left_on
    (map_entries m.entries) way (cursor_position has_failed was)
ends_by way m has_failed was next place is placed first =
    subst (λ s. left_on (map_entries m.entries) way s < left_on (map_entries m.entries) way
    (cursor_position has_failed was)) (same_stand next)
    (subst (λ s. left_on (map_entries m.entries) way (maybe_position next) < left_on
    (map_entries m.entries) way s) (sym (ap (cursor_position has_failed) is))
    (falls_from way m place (maybe_position next) placed first))
