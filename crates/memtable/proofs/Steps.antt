-- What ranges of a map and steps from a place give.
use Rattle.std.proofs.Common.{◌≡◌, ◌⊎◌, inl, inr, ℕ, ◌<◌, ◌≤◌, ◌+◌, ◌-◌, sym, ap, ◌∙◌, subst, arith}
use Rattle.std.proofs.Common.{List, [], ◌∷◌, ◌++◌, length, true, false, Option, Some, None, refl}
use Rattle.std.specs.List.{slice_get}
use Rattle.std.specs.Option.{IsSome}
use Rattle.std.specs.BTreeMap.{get}
use Rattle.std.specs.BTreeMap.Range.{IsRangeOf, IsFromStart, IsUpToEnd}
use Rattle.std.specs.declared.cmp.Ordering.TheVariants.{Greater}
use Rattle.std.specs.declared.collections.Bound.{Bound}
use Rattle.std.specs.declared.collections.Bound.TheVariants.{Unbounded}
use Rattle.std.specs.Ordering.{ordering_reverse, is_gt, is_lt}
use Rattle.std.proofs.lemmas.Option.{same_Some, slice_get_cases, slice_get_within}
use Rattle.merge_iter.specs.declared.direction.Direction.{Direction}
use Rattle.merge_iter.specs.declared.direction.Direction.TheVariants.{Forward, Backward}
use Rattle.byte_fields.specs.{StoredKey, stored_cmp}
use Rattle.byte_fields.specs.StoredKeysLemmas.{stored_total}
use Rattle.kv_types.specs.{Entry}
use Rattle.merge_iter.specs.{Position, Off, EntryPrecedes, IsFirst, IfOn}
use Rattle.memtable.specs.declared.version.Version.{Version}
use Rattle.memtable.specs.declared.version.Versions.{Versions}
use Rattle.memtable.specs.Versions.{all_of, IsRisingList}
use Rattle.memtable.specs.Maps.{VersionMap, MapHolds, HasRisingNumbers, version_entry}
use Rattle.memtable.specs.Maps.{entry_version}
use Rattle.memtable.specs.Places.{position_on}
use Rattle.memtable.proofs.VersionLists.{places, last_at}
use Rattle.memtable.proofs.Gets.{found_rising}
use Rattle.memtable.proofs.Firsts.{Keys, KeyPrecedes, NumberPrecedes, precedes_parts, precedes_key}
use Rattle.memtable.proofs.Firsts.{precedes_number, keys_apart, keys_differ, among, first_by}
use Rattle.memtable.proofs.Firsts.{first_alike, has_key}

sides : (i j : ℕ) → (i < j) ⊎ ((i ≡ j) ⊎ (j < i))
sides i j = grind arith

-- of two versions, the one with the lesser number position earlier
pub earlier : (xs : List Version) (i j : ℕ) (a b : Version) → IsRisingList xs → slice_get xs i ≡
    Some a → slice_get xs j ≡ Some b → a.number < b.number → i < j
earlier xs i j a b rising p q l = elim (sides i j) [
  | inl h ↦ h
  | inr h ↦ elim h [
    | inl e ↦ let s : a ≡ b = same_Some a b (sym p ∙ (ap (slice_get xs) e ∙ q)) in
        let n : a.number ≡ b.number = ap (λ (v : Version). v.number) s in
        absurd (omega (arith, n, l))
    | inr g ↦ let n = rising j i b a g q p in absurd (omega (arith, n, l))
  ]
]

is_some_not : {X : Type 0} (o : Option X) → o ≡ None → IsSome o → ⊥
is_some_not None e h = absurd (cc)
is_some_not (Some x) e h = absurd (cc)

-- no key passes
pub none_met : (way : Direction) (m : VersionMap) (P : StoredKey → Type 0)
    → ((q : StoredKey) → P q → IsSome (get stored_cmp m q) → ⊥)
    → IsFirst way (λ entry. MapHolds m entry × P entry.key) Off
none_met way m P none other h = none other.key h.1 (has_key m other h.0)

-- the newest version of the least key
pub newest_met : (m : VersionMap) (P : StoredKey → Type 0) (k : StoredKey) (vs : Versions) (at : ℕ)
    → HasRisingNumbers m
    → get stored_cmp m k ≡ Some vs → P k
    → ((q : StoredKey) → P q → IsSome (get stored_cmp m q) → KeyPrecedes Forward q k → ⊥)
    → at ≡ length vs.older.items
    → IsFirst Forward (λ entry. MapHolds m entry × P entry.key)
    (position_on k (slice_get (all_of vs) at))
newest_met m P k vs at rising got passes least end =
    let up = found_rising m k vs (sym got) rising in
    let here : slice_get (all_of vs) at ≡ Some vs.newest = ap (slice_get (all_of vs)) end
    ∙ last_at vs.older.items vs.newest in
    first_by Forward m (λ entry. P entry.key) k vs at vs.newest got here passes
    (λ entry has from less. least entry.key from (has_key m entry has) less)
    (λ i entry there same from n.
    let l = earlier (all_of vs) at i vs.newest (entry_version entry) up here there n in
    elim (places vs.older.items vs.newest i (entry_version entry) there) [
      | inl h ↦ (let w = h.1 in omega (arith, w, l, end))
      | inr h ↦ (let w = h.0 in
          omega (arith, w, l, end))
    ])

-- the oldest version of the greatest key
pub oldest_met : (m : VersionMap) (P : StoredKey → Type 0) (k : StoredKey) (vs : Versions) (at : ℕ)
    → HasRisingNumbers m
    → get stored_cmp m k ≡ Some vs → P k
    → ((q : StoredKey) → P q → IsSome (get stored_cmp m q) → KeyPrecedes Backward q k → ⊥)
    → at ≡ 0
    → IsFirst Backward (λ entry. MapHolds m entry × P entry.key)
    (position_on k (slice_get (all_of vs) at))
oldest_met m P k vs at rising got passes greatest start =
    let up = found_rising m k vs (sym got) rising in
    elim (slice_get_cases (all_of vs) at).1 [
      | inl (v, within, here, read) ↦
          first_by Backward m (λ entry. P entry.key) k vs at v got here passes
          (λ entry has from less. greatest entry.key from (has_key m entry has) less)
          (λ i entry there same from n. let l = earlier (all_of vs) i at (entry_version entry) v up
          there here n in omega (arith, l, start))
      | inr (past, none) ↦ absurd (nonempty vs.older.items vs.newest (omega (arith, past, start)))
    ]
  where
    nonempty : (xs : List Version) (y : Version) → length (xs ++ y ∷ []) ≤ 0 → ⊥
    nonempty [] y h = let k : 1 ≤ 0 = h in omega arith
    nonempty (x ∷ xs) y h = omega (arith, h)

-- ---- ranges

pub front_none : (m : VersionMap) (lo : Bound (List ℕ)) (r : List (StoredKey × Versions))
    → IsRangeOf
    stored_cmp lo Unbounded m r → r ≡ [] → IsFirst Forward (λ entry. MapHolds m entry
    × IsFromStart stored_cmp lo entry.key) Off
front_none m lo r is e = none_met Forward m (IsFromStart stored_cmp lo)
    (λ q from. is_some_not (get stored_cmp m q) (is.5 e q (from, tt)))

pub back_none : (m : VersionMap) (hi : Bound (List ℕ)) (r : List (StoredKey × Versions)) → IsRangeOf
    stored_cmp Unbounded hi m r → r ≡ [] → IsFirst Backward (λ entry. MapHolds m entry
    × IsUpToEnd stored_cmp hi entry.key) Off
back_none m hi r is e = none_met Backward m (IsUpToEnd stored_cmp hi)
    (λ q upto. is_some_not (get stored_cmp m q) (is.5 e q (tt, upto)))

pub front_some : (m : VersionMap) (lo : Bound (List ℕ)) (r t : List (StoredKey × Versions))
    (k : StoredKey) (vs : Versions) (at : ℕ) → HasRisingNumbers m
    → IsRangeOf stored_cmp lo Unbounded m r → r ≡ (k, vs) ∷ t → at ≡ length vs.older.items
    → IsFirst Forward (λ entry. MapHolds m entry × IsFromStart stored_cmp lo entry.key)
    (position_on k (slice_get (all_of vs) at))
front_some m lo r t k vs at rising is e end =
    let f = subst (λ x. IsRangeOf stored_cmp lo Unbounded m x) e is in
    newest_met m (IsFromStart stored_cmp lo) k vs at rising f.1.1 f.1.0.0
    (λ q from some less.
    let g : Keys k q ≡ Greater = stored_total.antisymm k q ∙ ap ordering_reverse less in
    let z : true ≡ false = sym (ap is_gt g) ∙ f.2 q (from, tt) some in cc) end

pub back_some : (m : VersionMap) (hi : Bound (List ℕ)) (r t : List (StoredKey
    × Versions)) (k : StoredKey)
    (vs : Versions) (at : ℕ) → HasRisingNumbers m
    → IsRangeOf stored_cmp Unbounded hi m r → r ≡ t ++ (k, vs) ∷ [] → at ≡ 0
    → IsFirst Backward (λ entry. MapHolds m entry × IsUpToEnd stored_cmp hi entry.key)
    (position_on k (slice_get (all_of vs) at))
back_some m hi r t k vs at rising is e start =
    let entry = is.3 (k, vs) t e in
    oldest_met m (IsUpToEnd stored_cmp hi) k vs at rising entry.1 entry.0.1
    (λ q upto some less. let z : true ≡ false = sym (ap is_lt less) ∙ is.4 (k, vs) t e q (tt, upto)
    some in cc) start

-- ---- steps

abbrev pub Adjacent : Direction → ℕ → ℕ → Type 0
Adjacent Forward i j = i ≡ j + 1
Adjacent Backward i j = j ≡ i + 1

falls : (way : Direction) (xs : List Version) (i j : ℕ) (a b : Version) → IsRisingList xs
    → slice_get xs i ≡ Some a → slice_get xs j ≡ Some b → Adjacent way i j → NumberPrecedes way
    a.number b.number
falls Forward xs i j a b rising p q e = rising j i b a (omega (arith, e)) q p
falls Backward xs i j a b rising p q e = rising i j a b (omega (arith, e)) p q

no_gap : (way : Direction) (xs : List Version) (i j g : ℕ) (a b c : Version) → IsRisingList xs
    → slice_get xs i ≡ Some a → slice_get xs j ≡ Some b → slice_get xs g ≡ Some c → Adjacent way i j
    → NumberPrecedes way a.number c.number → NumberPrecedes way c.number b.number → ⊥
no_gap Forward xs i j g a b c rising p q r e m n = let x = earlier xs g i c a rising r p m in
    let y = earlier xs j g b c rising q r n in omega (arith, x, y, e)
no_gap Backward xs i j g a b c rising p q r e m n = let x = earlier xs i g a c rising p r m in
    let y = earlier xs g j c b rising r q n in omega (arith, x, y, e)

pub step_within : (way : Direction) (m : VersionMap) (k : StoredKey) (vs : Versions) (i j : ℕ)
    (a b : Version)
    → get stored_cmp m k ≡ Some vs → IsRisingList (all_of vs) → slice_get (all_of vs) i ≡
    Some a → slice_get (all_of vs) j ≡ Some b → Adjacent way i j
    → IsFirst way (λ entry. MapHolds m entry × EntryPrecedes way (version_entry k a) entry)
    (position_on k (slice_get (all_of vs) j))
step_within way m k vs i j a b is rising p q e =
    first_by way m (λ entry. EntryPrecedes way (version_entry k a) entry) k vs j b is q
    (precedes_number way (version_entry k a) (version_entry k b) refl
    (falls way (all_of vs) i j a b rising p q e))
    (λ entry has is_met_first c. elim (precedes_parts way (version_entry k a) entry is_met_first) [
      | inl h ↦ keys_apart way k entry.key h c
      | inr h ↦ keys_differ way entry.key k (sym h.0) c
    ])
    (λ g entry there same is_met_first n. elim (precedes_parts way (version_entry k a) entry
    is_met_first) [
      | inl h ↦ keys_differ way k entry.key (sym same) h
      | inr h ↦ no_gap way
          (all_of vs) i j g a b (entry_version entry) rising p q there e h.1 n
    ])

-- the last of its key that a walk meets
abbrev pub IsOutmost : Direction → Versions → ℕ → Type 0
IsOutmost Forward vs i = i ≡ 0
IsOutmost Backward vs i = length vs.older.items ≤ i

outmost : (way : Direction) (vs : Versions) (i g : ℕ) (a c : Version) → IsRisingList (all_of vs)
    → slice_get (all_of vs) i ≡ Some a → slice_get (all_of vs) g ≡ Some c → IsOutmost way vs i
    → NumberPrecedes way a.number c.number → ⊥
outmost Forward vs i g a c rising p r e n = let l = earlier (all_of vs) g i c a rising r p n in
    omega (arith, l, e)
outmost Backward vs i g a c rising p r e n =
    let l = earlier (all_of vs) i g a c rising p r n in
    elim (places vs.older.items vs.newest g c r) [
      | inl h ↦ (let w = h.1 in omega (arith, w, l, e))
      | inr h ↦ (let w = h.0 in omega (arith, w, l, e))
    ]

pub step_out : (way : Direction) (m : VersionMap) (k : StoredKey) (vs : Versions) (i : ℕ)
    (a : Version)
    (s : Position)
    → get stored_cmp m k ≡ Some vs → IsRisingList (all_of vs) → slice_get (all_of vs) i ≡
    Some a → IsOutmost way vs i
    → IsFirst way (λ entry. MapHolds m entry × KeyPrecedes way k entry.key) s
    → IsFirst way (λ entry. MapHolds m entry × EntryPrecedes way (version_entry k a) entry) s
step_out way m k vs i a s is rising p e first =
    first_alike way m (λ entry. KeyPrecedes way k entry.key)
    (λ entry. EntryPrecedes way (version_entry k a) entry) s
    (λ entry has. (
      (λ h. precedes_key way (version_entry k a) entry h),
      (λ h. elim (precedes_parts way (version_entry k a) entry h) [
        | inl c ↦ c
        | inr c ↦ let g = among m k vs entry is (sym c.0) has in
            absurd (outmost way vs i g.0 a (entry_version entry) rising p g.1 e c.1)
      ]),
    )) first

-- what holds of each version that may stand there
pub on_place : (k : StoredKey) (o : Option Version) (P : Entry → Type 0)
    → ((v : Version) → o ≡ Some v → P (version_entry k v)) → IfOn (position_on k o) P
on_place k None P h = tt
on_place k (Some v) P h = h v refl

-- one version on, or out of the key
pub next_within : (m : VersionMap) (k : StoredKey) (vs : Versions) (i : ℕ) → get stored_cmp m
    k ≡ Some vs → HasRisingNumbers m → 0 < i
    → IfOn (position_on k (slice_get (all_of vs) i))
    (λ here. IsFirst Forward (λ entry. MapHolds m entry × EntryPrecedes Forward here entry)
    (position_on k (slice_get (all_of vs) (i - 1))))
next_within m k vs i is rising l =
    on_place k (slice_get (all_of vs) i)
    (λ here. IsFirst Forward (λ entry. MapHolds m entry × EntryPrecedes Forward here entry)
    (position_on k (slice_get (all_of vs) (i - 1))))
    (λ a at. let w : i < length (all_of vs) = slice_get_within (all_of vs) i a at in
    elim (slice_get_cases (all_of vs) (i - 1)).1 [
      | inl (b, within, there, read) ↦ step_within Forward m k vs i (i - 1) a b is
          (found_rising m k vs (sym is) rising) at there (omega (arith, l))
      | inr (past, none) ↦ absurd (omega (arith, past, w))
    ])

pub prev_within : (m : VersionMap) (k : StoredKey) (vs : Versions) (i : ℕ) → get stored_cmp m
    k ≡ Some vs → HasRisingNumbers m → i < length vs.older.items
    → IfOn (position_on k (slice_get (all_of vs) i))
    (λ here. IsFirst Backward (λ entry. MapHolds m entry × EntryPrecedes Backward here entry)
    (position_on k (slice_get (all_of vs) (i + 1))))
prev_within m k vs i is rising l =
    on_place k (slice_get (all_of vs) i)
    (λ here. IsFirst Backward (λ entry. MapHolds m entry × EntryPrecedes Backward here entry)
    (position_on k (slice_get (all_of vs) (i + 1))))
    (λ a at. elim (slice_get_cases (all_of vs) (i + 1)).1 [
      | inl (b, within, there, read) ↦ step_within Backward m k vs i (i + 1) a b is
          (found_rising m k vs (sym is) rising) at there refl
      | inr (past, none) ↦ absurd (let n = one_more vs.older.items vs.newest in
          omega (arith, past, l, n))
    ])
  where
    one_more : (xs : List Version) (y : Version) → length (xs ++ y ∷ []) ≡ length xs + 1
    one_more [] y = refl
    one_more (x ∷ xs) y = let h = one_more xs y in omega (arith, h)

pub steps_out : (way : Direction) (m : VersionMap) (k : StoredKey) (vs : Versions) (i : ℕ)
    (s : Position) → get stored_cmp m k ≡ Some vs → HasRisingNumbers m → IsOutmost way vs i
    → IsFirst way (λ entry. MapHolds m entry × KeyPrecedes way k entry.key) s
    → IfOn (position_on k (slice_get (all_of vs) i))
    (λ here. IsFirst way (λ entry. MapHolds m entry × EntryPrecedes way here entry) s)
steps_out way m k vs i s is rising e first =
    on_place k (slice_get (all_of vs) i)
    (λ here. IsFirst way (λ entry. MapHolds m entry × EntryPrecedes way here entry) s)
    (λ a at. step_out way m k vs i a s is (found_rising m k vs (sym is) rising) at e first)
