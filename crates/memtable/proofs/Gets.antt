-- What a key has at a number.
use Rattle.std.proofs.Common.{◌≡◌, ◌⊎◌, inl, inr, ℕ, ◌<◌, ◌≤◌, sym, ap, ◌∙◌, subst, arith, List}
use Rattle.std.proofs.Common.{Option, Some, None}
use Rattle.std.specs.List.{slice_get}
use Rattle.std.specs.BTreeMap.{get}
use Rattle.std.proofs.lemmas.Option.{same_Some}
use Rattle.byte_fields.specs.{StoredKey, stored_cmp}
use Rattle.kv_types.specs.{Entry, IsNewest, IsUnseen}
use Rattle.memtable.specs.declared.version.Version.{Version}
use Rattle.memtable.specs.declared.version.Versions.{Versions}
use Rattle.memtable.specs.Versions.{all_of, IsRisingList, IsLastUpTo}
use Rattle.memtable.specs.Maps.{VersionMap, MapHolds, found, versions_at, entry_version}
use Rattle.memtable.specs.Maps.{HasRisingNumbers}

-- the versions that were found rise
pub found_rising : (m : VersionMap) (key : StoredKey) (vs : Versions) → Some vs ≡ get
    stored_cmp m key → HasRisingNumbers m → IsRisingList (all_of vs)
found_rising m key vs is rising = subst (λ o. IsRisingList (found o)) (sym is) (rising key)

late : (i at : ℕ) → (i < at) ⊎ ((i ≡ at) ⊎ (at < i))
late i at = grind arith

greatest : (xs : List Version) (at place : ℕ) (v : Version) → IsRisingList xs → IsLastUpTo xs at
    (Some place) → slice_get xs place ≡ Some v → (i : ℕ) (w : Version) → slice_get xs i ≡ Some w
    → w.number ≤ at → w.number ≤ v.number
greatest xs at place v rising last is i w e le = elim (late i place) [
  | inl l ↦ let h = rising i place w v l e is in omega (arith, h)
  | inr k ↦ elim k [
    | inl s ↦ let h : w ≡ v = same_Some w v (sym e ∙ (ap (slice_get xs) s ∙ is)) in
        subst (λ y. w.number ≤ y.number) h (omega arith)
    | inr l ↦ let h = last.2 i w l e in absurd (omega (arith, h, le))
  ]
]

-- an entry of the key is among its versions
held : (m : VersionMap) (key : StoredKey) (other : Entry) → MapHolds m other → other.key ≡ key →
    (i : ℕ) × (slice_get (versions_at m key) i ≡ Some (entry_version other))
held m key other has same =
    (has.0, subst (λ k. slice_get (versions_at m k) has.0 ≡ Some (entry_version other)) same has.1)

-- the version at the place that was found is the newest entry of its key
pub newest : (m : VersionMap) (key : StoredKey) (vs : Versions) (at own place : ℕ) (v : Version)
    (value : Option (List ℕ))
    → own ≡ at → Some vs ≡ get stored_cmp m key → HasRisingNumbers m
    → (IsRisingList (all_of vs) → IsLastUpTo (all_of vs) own (Some place))
    → slice_get (all_of vs) place ≡ Some v → v.value ≡ value
    → IsNewest at (MapHolds m) (record { key = key; number = v.number; value = value })
newest m key vs at own place v value same is rising last there left =
    let up = found_rising m key vs is rising in
    let to : IsLastUpTo (all_of vs) at (Some place) =
    subst (λ x. IsLastUpTo (all_of vs) x (Some place)) same (last up) in
    let here : versions_at m key ≡ all_of vs = ap found (sym is) in
    record {
      seen = (
        (
          place,
          ap (λ xs. slice_get xs place) here
              ∙ (there ∙ ap (λ x. Some (record { number = v.number; value = x })) left),
        ),
        to.1 place v (omega arith) there,
      );
      newest = λ other seen key_is.
          let has = held m key other seen.0 key_is in
          greatest (all_of vs) at place v up to there has.0 (entry_version other)
          (ap (λ xs. slice_get xs has.0) (sym here) ∙ has.1) seen.1;
    }

-- all versions of the key are newer
unseen : (m : VersionMap) (key : StoredKey) (at : ℕ)
    → ((i : ℕ) (v : Version) → slice_get (versions_at m key) i ≡ Some v → at < v.number)
    → IsUnseen at (MapHolds m) key
unseen m key at late_ other seen same =
    let has = held m key other seen.0 same in
    let h = late_ has.0 (entry_version other) has.1 in
    let l = seen.1 in omega (arith, h, l)

pub none_there : (m : VersionMap) (key : StoredKey) (at : ℕ) → None ≡ get stored_cmp m key
    → IsUnseen at (MapHolds m) key
none_there m key at is =
    unseen m key at (λ i v e. absurd (let z : None ≡ Some v = ap (λ o. slice_get (found o) i) is
    ∙ e in cc))

pub all_newer : (m : VersionMap) (key : StoredKey) (vs : Versions) (at own : ℕ) → own ≡ at
    → Some vs ≡ get stored_cmp m key → HasRisingNumbers m
    → (IsRisingList (all_of vs) → IsLastUpTo (all_of vs) own None)
    → IsUnseen at (MapHolds m) key
all_newer m key vs at own same is rising last =
    unseen m key at (λ i v e.
    let h = last (found_rising m key vs is rising) i v (ap (λ o. slice_get (found o) i) is ∙ e) in
    omega (arith, h, same))
