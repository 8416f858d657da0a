-- The first version that does not come before a key and number.
use Rattle.std.proofs.Common.{◌≡◌, inl, inr, ℕ, ◌<◌, sym, ap, ◌∙◌, subst, arith, Some, None}
use Rattle.std.proofs.Common.{refl}
use Rattle.std.specs.List.{slice_get}
use Rattle.std.specs.BTreeMap.{get}
use Rattle.std.specs.declared.cmp.Ordering.{Ordering}
use Rattle.std.specs.declared.cmp.Ordering.TheVariants.{Less, Equal, Greater}
use Rattle.std.proofs.lemmas.Option.{slice_get_cases}
use Rattle.merge_iter.specs.declared.direction.Direction.TheVariants.{Forward}
use Rattle.byte_fields.specs.{StoredKey, stored_cmp}
use Rattle.kv_types.specs.{Entry}
use Rattle.merge_iter.specs.{Position, EntryPrecedes, IsFirst, spot}
use Rattle.memtable.specs.declared.version.Version.{Version}
use Rattle.memtable.specs.declared.version.Versions.{Versions}
use Rattle.memtable.specs.declared.place.VersionPlace.{VersionPlace}
use Rattle.memtable.specs.Versions.{all_of, IsRisingList, IsLastUpTo}
use Rattle.memtable.specs.Maps.{VersionMap, found, versions_at, MapHolds, HasRisingNumbers}
use Rattle.memtable.specs.Maps.{version_entry, entry_version}
use Rattle.memtable.specs.Places.{position_on, IsVersionPlace}
use Rattle.memtable.proofs.Gets.{found_rising}
use Rattle.memtable.proofs.Firsts.{Keys, same_key, not_less, not_same, turned_key, parts, by_key}
use Rattle.memtable.proofs.Firsts.{by_number, first_by, first_alike}
use Rattle.memtable.proofs.Steps.{earlier}

found_at : (m : VersionMap) (k : StoredKey) (vs : Versions) (at number : ℕ) → Some vs ≡ get
    stored_cmp m k → IsRisingList (all_of vs) → IsLastUpTo (all_of vs) number (Some at)
    → IsFirst Forward (λ entry. MapHolds m entry × (EntryPrecedes Forward entry (spot k number)
    → ⊥)) (position_on k (slice_get (all_of vs) at))
found_at m k vs at number is rising to =
    elim (slice_get_cases (all_of vs) at).1 [
      | inl (v, within, there, read) ↦
          first_by Forward m (λ entry. EntryPrecedes Forward entry (spot k number) → ⊥) k vs at v
          (sym is) there
          (λ is_met_first. elim (parts (version_entry k v) (spot k number) is_met_first) [
            | inl c ↦ not_same k k refl c
            | inr c ↦ (let n = c.1 in let l =
                to.1 at v (omega arith) there in omega (arith, n, l))
          ])
          (λ entry has p c. p (by_key entry (spot k number) c))
          (λ i entry here same p n. p (by_number entry (spot k number) same
          (to.2 i (entry_version entry) (earlier (all_of vs) at i v (entry_version entry) rising
          there here n) here)))
      | inr (past, none) ↦ absurd (let l = to.0 in omega (arith, past, l))
    ]

pub seek_found : (m : VersionMap) (k stored : StoredKey) (vs : Versions) (at number : ℕ)
    → Keys k stored ≡ Equal → Some vs ≡ get stored_cmp m k → HasRisingNumbers m
    → (IsRisingList (all_of vs) → IsLastUpTo (all_of vs) number (Some at))
    → IsFirst Forward (λ entry. MapHolds m entry × (EntryPrecedes Forward entry (spot k number)
    → ⊥)) (position_on stored (slice_get (all_of vs) at))
seek_found m k stored vs at number e is rising to =
    let up = found_rising m k vs is rising in
    subst (λ x. IsFirst Forward (λ entry. MapHolds m entry
    × (EntryPrecedes Forward entry (spot k number) → ⊥))
    (position_on x (slice_get (all_of vs) at))) (same_key k stored e)
    (found_at m k vs at number is up (to up))

past_by : (m : VersionMap) (k : StoredKey) (number : ℕ) (entry : Entry) (o : Ordering)
    → ((i : ℕ) (v : Version) → slice_get (versions_at m k) i ≡ Some v → number < v.number)
    → MapHolds m entry → (EntryPrecedes Forward entry (spot k number) → ⊥) → Keys k entry.key ≡ o
    → Keys k entry.key ≡ Less
past_by m k number entry Less late has p is = is
past_by m k number entry Equal late has p is =
    let e = same_key k entry.key is in
    absurd (p (by_number entry (spot k number) (sym e)
    (late has.0 (entry_version entry) (ap (λ x. slice_get (versions_at m x) has.0) e ∙ has.1))))
past_by m k number entry Greater late has p is =
    absurd (p (by_key entry (spot k number) (turned_key k entry.key is)))

seek_past : (m : VersionMap) (k : StoredKey) (number : ℕ) (s : Position)
    → ((i : ℕ) (v : Version) → slice_get (versions_at m k) i ≡ Some v → number < v.number)
    → IsFirst Forward (λ entry. MapHolds m entry × (Keys k entry.key ≡ Less)) s
    → IsFirst Forward (λ entry. MapHolds m entry × (EntryPrecedes Forward entry (spot k number)
    → ⊥)) s
seek_past m k number s late first =
    first_alike Forward m (λ entry. Keys k entry.key ≡ Less) (λ entry. EntryPrecedes Forward entry
    (spot k number) → ⊥) s
    (λ entry has. (
      (λ less is_met_first. elim (parts entry (spot k number) is_met_first)
          [ inl c ↦ not_less k entry.key less c | inr c ↦ not_same k entry.key (sym c.0) less ]),
      (λ p. past_by m k number entry (Keys k entry.key) late has p refl),
    )) first

pub seek_newer : (m : VersionMap) (k : StoredKey) (vs : Versions) (number : ℕ) (s : Position)
    → Some vs ≡ get stored_cmp m k → HasRisingNumbers m
    → (IsRisingList (all_of vs) → IsLastUpTo (all_of vs) number None)
    → IsFirst Forward (λ entry. MapHolds m entry × (Keys k entry.key ≡ Less)) s
    → IsFirst Forward (λ entry. MapHolds m entry × (EntryPrecedes Forward entry (spot k number)
    → ⊥)) s
seek_newer m k vs number s is rising late =
    seek_past m k number s (λ i v e. late (found_rising m k vs is rising) i v
    (ap (λ o. slice_get (found o) i) is ∙ e))

pub seek_none : (m : VersionMap) (k : StoredKey) (number : ℕ) (s : Position) → None ≡ get
    stored_cmp m k
    → IsFirst Forward (λ entry. MapHolds m entry × (Keys k entry.key ≡ Less)) s
    → IsFirst Forward (λ entry. MapHolds m entry × (EntryPrecedes Forward entry (spot k number)
    → ⊥)) s
seek_none m k number s is = seek_past m k number s
    (λ i v e. absurd (let z : None ≡ Some v = ap (λ o. slice_get (found o) i) is ∙ e in cc))

pub placed_at : (m : VersionMap) (k : StoredKey) (place : VersionPlace) (number : ℕ)
    → Keys k place.key.now ≡ Equal → Some place.versions.now ≡ get stored_cmp m k
    → HasRisingNumbers m
    → (IsRisingList (all_of place.versions.now) → IsLastUpTo (all_of place.versions.now) number
    (Some place.at)) → IsVersionPlace m place
placed_at m k place number e is rising to = record {
  found = sym (subst (λ x. Some place.versions.now ≡ get stored_cmp m x)
      (same_key k place.key.now e) is);
  within = (to (found_rising m k place.versions.now is rising)).0;
}
