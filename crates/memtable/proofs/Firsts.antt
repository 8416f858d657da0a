-- The first version that a walk over a map meets.
use Rattle.std.proofs.Common.{◌≡◌, ◌↔◌, ◌⊎◌, inl, inr, ℕ, ◌<◌, sym, ap, ◌∙◌, subst, arith}
use Rattle.std.proofs.Common.{Option, Some, None, refl}
use Rattle.std.specs.List.{slice_get}
use Rattle.std.specs.Option.{IsSome}
use Rattle.std.specs.BTreeMap.{get}
use Rattle.std.specs.Cmp.{tied_itself}
use Rattle.std.specs.declared.cmp.Ordering.{Ordering}
use Rattle.std.specs.declared.cmp.Ordering.TheVariants.{Less, Equal, Greater}
use Rattle.std.specs.Ordering.{nat_cmp, ordering_then, ordering_reverse}
use Rattle.std.proofs.lemmas.Cmp.{ranked, by_ranked}
use Rattle.merge_iter.specs.declared.direction.Direction.{Direction}
use Rattle.merge_iter.specs.declared.direction.Direction.TheVariants.{Forward, Backward}
use Rattle.byte_fields.specs.{StoredKey, stored_cmp}
use Rattle.byte_fields.specs.StoredKeysLemmas.{stored_tied, stored_total}
use Rattle.kv_types.specs.{Entry}
use Rattle.merge_iter.specs.{Position, On, Off, Broken, entry_cmp, EntryPrecedes, IsFirst}
use Rattle.merge_iter.specs.EntryParts.{numbers_fall}
use Rattle.memtable.specs.declared.version.Version.{Version}
use Rattle.memtable.specs.declared.version.Versions.{Versions}
use Rattle.memtable.specs.Versions.{all_of}
use Rattle.memtable.specs.Maps.{VersionMap, found, versions_at, MapHolds, version_entry}
use Rattle.memtable.specs.Maps.{entry_version}
use Rattle.memtable.specs.Places.{position_on}

abbrev pub Keys : StoredKey → StoredKey → Ordering
Keys k l = stored_cmp k l

pub same_key : (k l : StoredKey) → Keys k l ≡ Equal → k ≡ l
same_key k l e = stored_tied k l e

pub not_less : (k l : StoredKey) → Keys k l ≡ Less → Keys l k ≡ Less → ⊥
not_less k l h j = let z = stored_total.trans k l k h j in let e : Equal ≡ Less =
    sym (tied_itself stored_total k) ∙ z in cc

pub not_same : (k l : StoredKey) → k ≡ l → Keys k l ≡ Less → ⊥
not_same k l e h = let z : Keys l l ≡ Less = subst (λ x. Keys x l ≡ Less) e h in
    let y : Equal ≡ Less = sym (tied_itself stored_total l) ∙ z in cc

pub turned_key : (k l : StoredKey) → Keys k l ≡ Greater → Keys l k ≡ Less
turned_key k l h = stored_total.antisymm l k ∙ ap ordering_reverse h

split : (a b : Entry) (o : Ordering) → Keys a.key b.key ≡ o → entry_cmp a b ≡ Less
    → (Keys a.key b.key ≡ Less) ⊎ (a.key ≡ b.key)
split a b Less is h = inl is
split a b Equal is h = inr (same_key a.key b.key is)
split a b Greater is h =
    absurd (let k : Greater ≡ Less = sym (ap (λ o. ordering_then o (nat_cmp b.number a.number)) is)
    ∙ h in cc)

-- a lesser key, or in one key a greater number
pub parts : (a b : Entry) → entry_cmp a b ≡ Less → (Keys a.key b.key ≡ Less)
    ⊎ ((a.key ≡ b.key) × (b.number < a.number))
parts a b h = elim (split a b (Keys a.key b.key) refl h)
    [ inl k ↦ inl k | inr k ↦ inr (k, numbers_fall a b h k) ]

pub by_key : (a b : Entry) → Keys a.key b.key ≡ Less → entry_cmp a b ≡ Less
by_key a b h = ap (λ o. ordering_then o (nat_cmp b.number a.number)) h

less_cmp : (x y : ℕ) → x < y → nat_cmp x y ≡ Less
less_cmp x y l = by_ranked (x < y) (x ≡ y) (y < x) (nat_cmp x y) (ranked x y (nat_cmp x y) refl)
    (λ is h. is) (λ is h. absurd (omega (arith, h, l))) (λ is h. absurd (omega (arith, h, l)))

pub by_number : (a b : Entry) → a.key ≡ b.key → b.number < a.number → entry_cmp a b ≡ Less
by_number a b e l =
    let k : Keys a.key b.key ≡ Equal = subst (λ x. Keys a.key x ≡ Equal) e
    (tied_itself stored_total a.key) in
    ap (λ o. ordering_then o (nat_cmp b.number a.number)) k ∙ less_cmp b.number a.number l

-- ---- along a walk

abbrev pub KeyPrecedes : Direction → StoredKey → StoredKey → Type 0
KeyPrecedes Forward k l = Keys k l ≡ Less
KeyPrecedes Backward k l = Keys l k ≡ Less

abbrev pub NumberPrecedes : Direction → ℕ → ℕ → Type 0
NumberPrecedes Forward a b = b < a
NumberPrecedes Backward a b = a < b

pub precedes_parts : (way : Direction) (a b : Entry) → EntryPrecedes way a b → KeyPrecedes way a.key
    b.key ⊎ ((a.key ≡ b.key) × NumberPrecedes way a.number b.number)
precedes_parts Forward a b h = parts a b h
precedes_parts Backward a b h = elim (parts b a h) [ inl k ↦ inl k | inr k ↦ inr (sym k.0, k.1) ]

pub precedes_key : (way : Direction) (a b : Entry) → KeyPrecedes way a.key b.key → EntryPrecedes way
    a b
precedes_key Forward a b h = by_key a b h
precedes_key Backward a b h = by_key b a h

pub precedes_number : (way : Direction) (a b : Entry) → a.key ≡ b.key → NumberPrecedes way a.number
    b.number → EntryPrecedes way a b
precedes_number Forward a b e l = by_number a b e l
precedes_number Backward a b e l = by_number b a (sym e) l

pub keys_apart : (way : Direction) (k l : StoredKey) → KeyPrecedes way k l → KeyPrecedes way l k → ⊥
keys_apart Forward k l h j = not_less k l h j
keys_apart Backward k l h j = not_less l k h j

pub keys_differ : (way : Direction) (k l : StoredKey) → k ≡ l → KeyPrecedes way k l → ⊥
keys_differ Forward k l e h = not_same k l e h
keys_differ Backward k l e h = not_same l k (sym e) h

-- the entry is among the versions of its key
pub among : (m : VersionMap) (k : StoredKey) (vs : Versions) (entry : Entry) → get stored_cmp
    m k ≡ Some vs → entry.key ≡ k → MapHolds m entry → (i : ℕ)
    × (slice_get (all_of vs) i ≡ Some (entry_version entry))
among m k vs entry is e h = (
  h.0,
  subst (λ xs. slice_get xs h.0 ≡ Some (entry_version entry))
      (ap (versions_at m) e ∙ ap found is) h.1,
)

-- a version that no entry of the set is_met_first before
pub first_by : (way : Direction) (m : VersionMap) (P : Entry → Type 0) (k : StoredKey)
    (vs : Versions)
    (at : ℕ) (v : Version)
    → get stored_cmp m k ≡ Some vs → slice_get (all_of vs) at ≡ Some v
    → P (version_entry k v)
    → ((entry : Entry) → MapHolds m entry → P entry → KeyPrecedes way entry.key k → ⊥)
    → ((i : ℕ) (entry : Entry) → slice_get (all_of vs) i ≡ Some (entry_version entry) → entry.key ≡
    k → P entry → NumberPrecedes way entry.number v.number → ⊥)
    → IsFirst way (λ entry. MapHolds m entry × P entry) (position_on k (slice_get (all_of vs) at))
first_by way m P k vs at v is here p keys numbers =
    subst (λ o. IsFirst way (λ entry. MapHolds m entry × P entry) (position_on k o)) (sym here) (
      ((at, ap (λ xs. slice_get xs at) (ap found is) ∙ here), p),
      (λ other h is_met_first. elim (precedes_parts way other (version_entry k v) is_met_first) [
        | inl c ↦ keys other h.0 h.1 c
        | inr c ↦ let a = among m k vs other is c.0 h.0 in numbers a.0 other a.1 c.0 h.1 c.1
      ]),
    )

-- two tests that agree on the map's entries
pub first_alike : (way : Direction) (m : VersionMap) (P Q : Entry → Type 0) (s : Position)
    → ((entry : Entry) → MapHolds m entry → P entry ↔ Q entry) → IsFirst way
    (λ entry. MapHolds m entry × P entry) s → IsFirst way (λ entry. MapHolds m entry × Q entry)
    s
first_alike way m P Q (On entry) same f =
    ((f.0.0, (same entry f.0.0).0 f.0.1), (λ other h. f.1 other (h.0, (same other h.0).1 h.1)))
first_alike way m P Q Off same f = λ other h. f other (h.0, (same other h.0).1 h.1)
first_alike way m P Q Broken same f = f

-- what has a entry has its key
pub has_key : (m : VersionMap) (entry : Entry) → MapHolds m entry
    → IsSome (get stored_cmp m entry.key)
has_key m entry h = some_by (get stored_cmp m entry.key) refl
  where
    some_by : (o : Option Versions) → get stored_cmp m entry.key ≡ o → IsSome o
    some_by None e = absurd (let z : None ≡ Some (entry_version entry) =
        sym (ap (λ x. slice_get (found x) h.0) e) ∙ h.1 in cc)
    some_by (Some x) e = refl
