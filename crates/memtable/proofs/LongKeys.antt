-- A key that is longer than each key of a map, and its beginning.
use Rattle.std.proofs.Common.{◌≡◌, ◌⊎◌, inl, inr, ℕ, suc, zero, ◌<◌, ◌≤◌, sym, ap, ◌∙◌, subst}
use Rattle.std.proofs.Common.{arith, List, [], ◌∷◌, length, take, refl}
use Rattle.std.specs.Cmp.{nat_cmp_total}
use Rattle.std.specs.declared.cmp.Ordering.{Ordering}
use Rattle.std.specs.declared.cmp.Ordering.TheVariants.{Less, Equal, Greater}
use Rattle.std.specs.Ordering.{nat_cmp, ordering_then, ordering_reverse}
use Rattle.merge_iter.specs.declared.direction.Direction.TheVariants.{Forward}
use Rattle.byte_fields.specs.{StoredKey, bytes_of, space_of}
use Rattle.kv_types.specs.{Entry}
use Rattle.merge_iter.specs.{Position, EntryPrecedes, IsFirst, spot}
use Rattle.memtable.specs.Maps.{VersionMap, MapHolds}
use Rattle.memtable.proofs.Firsts.{Keys, parts, by_key, first_alike}

pub take_short : (n : ℕ) (xs : List ℕ) → length (take n xs) ≤ n
take_short zero [] = omega arith
take_short zero (x ∷ xs) = omega arith
take_short (suc n) [] = omega arith
take_short (suc n) (x ∷ xs) = let h = take_short n xs in omega (arith, h)

heads : (n x y : ℕ) (k b : List ℕ) (o : Ordering) → nat_cmp x y ≡ o
    → ((Keys k b ≡ Less) × (Keys (take n b) k ≡ Less → ⊥))
    ⊎ ((Keys k b ≡ Greater) × (Keys (take n b) k ≡ Less))
    → ((Keys (x ∷ k) (y ∷ b) ≡ Less) × (Keys (y ∷ take n b) (x ∷ k) ≡ Less → ⊥))
    ⊎ ((Keys (x ∷ k) (y ∷ b) ≡ Greater) × (Keys (y ∷ take n b) (x ∷ k) ≡ Less))
heads n x y k b Less e h =
    let back : nat_cmp y x ≡ Greater = nat_cmp_total.antisymm y x ∙ ap ordering_reverse e in
    inl (
      ap (λ o. ordering_then o (Keys k b)) e,
      (λ l. let z : Greater ≡ Less =
          sym (ap (λ o. ordering_then o (Keys (take n b) k)) back) ∙ l in cc),
    )
heads n x y k b Greater e h =
    let back : nat_cmp y x ≡ Less = nat_cmp_total.antisymm y x ∙ ap ordering_reverse e in
    inr (ap (λ o. ordering_then o (Keys k b)) e, ap (λ o. ordering_then o (Keys (take n b) k)) back)
heads n x y k b Equal e h =
    let back : nat_cmp y x ≡ Equal = nat_cmp_total.antisymm y x ∙ ap ordering_reverse e in
    let there : Keys (x ∷ k) (y ∷ b) ≡ Keys k b = ap (λ o. ordering_then o (Keys k b)) e in
    let here : Keys (y ∷ take n b) (x ∷ k) ≡ Keys (take n b) k =
    ap (λ o. ordering_then o (Keys (take n b) k)) back in
    elim h [
      | inl a ↦ inl (there ∙ a.0, (λ l. a.1 (sym here ∙ l)))
      | inr a ↦ inr
          (there ∙ a.0, here ∙ a.1)
    ]

-- the longer key is_met_first on one side of a key, and its beginning tells which
tells : (n : ℕ) (k b : List ℕ) → length k ≤ n → n < length b
    → ((Keys k b ≡ Less) × (Keys (take n b) k ≡ Less → ⊥))
    ⊎ ((Keys k b ≡ Greater) × (Keys (take n b) k ≡ Less))
tells n [] [] l m = absurd (omega (arith, m))
tells zero [] (y ∷ b) l m = inl (refl, (λ h. cc))
tells (suc n) [] (y ∷ b) l m = inl (refl, (λ h. cc))
tells zero (x ∷ k) b l m = absurd (omega (arith, l))
tells (suc n) (x ∷ k) [] l m = absurd (omega (arith, m))
tells (suc n) (x ∷ k) (y ∷ b) l m = heads n x y k b (nat_cmp x y) refl
    (tells n k b (omega (arith, l)) (omega (arith, m)))

long_key : (m : VersionMap) (n : ℕ) (bytes own : StoredKey) (number : ℕ) (s : Position)
    → own ≡ take n bytes → n < length bytes
    → ((entry : Entry) → MapHolds m entry → length entry.key ≤ n)
    → IsFirst Forward (λ entry. MapHolds m entry × (Keys own entry.key ≡ Less)) s
    → IsFirst Forward (λ entry. MapHolds m entry × (EntryPrecedes Forward entry (spot bytes number)
    → ⊥)) s
long_key m n bytes own number s is long short first =
    first_alike Forward m (λ entry. Keys own entry.key ≡ Less) (λ entry. EntryPrecedes Forward entry
    (spot bytes number) → ⊥) s
    (λ entry has. elim (tells n entry.key bytes (short entry has) long) [
      | inl a ↦ (
        (λ l. absurd (a.1 (subst (λ x. Keys x entry.key ≡ Less) is l))),
        (λ p. absurd (p (by_key entry (spot bytes number) a.0))),
      )
      | inr a ↦ (
        (λ l is_met_first. elim (parts entry (spot bytes number) is_met_first) [
          | inl c ↦ (let z : Greater ≡ Less = sym a.0 ∙ c in cc)
          | inr c ↦ absurd (let w = short entry has in let z : length entry.key ≡ length bytes =
              ap length c.0 in omega (arith, w, z, long))
        ]),
        (λ p. subst (λ x. Keys x entry.key ≡ Less) (sym is) a.1),
      )
    ]) first

beyond : (key : StoredKey) → length key ≤ suc (length (bytes_of key))
beyond [] = omega arith
beyond (space ∷ bytes) = omega arith

-- the same, of the bytes behind the space
pub long_stored_key : (m : VersionMap) (n : ℕ) (key own : StoredKey) (number : ℕ) (s : Position)
    → own ≡ space_of key ∷ take n (bytes_of key) → n < length (bytes_of key)
    → ((entry : Entry) → MapHolds m entry → length (bytes_of entry.key) ≤ n)
    → IsFirst Forward (λ entry. MapHolds m entry × (Keys own entry.key ≡ Less)) s
    → IsFirst Forward (λ entry. MapHolds m entry × (EntryPrecedes Forward entry (spot key number)
    → ⊥)) s
long_stored_key m n [] own number s is long short first = absurd (omega (arith, long))
long_stored_key m n (space ∷ bytes) own number s is long short first =
    long_key m (suc n) (space ∷ bytes) own number s is (omega (arith, long))
    (λ entry has. let le = short entry has in omega (arith, le, beyond entry.key)) first
