-- The keys of one entry more.
use Rattle.std.proofs.Common.{◌≡◌, ◌↔◌, ℕ, ◌+◌, ◌<◌, Bool, true, false, IsTrue}
use Rattle.std.proofs.Common.{List, [], ◌∷◌, ◌++◌, length, map, cond, Option, Some, IfSome}
use Rattle.std.proofs.Common.{refl, sym, ap, subst, ◌∙◌, arith, length-append}
use Rattle.std.specs.declared.cmp.Ordering.{Ordering}
use Rattle.std.specs.declared.cmp.Ordering.TheVariants.{Less, Equal, Greater}
use Rattle.std.specs.Ordering.{is_lt}
use Rattle.std.specs.Str.{bytes_eq}
use Rattle.std.proofs.lemmas.List.{map-append}
use Rattle.std.proofs.lemmas.Slice.Eq.{bytes_eq-Decides}
use Rattle.bloom.specs.{hashes_of}
use Rattle.kv_types.specs.{Entry}
use Rattle.merge_iter.specs.{EntryPrecedes, entry_cmp, spot}
use Rattle.merge_iter.specs.declared.Direction.TheVariants.{Forward}
use Rattle.table_format.specs.{CanFollow, different_keys, last_entry}
use Rattle.table_format.specs.RisingLemmas.{last_of_some, last_push}
use Rattle.table_builder.specs.declared.keys.AddedKeys.{AddedKeys}
use Rattle.table_builder.specs.Keys.{KnowsKeys, first_entry}

pub first_push : (P : Entry → Type 0) (entries : List Entry) (entry : Entry) → 0 < length entries
    → IfSome (first_entry entries) P → IfSome (first_entry (entries ++ entry ∷ [])) P
first_push P [] entry some p = absurd (omega (arith, some))
first_push P (x ∷ entries) entry some p = p

-- ---- different keys

-- an entry of the last key adds none
pub keys_same : (entries : List Entry) (last entry : Entry) → last_entry entries ≡ Some last
    → bytes_eq last.key entry.key ≡ true
    → different_keys (entries ++ entry ∷ []) ≡ different_keys entries
keys_same [] last entry e same = absurd cc
keys_same (x ∷ []) last entry e same =
    let is : x ≡ last = cc in
    let there : bytes_eq x.key entry.key ≡ true =
    subst (λ (r : Entry). bytes_eq r.key entry.key ≡ true) (sym is) same in
    let keys : x.key ≡ entry.key = (bytes_eq-Decides x.key entry.key).0 there in
    ap (λ (b : Bool). cond b (entry.key ∷ []) (x.key ∷ entry.key ∷ [])) there
    ∙ ap (λ (k : List ℕ). k ∷ []) (sym keys)
keys_same (x ∷ y ∷ entries) last entry e same =
    let below = keys_same (y ∷ entries) last entry e same in
    ap (λ (ks : List (List ℕ)). cond (bytes_eq x.key y.key) ks (x.key ∷ ks)) below

-- another entry adds its key
pub keys_more : (entries : List Entry) (last entry : Entry) → last_entry entries ≡ Some last
    → bytes_eq last.key entry.key ≡ false
    → different_keys (entries ++ entry ∷ []) ≡ different_keys entries ++ entry.key ∷ []
keys_more [] last entry e other = absurd cc
keys_more (x ∷ []) last entry e other =
    let is : x ≡ last = cc in
    let there : bytes_eq x.key entry.key ≡ false =
    subst (λ (r : Entry). bytes_eq r.key entry.key ≡ false) (sym is) other in
    ap (λ (b : Bool). cond b (entry.key ∷ []) (x.key ∷ entry.key ∷ [])) there
keys_more (x ∷ y ∷ entries) last entry e other =
    let below = keys_more (y ∷ entries) last entry e other in
    ap (λ (ks : List (List ℕ)). cond (bytes_eq x.key y.key) ks (x.key ∷ ks)) below
    ∙ pushed (bytes_eq x.key y.key) x.key (different_keys (y ∷ entries)) entry.key
  where
    pushed : (b : Bool) (k : List ℕ) (ks : List (List ℕ)) (more : List ℕ)
        → cond b (ks ++ more ∷ []) (k ∷ (ks ++ more ∷ [])) ≡ cond b ks (k ∷ ks) ++ more ∷ []
    pushed true k ks more = refl
    pushed false k ks more = refl

-- ---- what is kept of the keys

module _ (was now : AddedKeys) (entries : List Entry) (entry : Entry) (k : KnowsKeys was entries)
    (some : 0 < length entries) (count : now.count ≡ length entries + 1)
    (least : now.least ≡ was.least) (last : now.last ≡ entry.key)
    (number : now.number ≡ entry.number) where
  known : now.hashes.items ≡ map hashes_of (different_keys (entries ++ entry ∷ [])) →
      KnowsKeys now (entries ++ entry ∷ [])
  known hashes = record {
    count = omega (arith, count, length-append entries (entry ∷ []));
    hashes = hashes;
    least = first_push (λ r. now.least ≡ r.key) entries entry some
        (subst (λ (b : List ℕ). IfSome (first_entry entries) (λ r. b ≡ r.key)) (sym least) k.least);
    last = subst (λ (o : Option Entry). IfSome o (λ r. (now.last ≡ r.key)
        × (now.number ≡ r.number))) (sym (last_push entries entry)) (last, number);
  }

  -- the last entry's key, seen by what is kept of it
  last_is : (end : Entry) → last_entry entries ≡ Some end → was.last ≡ end.key
  last_is end e = (subst (λ (o : Option Entry). IfSome o (λ r. (was.last ≡ r.key)
      × (was.number ≡ r.number))) e k.last).0

  -- after an entry of the last key
  pub knows_same : bytes_eq was.last entry.key ≡ true →
      now.hashes.items ≡ was.hashes.items → KnowsKeys now (entries ++ entry ∷ [])
  knows_same same hashes =
      let end = last_of_some entries some in
      let alike = subst (λ (key : List ℕ). bytes_eq key entry.key ≡ true)
      (last_is end.0 end.1) same in
      known (hashes ∙ k.hashes ∙ ap (map hashes_of)
      (sym (keys_same entries end.0 entry end.1 alike)))

  -- after an entry of another key
  pub knows_other : bytes_eq was.last entry.key ≡ false →
      now.hashes.items ≡ was.hashes.items ++ hashes_of entry.key ∷ [] →
      KnowsKeys now (entries ++ entry ∷ [])
  knows_other other hashes =
      let end = last_of_some entries some in
      let differ = subst (λ (key : List ℕ). bytes_eq key entry.key ≡ false)
      (last_is end.0 end.1) other in
      known (
      hashes ∙ ap (λ (hs : List (ℕ × ℕ)). hs ++ hashes_of entry.key ∷ []) k.hashes
      ∙ sym (map-append hashes_of (different_keys entries) (entry.key ∷ []))
      ∙ ap (map hashes_of) (sym (keys_more entries end.0 entry end.1 differ))
      )

-- ---- order

less_iff : (o : Ordering) → IsTrue (is_lt o) ↔ (o ≡ Less)
less_iff Less = (λ h. refl, λ h. refl)
less_iff Equal = (λ h. absurd cc, λ h. absurd cc)
less_iff Greater = (λ h. absurd cc, λ h. absurd cc)

-- whether an entry may stand behind the others, by the last key and number
pub follows_by : (keys : AddedKeys) (entries : List Entry) (entry : Entry) (r : Ordering) (t : Bool)
    → KnowsKeys keys entries → 0 < length entries
    → r ≡ entry_cmp (spot keys.last keys.number) (spot entry.key entry.number)
    → t ≡ is_lt r → IsTrue t ↔ CanFollow entries entry
follows_by keys entries entry r t k some ordered is =
    let end = last_of_some entries some in
    let ends = subst (λ (o : Option Entry). IfSome o (λ x. (keys.last ≡ x.key)
    × (keys.number ≡ x.number))) end.1 k.last in
    let same : r ≡ entry_cmp end.0 entry =
    ordered ∙ ap (λ (key : List ℕ).
    entry_cmp (spot key keys.number) (spot entry.key entry.number)) ends.0
    ∙ ap (λ (n : ℕ). entry_cmp (spot end.0.key n) (spot entry.key entry.number)) ends.1 in
    subst (λ (o : Option Entry). IsTrue t ↔ IfSome o (λ last. EntryPrecedes Forward last entry))
    (sym end.1)
    (subst (λ (b : Bool). IsTrue b ↔ EntryPrecedes Forward end.0 entry) (sym (is ∙ ap is_lt same))
    (less_iff (entry_cmp end.0 entry)))
