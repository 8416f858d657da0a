-- A filter of the keys of entries denies none of them, in each format.
use Rattle.std.proofs.Common.{◌≡◌, inl, inr, ℕ, List, [], ◌∷◌, Bool, true, false, cond, Contains}
use Rattle.std.proofs.Common.{refl, sym, ap, subst, map}
use Rattle.std.specs.Str.{bytes_eq}
use Rattle.std.proofs.lemmas.Slice.Eq.{bytes_eq-Decides}
use Rattle.byte_fields.specs.{StoredKey, bytes_of}
use Rattle.kv_types.specs.OrderLemmas.{Among, among_from_Contains, among_of_All}
use Rattle.kv_types.specs.{Entry, IsUnseen}
use Rattle.bloom.specs.Filters.{Covers, FiltersCover, IsFilter}
use Rattle.table_format.specs.{different_keys, filter_key, filter_keys}
use Rattle.byte_fields.specs.declared.format.Format.{Format}
use Rattle.byte_fields.specs.declared.format.Format.TheVariants.{One, Two}

more_keys : (b : Bool) (k : List ℕ) (ks : List (List ℕ)) (key : StoredKey) → Among key ks
    → Among key (cond b ks (k ∷ ks))
more_keys true k ks key a = a
more_keys false k ks key a = inr a

this_key : (b : Bool) (k n : List ℕ) (ks : List (List ℕ)) → (b ≡ true → k ≡ n) → Among n ks
    → Among k (cond b ks (k ∷ ks))
this_key true k n ks same a = subst (λ (x : List ℕ). Among x ks) (sym (same refl)) a
this_key false k n ks same a = inl refl

-- the key of each entry is among the keys
pub key_among : (entries : List Entry) (entry : Entry) → Among entry entries
    → Among entry.key (different_keys entries)
key_among [] entry a = absurd a
key_among (x ∷ []) entry (inl e) = inl (ap (λ (z : Entry). z.key) e)
key_among (x ∷ []) entry (inr a) = absurd a
key_among (x ∷ y ∷ entries) entry (inl e) =
    subst (λ (k : List ℕ). Among k (different_keys (x ∷ y ∷ entries))) (ap (λ (z : Entry). z.key) e)
    (this_key (bytes_eq x.key y.key) x.key y.key (different_keys (y ∷ entries))
    (λ t. (bytes_eq-Decides x.key y.key).0 t) (key_among (y ∷ entries) y (inl refl)))
key_among (x ∷ y ∷ entries) entry (inr a) =
    more_keys (bytes_eq x.key y.key) x.key (different_keys (y ∷ entries)) entry.key
    (key_among (y ∷ entries) entry a)

among_bytes : (keys : List StoredKey) (key : StoredKey) → Among key keys
    → Among (bytes_of key) (map bytes_of keys)
among_bytes [] key a = absurd a
among_bytes (k ∷ keys) key (inl e) = inl (ap bytes_of e)
among_bytes (k ∷ keys) key (inr a) = inr (among_bytes keys key a)

-- what is held for one of the keys is among what is held for them
held_among : (format : Format) (keys : List StoredKey) (key : StoredKey) → Among key keys
    → Among (filter_key format key) (filter_keys format keys)
held_among One keys key a = among_bytes keys key a
held_among Two keys key a = a

-- a key that the filter denies has no entry
pub denied_unseen : (format : Format) (entries : List Entry) (filter : List ℕ) (key : StoredKey)
    (at : ℕ) → FiltersCover → IsFilter (filter_keys format (different_keys entries)) filter
    → (Covers filter (filter_key format key) → ⊥) → IsUnseen at (Contains entries) key
denied_unseen format entries filter key at cover exact denied = λ other seen e.
    let keys = different_keys entries in
    denied (subst (λ (k : StoredKey). Covers filter (filter_key format k)) e
    (among_of_All (Covers filter) (filter_keys format keys) (filter_key format other.key)
    (cover (filter_keys format keys) filter exact)
    (held_among format keys other.key
    (key_among entries other (among_from_Contains entries other seen.0)))))
