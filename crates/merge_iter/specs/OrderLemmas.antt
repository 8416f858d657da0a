-- What comparisons of keys and numbers say of entries.
use Rattle.std.proofs.Common.{◌≡◌, ◌↔◌, IsTrue, Bool, ℕ, refl, sym, ◌∙◌, ap, subst}
use Rattle.std.specs.declared.cmp.Ordering.{Ordering}
use Rattle.std.specs.declared.cmp.Ordering.TheVariants.{Less, Equal, Greater}
use Rattle.std.specs.Ordering.{is_lt, ordering_then, nat_cmp}
use Rattle.merge_iter.specs.declared.owned_entry.OwnedEntry.{OwnedEntry}
use Rattle.merge_iter.specs.ListEntries.{entry_of}
use Rattle.byte_fields.specs.{StoredKey, stored_cmp}
use Rattle.kv_types.specs.{Entry}
use Rattle.merge_iter.specs.Order.{entry_cmp}

-- the test for less says so
pub less_iff : (r : Ordering) → IsTrue (is_lt r) ↔ (r ≡ Less)
less_iff Less = (λ h. refl, λ e. refl)
less_iff Equal = (λ h. cc, λ e. cc)
less_iff Greater = (λ h. cc, λ e. cc)

-- the order by a key that was read of the entry
pub before_by : (key : StoredKey) (e : OwnedEntry) (spot : Entry) (r : Ordering) (b : Bool)
    → key ≡ e.key → r ≡ ordering_then (stored_cmp key spot.key)
    (nat_cmp spot.number e.number) → b ≡ is_lt r → b ≡ is_lt (entry_cmp (entry_of e) spot)
before_by key e spot r b k o t =
    let same : r ≡ entry_cmp (entry_of e) spot =
    o ∙ ap (λ x. ordering_then (stored_cmp x spot.key) (nat_cmp spot.number e.number)) k
    in
    t ∙ ap is_lt same

-- an order of keys and numbers is that of their entries
pub by_parts : (k l : StoredKey) (m n : ℕ) (a b : Entry) (r : Ordering) (t : Bool) → k ≡ a.key
    → m ≡ a.number → l ≡ b.key → n ≡ b.number → r ≡ ordering_then (stored_cmp k l)
    (nat_cmp n m) → t ≡ is_lt r → IsTrue t ↔ (entry_cmp a b ≡ Less)
by_parts k l m n a b r t ka ma lb nb o is =
    let same : r ≡ entry_cmp a b = cc in
    subst (λ x. IsTrue x ↔ (entry_cmp a b ≡ Less)) (sym (is ∙ ap is_lt same))
    (less_iff (entry_cmp a b))
