-- What a tick sends again: nothing behind the last batch, and nothing without a successor.
use Rattle.std.proofs.Common.{◌≡◌, ℕ, zero, suc, ◌+◌, ◌<◌, ◌≤◌, List, [], ◌∷◌, ◌++◌, length}
use Rattle.std.proofs.Common.{Option, Some, None, Bool, true, not, refl, sym, ap, ◌∙◌, arith}
use Rattle.std.specs.Option.{is_some}
use Rattle.std.proofs.lemmas.Bool.{true≢false}
use Rattle.kv_types.specs.{BatchContent, Edits, place}
use Rattle.configurations.specs.{successor}
use Rattle.chain_model.specs.{Message, forward, forward_to, forwards}
use Rattle.chain_core.specs.States.{Machine}

none_behind : (l : List BatchContent) (k : ℕ) → length l ≤ k → place l (suc k) ≡ None
none_behind [] k behind = refl
none_behind (x ∷ l) zero behind = absurd (omega (arith, behind))
none_behind (x ∷ l) (suc k) behind = none_behind l k (omega (arith, behind))

no_batch : (s : Option ℕ) (x : ℕ) (n : Machine) (k : ℕ) (batch : Option BatchContent) →
    batch ≡ None → forward_to s x n k batch ≡ []
no_batch None x n k batch e = refl
no_batch (Some s) x n k batch e = rw e refl

module _ (x : ℕ) (n : Machine) where
  not_sent : (k : ℕ) → length n.list ≤ k → forward x n (suc k) ≡ []
  not_sent k behind =
      no_batch (successor n.ids x) x n (suc k) (place n.list (suc k)) (none_behind n.list k behind)

  -- behind the last batch nothing is sent
  pub sent_to_count : (c m k : ℕ) → m ≤ c → (m < c → length n.list ≤ k + m) →
      forwards x n k c ≡ forwards x n k m
  sent_to_count zero zero k few last = refl
  sent_to_count zero (suc m) k few last = absurd (omega (arith, few))
  sent_to_count (suc c) zero k few last =
      let behind : length n.list ≤ k = omega (arith, last (omega arith)) in
      let rest = sent_to_count c zero (suc k) (omega arith) (λ _. omega (arith, behind)) in
      rw (not_sent k behind, rest) refl
  sent_to_count (suc c) (suc m) k few last =
      let less = sent_to_count c m (suc k) (omega (arith, few))
      (λ l. omega (arith, last (omega (arith, l)))) in
      ap (λ (fs : List (Message Edits)). forward x n (suc k) ++ fs) less

  -- nothing is sent without a successor
  pub none_sent : (c k : ℕ) → successor n.ids x ≡ None → forwards x n k c ≡ []
  none_sent zero k none = refl
  none_sent (suc c) k none = rw (none, none_sent c (suc k) none) refl

-- an option without a value is `None`
pub not_some : (o r : Option ℕ) (b : Bool) → r ≡ o → is_some r ≡ not b → b ≡ true → o ≡ None
not_some o None b e none is = sym e
not_some o (Some s) b e none is = absurd (true≢false (none ∙ ap not is))
