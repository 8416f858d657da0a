-- What is tested of each configuration and the one after it.
use Rattle.std.proofs.Common.{◌≡◌, ⊎_elim, ℕ, zero, suc, ◌<◌, ◌≤◌, List, [], ◌∷◌, length}
use Rattle.std.proofs.Common.{Bool, true, false, nat_lt, sym, ap, ◌∙◌, subst, get_or, refl, arith}
use Rattle.std.proofs.Common.{Option, Some, None, MatchOption}
use Rattle.std.specs.List.{HoldsAt}
use Rattle.std.proofs.lemmas.Bool.{and_parts, and_cases, false≢true, ltb-true, ltb-false}
use Rattle.configurations.specs.NodeLists.{Lawful, at_epoch}
use Rattle.kv_types.specs.{is_part, Part}
use Rattle.configurations.specs.Configs.{IsConfig}
use Rattle.configurations.specs.Checks.{each_later, is_smaller, is_in_order}
use Rattle.configurations.specs.declared.error.ConfigError.{ConfigError}
use Rattle.configurations.specs.declared.error.ConfigError.TheVariants as fault
use Rattle.configurations.specs.Refusals.{HasPair, IsLeast, ListHas, fault_number}

-- a test that is not passed fails at some place
pub fails_at : (test : List ℕ → List ℕ → Bool) (cs : List (List ℕ)) → each_later test cs ≡ false
    → HasPair cs (λ c d. test c d ≡ false)
fails_at test [] h = absurd (false≢true (sym h))
fails_at test (c ∷ []) h = absurd (false≢true (sym h))
fails_at test (c ∷ d ∷ cs) h =
    ⊎_elim (λ here. (0, omega arith, here)) (λ behind.
    let at = fails_at test (d ∷ cs) behind in (suc at.0, omega (arith, at.1), at.2))
    (and_cases (test c d) (each_later test (d ∷ cs)) h)

-- a test that is passed holds at each place
pub holds_at : (test : List ℕ → List ℕ → Bool) (cs : List (List ℕ)) → each_later test cs ≡ true
    → (e : ℕ) → suc e < length cs → test (at_epoch cs e) (at_epoch cs (suc e)) ≡ true
holds_at test [] h e l = absurd (omega (arith, l))
holds_at test (c ∷ []) h e l = absurd (omega (arith, l))
holds_at test (c ∷ d ∷ cs) h zero l = (and_parts (test c d) (each_later test (d ∷ cs)) h).0
holds_at test (c ∷ d ∷ cs) h (suc e) l =
    let behind = (and_parts (test c d) (each_later test (d ∷ cs)) h).1 in
    holds_at test (d ∷ cs) behind e (omega (arith, l))

-- the test for a part finds the parts, as the chain's model promises
abbrev pub Decides : Type 0
Decides = (d c : List ℕ) → (is_part d c ≡ true → Part d c) × (Part d c → is_part d c ≡ true)

-- some later configuration is not smaller
pub not_smaller : (cs : List (List ℕ)) → each_later is_smaller cs ≡ false
    → ListHas fault.NotSmaller cs
not_smaller cs h =
    let at = fails_at is_smaller cs h in
    (at.0, at.1, ltb-false (length (at_epoch cs (suc at.0))) (length (at_epoch cs at.0)) at.2)

-- each later configuration is smaller
pub all_smaller : (cs : List (List ℕ)) → each_later is_smaller cs ≡ true → (e : ℕ)
    → suc e < length cs → length (at_epoch cs (suc e)) < length (at_epoch cs e)
all_smaller cs h e l =
    ltb-true (length (at_epoch cs (suc e))) (length (at_epoch cs e)) (holds_at is_smaller cs h e l)

-- some later configuration is not in order
pub not_in_order : Decides → (cs : List (List ℕ)) → each_later is_in_order cs ≡ false
    → ListHas fault.NotInOrder cs
not_in_order decides cs h =
    let at = fails_at is_in_order cs h in
    let test = decides (at_epoch cs (suc at.0)) (at_epoch cs at.0) in
    (at.0, at.1, λ part. false≢true (sym at.2 ∙ test.1 part))

-- each later configuration is in order
pub all_in_order : Decides → (cs : List (List ℕ)) → each_later is_in_order cs ≡ true → (e : ℕ)
    → suc e < length cs → Part (at_epoch cs (suc e)) (at_epoch cs e)
all_in_order decides cs h e l =
    (decides (at_epoch cs (suc e)) (at_epoch cs e)).0 (holds_at is_in_order cs h e l)

-- a list with a fault at a later configuration is not empty
some_of : (cs : List (List ℕ)) (e : ℕ) → suc e < length cs → cs ≡ [] → ⊥
some_of cs e l none =
    let no_length : length cs ≡ 0 = ap length none in absurd (omega (arith, l, no_length))

-- it is the first fault that some configuration is not smaller
pub least_smaller : (cs : List (List ℕ)) → each_later is_smaller cs ≡ false
    → IsLeast (λ e. ListHas e cs) fault.NotSmaller
least_smaller cs h = record { has = not_smaller cs h; least = least }
  where
    at : ListHas fault.NotSmaller cs
    at = not_smaller cs h

    least : (other : ConfigError) → fault_number other < 3 → ListHas other cs → ⊥
    least fault.Empty l has = some_of cs at.0 at.1 has
    least fault.Repeated l has = has
    least fault.NotSmaller l has = absurd (omega (arith, l))
    least fault.NotInOrder l has = absurd (omega (arith, l))
    least fault.TooMany l has = absurd (omega (arith, l))
    least fault.BadId l has = has
    least fault.Memory l has = has

-- the first refusal that applies is that some later configuration is not in order
pub least_in_order : Decides → (cs : List (List ℕ)) → each_later is_smaller cs ≡ true
    → each_later is_in_order cs ≡ false → IsLeast (λ e. ListHas e cs) fault.NotInOrder
least_in_order decides cs smaller h = record { has = not_in_order decides cs h; least = least }
  where
    at : ListHas fault.NotInOrder cs
    at = not_in_order decides cs h

    least : (other : ConfigError) → fault_number other < 4 → ListHas other cs → ⊥
    least fault.Empty l has = some_of cs at.0 at.1 has
    least fault.Repeated l has = has
    least fault.NotSmaller l has = absurd (omega (arith, all_smaller cs smaller has.0 has.1, has.2))
    least fault.NotInOrder l has = absurd (omega (arith, l))
    least fault.TooMany l has = absurd (omega (arith, l))
    least fault.BadId l has = has
    least fault.Memory l has = has

-- the first refusal that applies is that there are too many configurations
pub least_many : Decides → (cs : List (List ℕ)) → each_later is_smaller cs ≡ true
    → each_later is_in_order cs ≡ true → 16 < length cs
    → IsLeast (λ e. ListHas e cs) fault.TooMany
least_many decides cs smaller ordered many = record { has = many; least = least }
  where
    least : (other : ConfigError) → fault_number other < 5 → ListHas other cs → ⊥
    least fault.Empty l has =
        let no_length : length cs ≡ 0 = ap length has in absurd (omega (arith, many, no_length))
    least fault.Repeated l has = has
    least fault.NotSmaller l has = absurd (omega (arith, all_smaller cs smaller has.0 has.1, has.2))
    least fault.NotInOrder l has = has.2 (all_in_order decides cs ordered has.0 has.1)
    least fault.TooMany l has = absurd (omega (arith, l))
    least fault.BadId l has = has
    least fault.Memory l has = has

-- a list without a fault is lawful
pub lawful_of : Decides → (cs : List (List ℕ)) → 1 ≤ length cs → length cs ≤ 16
    → IsConfig (at_epoch cs 0) → each_later is_smaller cs ≡ true
    → each_later (λ c d. nat_lt 0 (length d)) cs ≡ true → each_later is_in_order cs ≡ true
    → Lawful cs
lawful_of decides cs some few first smaller nodes ordered = record {
  at_least_one = some;
  at_most_16 = few;
  nodes = first.some;
  at_most_16_nodes = first.few;
  ids = first.each;
  different = first.different;
  shrinks = λ e l. record {
    part = all_in_order decides cs ordered e l;
    shorter = all_smaller cs smaller e l;
    not_empty = ltb-true 0 (length (at_epoch cs (suc e)))
        (holds_at (λ c d. nat_lt 0 (length d)) cs nodes e l);
  };
}

-- the configuration of an epoch is at its place
pub epoch_get : (cs : List (List ℕ)) (e : ℕ) → get_or cs e [] ≡ at_epoch cs e
epoch_get [] e = refl
epoch_get (c ∷ cs) zero = refl
epoch_get (c ∷ cs) (suc e) = epoch_get cs e

-- the configuration at a place of the list is that of the epoch
abbrev pub IsAt : {X : Type 0} → (X → List ℕ) → List (List ℕ) → ℕ → Option X → Type 0
IsAt now cs e found =
    MatchOption found (length cs ≤ e) (λ it. (e < length cs) × (now it ≡ at_epoch cs e))

found_in : {X : Type 0} (now : X → List ℕ) (cs : List (List ℕ)) (e : ℕ) (found : Option X)
    → MatchOption found (length cs ≤ e)
    (λ it. (e < length cs) × HoldsAt (λ c. now it ≡ c) cs e)
    → IsAt now cs e found
found_in now cs e None h = h
found_in now cs e (Some it) h = (h.0, h.1 [] ∙ epoch_get cs e)

-- the configuration of an epoch, for equal lists and places
pub found_at : {X : Type 0} (now : X → List ℕ) (cs ds : List (List ℕ)) (e d : ℕ)
    (found : Option X) → cs ≡ ds → e ≡ d
    → MatchOption found (length cs ≤ e)
    (λ it. (e < length cs) × HoldsAt (λ c. now it ≡ c) cs e)
    → IsAt now ds d found
found_at now cs ds e d found list place h =
    subst (λ n. IsAt now ds n found) place
    (subst (λ l. IsAt now l e found) list (found_in now cs e found h))
