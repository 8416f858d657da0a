-- Keys put into a filter, one after another, and each probe by probe.
use Rattle.std.proofs.Common.{◌≡◌, ◌⊎◌, ◌+◌, ◌*◌, ◌/◌, ◌%◌, ◌^◌, ◌<◌, ◌≤◌, ℕ, List, [], ◌∷◌}
use Rattle.std.proofs.Common.{◌++◌, length, get_or, take, inl, inr, sym, ap, subst, ◌∙◌, arith}
use Rattle.std.specs.Prelude.{◌↔◌, All}
use Rattle.std.specs.List.{AllByRecursion, AllClonesOf}
use Rattle.std.proofs.lemmas.List.Elements.{All-from_recursion}
use Rattle.std.specs.Int.Bits.{bit_and, and_zero_l}
use Rattle.std.proofs.lemmas.Bool.{cases_lt}
use Rattle.std.proofs.lemmas.List.{take_more, take_all}
use Rattle.std.proofs.lemmas.List.Elements.{Contains-append_left, Contains-push}
use Rattle.std.proofs.lemmas.List.Elements.{Contains-push_cases}
use Rattle.bloom.specs.Filters.{HasBit, IsProbeOf, IsProbe, IsFilter, probe_of, hashes_of}
use Rattle.bloom.specs.Filters.{bytes_for}

-- p is one of the first n probes of a key with these hashes
abbrev pub IsEarly : ℕ → ℕ × ℕ → ℕ → ℕ → Type 0
IsEarly bits hashes n p = (i : ℕ) × (i < n) × (p ≡ probe_of bits hashes i)

-- the bits of a filter with the first n probes of a key with these hashes
abbrev pub HasPut : List ℕ → ℕ × ℕ → ℕ → List ℕ → Type 0
HasPut old hashes n new = (p : ℕ) → p < 8 * length old →
    HasBit new p ↔ (HasBit old p ⊎ IsEarly (8 * length old) hashes n p)

pub none_put : (old : List ℕ) (hashes : ℕ × ℕ) → HasPut old hashes 0 old
none_put old hashes p within = (
  λ has. inl has,
  λ has. elim has [ inl was ↦ was | inr early ↦ absurd (omega (arith, early.1)) ],
)

pub one_put : (old new newer : List ℕ) (hashes : ℕ × ℕ) (n place : ℕ) → HasPut old hashes n new →
    length new ≡ length old → place ≡ probe_of (8 * length old) hashes n →
    ((p : ℕ) → p < 8 * length new → HasBit newer p ↔ (HasBit new p ⊎ (p ≡ place))) →
    HasPut old hashes (n + 1) newer
one_put old new newer hashes n place put len is set p within =
    let here = set p (omega (arith, within, len)) in
    let was = put p within in
    let bits = 8 * length old in (
      λ has. elim (here.0 has) [
        | inl before ↦ elim (was.0 before) [
          | inl first ↦ inl first
          | inr early ↦ inr (early.0, omega (arith, early.1), early.2)
        ]
        | inr e ↦ inr (n, omega arith, e ∙ is)
      ],
      λ has. elim has [
        | inl first ↦ here.1 (inl (was.1 (inl first)))
        | inr early ↦ elim (cases_lt early.0 n) [
          | inl low ↦ here.1 (inl (was.1 (inr (early.0, low, early.2))))
          | inr high ↦
              let last : early.0 ≡ n = omega (arith, early.1, high) in
              here.1 (inr (early.2 ∙ ap (probe_of bits hashes) last ∙ sym is))
        ]
      ],
    )

-- the bits of a filter are the probes of the first n of some keys
pub record HasKeys (keys : List (List ℕ)) (n : ℕ) (filter : List ℕ) : Type 0 where
  pub len : length filter ≡ bytes_for (length keys)
  pub exact : (p : ℕ) → p < 8 * length filter →
      HasBit filter p ↔ IsProbe (8 * length filter) (take n keys) p

-- each of these zeros is zero
pub all_zero : (filter : List ℕ) → AllClonesOf (λ (x y : ℕ). y ≡ x) 0 filter →
    All (λ byte. 0 ≡ byte) filter
all_zero filter clones = All-from_recursion (λ byte. 0 ≡ byte) filter (each filter clones)
  where
    each : (l : List ℕ) → AllClonesOf (λ (x y : ℕ). y ≡ x) 0 l →
        AllByRecursion (λ byte. 0 ≡ byte) l
    each [] all = tt
    each (x ∷ l) all = (elim all.0 [ inl same ↦ sym same | inr clone ↦ sym clone ], each l all.1)

-- no bit is set at first
no_bit : (filter : List ℕ) (p : ℕ) → All (λ byte. 0 ≡ byte) filter → p < 8 * length filter →
    HasBit filter p → ⊥
no_bit filter p zeros within has =
    let zero' : 0 ≡ get_or filter (p / 8) 0 = zeros (p / 8) 0 (omega (arith, within)) in
    has (ap (λ b. bit_and b (2 ^ (p % 8))) (sym zero') ∙ and_zero_l (2 ^ (p % 8)))

pub no_keys : (keys : List (List ℕ)) (filter : List ℕ) → length filter ≡ bytes_for (length keys) →
    All (λ byte. 0 ≡ byte) filter → HasKeys keys 0 filter
no_keys keys filter len zeros = record {
  len = len;
  exact = λ p within. (
    λ has. absurd (no_bit filter p zeros within has),
    λ probe. absurd (omega (arith, probe.1.1)),
  );
}

-- one key more
module _ (keys : List (List ℕ)) (n : ℕ) (old new : List ℕ) (hashes : ℕ × ℕ)
    (within : n < length keys) (is : hashes ≡ hashes_of (get_or keys n []))
    (had : HasKeys keys n old) (same : length new ≡ length old)
    (by : (p : ℕ) → p < 8 * length old →
    HasBit new p ↔ (HasBit old p ⊎ IsProbeOf (8 * length old) hashes p)) where
  abbrev key : List ℕ
  key = get_or keys n []

  more : take (n + 1) keys ≡ take n keys ++ key ∷ []
  more = take_more keys n [] within

  put : (p : ℕ) → p < 8 * length old →
      HasBit new p ↔ (HasBit old p ⊎ IsProbeOf (8 * length old) (hashes_of key) p)
  put = subst (λ (h : ℕ × ℕ). (p : ℕ) → p < 8 * length old →
      HasBit new p ↔ (HasBit old p ⊎ IsProbeOf (8 * length old) h p)) is by

  -- a probe of a key is one of the keys
  to_more : (p : ℕ) → IsProbe (8 * length old) (take n keys) p
      ⊎ IsProbeOf (8 * length old) (hashes_of key) p →
      IsProbe (8 * length old) (take n keys ++ key ∷ []) p
  to_more p (inl probe) =
      (probe.0, Contains-append_left (take n keys) (key ∷ []) probe.0 probe.1, probe.2)
  to_more p (inr probe) = (key, Contains-push (take n keys) key, probe)

  from_more : (p : ℕ) → IsProbe (8 * length old) (take n keys ++ key ∷ []) p →
      IsProbe (8 * length old) (take n keys) p ⊎ IsProbeOf (8 * length old) (hashes_of key) p
  from_more p probe = elim (Contains-push_cases (take n keys) key probe.0 probe.1) [
    | inl among ↦ inl (probe.0, among, probe.2)
    | inr last ↦ inr (subst (λ (k : List ℕ). IsProbeOf (8 * length old) (hashes_of k) p)
        (sym last) probe.2)
  ]

  exact : (p : ℕ) → p < 8 * length old →
      HasBit new p ↔ IsProbe (8 * length old) (take n keys ++ key ∷ []) p
  exact p low = (
    λ has. to_more p (elim ((put p low).0 has) [
      | inl first ↦ inl ((had.exact p low).0 first)
      | inr probe ↦ inr probe
    ]),
    λ probe. (put p low).1 (elim (from_more p probe) [
      | inl among ↦ inl ((had.exact p low).1 among)
      | inr last ↦ inr last
    ]),
  )

  pub one_key : HasKeys keys (n + 1) new
  one_key = record {
    len = same ∙ had.len;
    exact = λ p low. subst (λ (ks : List (List ℕ)). HasBit new p ↔ IsProbe (8 * length new) ks p)
        (sym more) (subst (λ (l : ℕ). HasBit new p ↔ IsProbe (8 * l) (take n keys ++ key ∷ []) p)
        (sym same) (exact p (omega (arith, low, same))));
  }

pub all_keys : (keys : List (List ℕ)) (n : ℕ) (filter : List ℕ) → length keys ≤ n →
    HasKeys keys n filter → IsFilter keys filter
all_keys keys n filter all had = record {
  len = had.len;
  exact = λ p low. subst
      (λ (ks : List (List ℕ)). HasBit filter p ↔ IsProbe (8 * length filter) ks p)
      (take_all n keys all) (had.exact p low);
}
