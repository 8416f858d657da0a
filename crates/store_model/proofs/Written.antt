-- Tables that were written in order of keys have ranges of their own.
use Rattle.std.proofs.Common.{◌≡◌, ◌⊎◌, inl, inr, ℕ, zero, suc, ◌<◌, List, length, get_or}
use Rattle.std.proofs.Common.{Contains, slice_get, Some, sym, ◌∙◌, ap, subst, arith}
use Rattle.std.proofs.lemmas.Bool.{cases_lt}
use Rattle.std.proofs.lemmas.List.Elements.{All-contains}
use Rattle.std.proofs.lemmas.Option.{get_or_from_slice_get, slice_get_within}
use Rattle.std.proofs.lemmas.List.{get_or_default}
use Rattle.kv_types.specs.{Entry}
use Rattle.store_model.specs.Keys.{AreDisjointRanges, KeyPrecedes}
use Rattle.store_model.specs.KeysLemmas.{key_never}
use Rattle.store_model.specs.Tables.{FitsRange, LevelTable}
use Rattle.store_model.specs.Outputs.{AreInKeyOrder, HaveOwnRanges, IsInKeyOrder}

-- an element at a place is contained
contains_at : {A : Type 0} (xs : List A) (i : ℕ) (x : A) → slice_get xs i ≡ Some x → Contains xs x
contains_at xs i x is = (i, slice_get_within xs i x is, get_or_from_slice_get xs i x x is)

module _ (t : LevelTable) (ok : IsInKeyOrder t) where
  first_there : Contains t.entries ok.first
  first_there = contains_at t.entries 0 ok.first ok.begins

  last_there : Contains t.entries ok.last
  last_there = contains_at t.entries ok.place ok.last ok.ends

  -- no key is before the first
  from_first : (a : Entry) → Contains t.entries a → KeyPrecedes a.key ok.first.key → ⊥
  from_first a (zero, lt, is) less =
      let same : ok.first ≡ a = sym (get_or_from_slice_get t.entries 0 ok.first a ok.begins) ∙ is in
      key_never a.key (subst (λ (e : Entry). KeyPrecedes a.key e.key) same less)
  from_first a (suc k, lt, is) less =
      let first = get_or_from_slice_get t.entries 0 ok.first a ok.begins in
      let pair = ok.rise 0 (suc k) a (omega arith) lt in
      pair (subst (λ (e : Entry). KeyPrecedes e.key (get_or t.entries 0 a).key) (sym is)
      (subst (λ (e : Entry). KeyPrecedes a.key e.key) (sym first) less))

  -- and none after the last
  to_last : (a : Entry) → Contains t.entries a → KeyPrecedes ok.last.key a.key → ⊥
  to_last a (k, lt, is) less =
      let last = get_or_from_slice_get t.entries ok.place ok.last a ok.ends in
      let count = ok.count in
      elim (cases_lt k ok.place) [
        | inl before ↦
            ok.rise k ok.place a before (omega (arith, count))
            (subst (λ (e : Entry). KeyPrecedes (get_or t.entries ok.place a).key e.key) (sym is)
            (subst (λ (e : Entry). KeyPrecedes e.key a.key) (sym last) less))
        | inr ge ↦
            let at : k ≡ ok.place = omega (arith, ge, lt, count) in
            let same : ok.last ≡ a =
            sym last ∙ ap (λ i. get_or t.entries i a) (sym at) ∙ is in
            key_never a.key (subst (λ (e : Entry). KeyPrecedes e.key a.key) same less)
      ]

  fits : FitsRange t
  fits = record {
    proper = λ less. from_first ok.last last_there
        (subst (λ k. KeyPrecedes k ok.first.key) (sym ok.greatest)
        (subst (λ k. KeyPrecedes t.range.greatest k) (sym ok.least) less));
    within = λ a h. (
      λ less. from_first a h (subst (λ k. KeyPrecedes a.key k) (sym ok.least) less),
      λ less. to_last a h (subst (λ k. KeyPrecedes k a.key) (sym ok.greatest) less),
    );
  }

module _ (tables : List LevelTable) (ok : AreInKeyOrder tables) where
  -- an earlier table ends before a later one begins
  in_turn : (t u : LevelTable) (i j : ℕ) → i < j → j < length tables → get_or tables i t ≡ t
      → get_or tables j u ≡ u → KeyPrecedes t.range.greatest u.range.least
  in_turn t u i j lt short is_t is_u =
      let near : i < length tables = omega (arith, lt, short) in
      let at : get_or tables i u ≡ t = get_or_default tables i u t near ∙ is_t in
      subst (λ (z : LevelTable). KeyPrecedes z.range.greatest u.range.least) at
      (subst (λ (z : LevelTable). KeyPrecedes (get_or tables i u).range.greatest z.range.least) is_u
      (ok.rise i j u lt short))

  disjoint : (t u : LevelTable) → Contains tables t → Contains tables u
      → (t ≡ u) ⊎ AreDisjointRanges t.range u.range
  disjoint t u (i, lt, is_t) (j, short, is_u) = elim (cases_lt i j) [
    | inl before ↦ inr (inl (in_turn t u i j before short is_t is_u))
    | inr ge ↦ elim (cases_lt j i) [
      | inl after ↦ inr (inr (in_turn u t j i after lt is_u is_t))
      | inr le ↦
          let at : i ≡ j = omega (arith, ge, le) in
          inl (sym is_t ∙ get_or_default tables i t u lt ∙ ap (λ k. get_or tables k u) at ∙ is_u)
    ]
  ]

  pub own_ranges : HaveOwnRanges tables
  own_ranges = record {
    ranges = λ t in_t. fits t (All-contains IsInKeyOrder tables t ok.each in_t);
    least = λ t in_t. let it = All-contains IsInKeyOrder tables t ok.each in_t in
        (it.first, first_there t it, it.least);
    greatest = λ t in_t. let it = All-contains IsInKeyOrder tables t ok.each in_t in
        (it.last, last_there t it, it.greatest);
    disjoint = disjoint;
  }
