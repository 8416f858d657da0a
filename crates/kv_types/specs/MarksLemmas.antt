-- What a list holds of a client's marks.
use Rattle.std.proofs.Common.{◌≡◌, ℕ, zero, suc, ◌+◌, ◌≤◌, List, [], ◌∷◌, ◌==◌}
use Rattle.std.proofs.Common.{Option, Some, None, refl, sym, ◌∙◌, ap, subst, arith}
use Rattle.std.proofs.Common.{eqb-true, eq-eqb}
use Rattle.std.specs.Option.{option_or}
use Rattle.std.proofs.lemmas.Bool.{cond_both, false≢true}
use Rattle.kv_types.specs.declared.mark.Mark.{Mark}
use Rattle.kv_types.specs.Lists.{place}
use Rattle.kv_types.specs.Marks.{HasNoMark, HeldIsLast, IsLastMark, Marked}
use Rattle.kv_types.specs.Marks.{last_mark, mark_held, own_mark}

-- what a batch of the client has at number k
own_is : (o : Option Mark) (c k : ℕ) (h : ℕ × ℕ) → own_mark o c k ≡ Some h
    → (h.1 ≡ k) × (o ≡ Some (record { client = c; request = h.0 }))
own_is None c k h e = absurd (cc)
own_is (Some m) c k h e =
    cond_both (m.client == c) (Some (m.request, k)) None
    (λ o. o ≡ Some h → (h.1 ≡ k) × (Some m ≡ Some (record { client = c; request = h.0 })))
    (λ same e.
    let is : (m.request, k) ≡ h = cc e in
    let client : m.client ≡ c = eqb-true m.client c same in (
      ap (λ (p : ℕ × ℕ). p.1) (sym is),
      λ j. Some (record { client = client j; request = (is j).0 }),
    ))
    (λ other e. absurd (cc)) e

-- a batch of the client has something there
own_some : (m : Mark) (c k : ℕ) → m.client ≡ c → own_mark (Some m) c k ≡ None → ⊥
own_some m c k is =
    cond_both (m.client == c) (Some (m.request, k)) None (λ o. o ≡ None → ⊥)
    (λ same e. absurd (cc)) (λ other e. false≢true (sym other ∙ eq-eqb m.client c is))

-- the request of a mark, if there is one
abbrev request_of : ℕ → Option Mark → ℕ
request_of d None = d
request_of d (Some m) = m.request

module _ {A : Type 0} where
  -- the mark that is held is that of a batch at its number
  last_is : (k : ℕ) (l : List (Marked A)) (c : ℕ) (h : ℕ × ℕ) → last_mark k l c ≡ Some h
      → (i : ℕ) × (a : Marked A) × ((place l (suc i) ≡ Some a) × ((h.1 ≡ k + i)
      × (a.mark ≡ Some (record { client = c; request = h.0 }))))
  last_is k [] c h e = absurd (cc)
  last_is k (b ∷ l) c h e = go (last_mark (suc k) l c) refl (last_is (suc k) l c h) e
    where
      Is : ℕ → List (Marked A) → Type 0
      Is k l = (i : ℕ) × (a : Marked A) × ((place l (suc i) ≡ Some a) × ((h.1 ≡ k + i)
          × (a.mark ≡ Some (record { client = c; request = h.0 }))))

      go : (o : Option (ℕ × ℕ)) → last_mark (suc k) l c ≡ o
          → (last_mark (suc k) l c ≡ Some h → Is (suc k) l)
          → option_or o (own_mark b.mark c k) ≡ Some h → Is k (b ∷ l)
      go None e rest is =
          let own = own_is b.mark c k h is in
          (0, b, (refl, (omega (arith, own.0), own.1)))
      go (Some g) e rest is =
          let later = rest (e ∙ is) in
          (suc later.0, later.1, (later.2.0, (omega (arith, later.2.1.0), later.2.1.1)))

  -- where none is held, no batch bears a mark of the client
  pub last_none : (k : ℕ) (l : List (Marked A)) (c : ℕ) → last_mark k l c ≡ None
      → (i : ℕ) (a : Marked A) (m : Mark) → place l i ≡ Some a → a.mark ≡ Some m → m.client ≡ c → ⊥
  last_none k [] c e i a m at bears is = absurd (cc)
  last_none k (b ∷ l) c e i a m at bears is =
      go (last_mark (suc k) l c) refl (λ e i at. last_none (suc k) l c e i a m at bears is) e i at
    where
      go : (o : Option (ℕ × ℕ)) → last_mark (suc k) l c ≡ o
          → (last_mark (suc k) l c ≡ None → (i : ℕ) → place l i ≡ Some a → ⊥)
          → option_or o (own_mark b.mark c k) ≡ None → (i : ℕ) → place (b ∷ l) i ≡ Some a → ⊥
      go None e rest none zero at = absurd (cc)
      go None e rest none (suc zero) at =
          let same : b ≡ a = cc at in
          own_some m c k is
          (subst (λ o. own_mark o c k ≡ None) (ap (λ (x : Marked A). x.mark) same ∙ bears) none)
      go None e rest none (suc (suc i)) at = rest e (suc i) at
      go (Some g) e rest none i at = absurd (cc)

  -- no later batch bears a mark of the client than the one that is held
  pub last_bounds : (k : ℕ) (l : List (Marked A)) (c : ℕ) (h : ℕ × ℕ) → last_mark k l c ≡ Some h
      → (i : ℕ) (a : Marked A) (m : Mark) → place l (suc i) ≡ Some a → a.mark ≡ Some m
      → m.client ≡ c → k + i ≤ h.1
  last_bounds k [] c h e i a m at bears is = absurd (cc)
  last_bounds k (b ∷ l) c h e i a m at bears is =
      go (last_mark (suc k) l c) refl (λ e i at. last_bounds (suc k) l c h e i a m at bears is) e i
      at
    where
      go : (o : Option (ℕ × ℕ)) → last_mark (suc k) l c ≡ o
          → (last_mark (suc k) l c ≡ Some h → (i : ℕ) → place l (suc i) ≡ Some a → suc k + i ≤ h.1)
          → option_or o (own_mark b.mark c k) ≡ Some h → (i : ℕ) → place (b ∷ l) (suc i) ≡ Some a
          → k + i ≤ h.1
      go None e rest own zero at = omega (arith, (own_is b.mark c k h own).0)
      go None e rest own (suc i) at = absurd (last_none (suc k) l c e (suc i) a m at bears is)
      go (Some g) e rest same zero at =
          omega (arith, (last_is (suc k) l c h (e ∙ same)).2.1.0)
      go (Some g) e rest same (suc i) at = omega (arith, rest (e ∙ same) i at)

  -- the batch of the mark that is held
  pub held_is : (l : List (Marked A)) (c : ℕ) (h : ℕ × ℕ) → mark_held l c ≡ Some h
      → (a : Marked A) × ((place l h.1 ≡ Some a)
      × (a.mark ≡ Some (record { client = c; request = h.0 })))
  held_is l c h e =
      let last = last_is 1 l c h e in
      let number : suc last.0 ≡ h.1 = omega (arith, last.2.1.0) in
      (last.1, (subst (λ k. place l k ≡ Some last.1) number last.2.0, last.2.1.1))

  -- .. is the last one of the client
  held_last : (l : List (Marked A)) (c : ℕ) (h : ℕ × ℕ) → mark_held l c ≡ Some h
      → IsLastMark l c h.0 h.1
  held_last l c h e =
      let held = held_is l c h e in
      record {
        batch = held.0;
        there = held.1.0;
        bears = held.1.1;
        last = λ k other mark at bears is. bounds k other mark at bears is;
      }
    where
      bounds : (k : ℕ) (other : Marked A) (mark : Mark) → place l k ≡ Some other
          → other.mark ≡ Some mark → mark.client ≡ c → k ≤ h.1
      bounds zero other mark at bears is = omega arith
      bounds (suc i) other mark at bears is =
          omega (arith, last_bounds 1 l c h e i other mark at bears is)

  -- .. and each last one is held
  last_held : (l : List (Marked A)) (c request number : ℕ) → IsLastMark l c request number
      → mark_held l c ≡ Some (request, number)
  last_held l c request number is = go (mark_held l c) refl
    where
      go : (o : Option (ℕ × ℕ)) → mark_held l c ≡ o → o ≡ Some (request, number)
      go None e =
          let bears : Mark = record { client = c; request = request } in
          absurd (last_none 1 l c e number is.batch bears is.there is.bears refl)
      go (Some h) e =
          let found : IsLastMark l c h.0 h.1 = held_last l c h e in
          let mine : Mark = record { client = c; request = request } in
          let its : Mark = record { client = c; request = h.0 } in
          let low : h.1 ≤ number = is.last h.1 found.batch its found.there found.bears refl in
          let high : number ≤ h.1 = found.last number is.batch mine is.there is.bears refl in
          let here : h.1 ≡ number = omega (arith, low, high) in
          let it : Some found.batch ≡ Some is.batch =
          sym found.there ∙ ap (place l) here ∙ is.there in
          let one : found.batch ≡ is.batch = cc it in
          let marks : Some its ≡ Some mine =
          sym found.bears ∙ ap (λ (x : Marked A). x.mark) one ∙ is.bears in
          let asks : h.0 ≡ request = ap (request_of 0) marks in
          λ j. Some (asks j, here j)

  -- what a list holds is the last mark of the client
  pub held_is_last : (l : List (Marked A)) (c : ℕ) → HeldIsLast l c
  held_is_last l c = record {
    held = λ request number. (held_last l c (request, number), last_held l c request number);
    none = (
      λ e k other mark at bears is. last_none 1 l c e k other mark at bears is,
      λ empty. none_held empty (mark_held l c) refl,
    );
  }
    where
      none_held : HasNoMark l c → (o : Option (ℕ × ℕ)) → mark_held l c ≡ o → o ≡ None
      none_held empty None e = refl
      none_held empty (Some h) e =
          let held = held_is l c h e in
          let its : Mark = record { client = c; request = h.0 } in
          absurd (empty h.1 held.0 its held.1.0 held.1.1 refl)
