-- Steps of a search forward for the entry that is shown next.
use Rattle.std.proofs.Common.{◌≡◌, ◌<◌, ◌≤◌, ℕ, inl, inr, refl, sym, ◌∙◌, subst, arith, List, Bool}
use Rattle.std.proofs.Common.{true, false, Option, IsSome}
use Rattle.std.specs.declared.cmp.Ordering.TheVariants.{Equal}
use Rattle.merge_iter.specs.declared.direction.Direction.{Direction}
use Rattle.merge_iter.specs.declared.direction.Direction.TheVariants.{Forward}
use Rattle.byte_fields.specs.{StoredKey}
use Rattle.kv_types.specs.{Entry, IsShown}
use Rattle.merge_iter.specs.Order.{entry_cmp, spot, EntryPrecedes, IsApart}
use Rattle.merge_iter.specs.Positions.{Position, On, Off, Broken, WalkStart, AtEnd, At, After}
use Rattle.merge_iter.specs.Positions.{WalkMeets, IsFirst}
use Rattle.merge_iter.specs.EntryOrder.{cases, not_both, upward}
use Rattle.merge_iter.specs.EntryParts.{equal_parts, numbers_fall, between}
use Rattle.merge_iter.specs.ShownEntries.{IsBefore, IsHidden, IsAhead, IsJudged}
use Rattle.merge_iter.specs.AlikeViews.{shown_by}

module _ (at : ℕ) (S : Entry → Type 0) where
  -- where nothing was passed yet
  pub before_of : (way : Direction) (start : WalkStart) (s : Position) → IsFirst way
      (λ p. S p × WalkMeets way start p) s → IsBefore way at S start s
  before_of way start (On r) f = (f.0.0, f.0.1, λ p sh m c. f.1 p (sh.newest.seen.0, m) c)
  before_of way start Off f = λ p sh m. f p (sh.newest.seen.0, m)
  before_of way start Broken f = f

  -- past an entry that is not shown
  pub before_step : (way : Direction) (start : WalkStart) (r : Entry) (s : Position) → IsBefore way
      at S start (On r)
      → ((p : Entry) → IsShown at S p → WalkMeets way start p → entry_cmp p r ≡ Equal → ⊥)
      → IsFirst way (λ p. S p × EntryPrecedes way r p) s → IsBefore way at S start s
  before_step way start r (On q) b miss f = (
    f.0.0,
    upward way start r q b.1 (not_both way r q f.0.1),
    λ p sh m c. elim (cases way p r) [
      | inl k ↦ b.2 p sh m k
      | inr k ↦ elim k [ inl e ↦ miss p sh m e | inr l ↦ f.1 p (sh.newest.seen.0, l) c ]
    ],
  )
  before_step way start r Off b miss f = λ p sh m. elim (cases way p r) [
    | inl k ↦ b.2 p sh m k
    | inr k ↦ elim k [ inl e ↦ miss p sh m e | inr l ↦ f p (sh.newest.seen.0, l) ]
  ]
  before_step way start r Broken b miss f = f

  ahead_step : (start : WalkStart) (hid hid' : StoredKey → Type 0) (r : Entry) (s : Position)
      → IsAhead at S start hid (On r)
      → ((p : Entry) → IsShown at S p → WalkMeets Forward start p → entry_cmp p r ≡ Equal → ⊥)
      → (hid r.key → hid' r.key) → (r.number ≤ at → hid' r.key)
      → ((key : StoredKey) (p : Entry) → hid' key → IsShown at S p → WalkMeets Forward start p
      → p.key ≡ key → ⊥)
      → IsFirst Forward (λ p. S p × EntryPrecedes Forward r p) s → IsAhead at S start hid' s
  ahead_step start hid hid' r s a miss grow hides_it none f = record {
    before = before_step Forward start r s a.before miss f;
    passed = λ entry q on seen c same.
        let g : IsFirst Forward (λ p. S p × EntryPrecedes Forward r p) (On entry) =
        subst (λ v. IsFirst Forward (λ p. S p × EntryPrecedes Forward r p) v) on f in
        elim (cases Forward q r) [
          | inl k ↦ let kr = between q r entry k g.0.1 same in
              subst hid' kr (grow (a.passed r q refl seen k (same ∙ sym kr)))
          | inr k ↦ elim k [
            | inl e ↦ let z = equal_parts q r e in
                subst hid' (sym z.0 ∙ same) (hides_it (subst (λ n. n ≤ at) z.1 seen.1))
            | inr l ↦ absurd (g.1 q (seen.0, l) c)
          ]
        ];
    none = none;
  }

  -- an entry that is passed leaves the search ahead of what is shown
  pub judged_step : IsApart S → (start : WalkStart) (hides hides' : Bool)
      (hidden hidden' : StoredKey)
      (r : Entry) (s : Position) → IsAhead at S start (IsHidden hides hidden) (On r)
      → IsJudged at hides hidden r hides' hidden' false → IsFirst Forward
      (λ p. S p × EntryPrecedes Forward r p) s → IsAhead at S start (IsHidden hides' hidden') s
  judged_step apart start hides hides' hidden hidden' r s a (inl j) f =
      let miss : (p : Entry) → IsShown at S p → WalkMeets Forward start p → entry_cmp p r ≡ Equal
      → ⊥ = λ p sh m e.
      let z = equal_parts p r e in
      elim j.0 [
        | inl big ↦ let y = sh.newest.seen.1 in let x = z.1 in omega (arith, big, y, x)
        | inr h ↦ a.none r.key p h sh m z.0
      ] in
      let hides_it : r.number ≤ at → IsHidden hides hidden r.key =
      λ le. elim j.0 [ inl big ↦ absurd (omega (arith, big, le)) | inr h ↦ h ] in
      let base = ahead_step start (IsHidden hides hidden) (IsHidden hides hidden) r s a miss
      (λ h. h) hides_it a.none f in
      subst (λ b. IsAhead at S start (IsHidden b hidden') s) (sym j.1)
      (subst (λ k. IsAhead at S start (IsHidden hides k) s) (sym j.2) base)
  judged_step apart start hides hides' hidden hidden' r s a (inr j) f =
      let miss : (p : Entry) → IsShown at S p → WalkMeets Forward start p → entry_cmp p r ≡ Equal
      → ⊥ = λ p sh m e.
      let same : p ≡ r = apart p r sh.newest.seen.0 a.before.0 e in
      let y : IsSome r.value = subst (λ (x : Entry). IsSome x.value) same sh.put in
      let z = subst (λ (o : Option (List ℕ)). IsSome o) j.2 y in let v : false ≡ true = z in cc in
      ahead_step start (IsHidden hides hidden) (IsHidden hides' hidden') r s a miss
      (λ h. (j.3, j.4)) (λ le. (j.3, j.4))
      (λ key p h sh m e.
      let same : p.key ≡ r.key = e ∙ (sym h.1 ∙ j.4) in
      elim (cases Forward p r) [
        | inl k ↦ a.before.2 p sh m k
        | inr k ↦ elim k [
          | inl eq ↦ miss p sh m eq
          | inr l ↦ let x = numbers_fall r p l (sym same) in let y =
              sh.newest.newest r (a.before.0, j.0) (sym same) in omega (arith, x, y)
        ]
      ]) f

  -- an entry that is judged as shown is the first that is shown
  pub shown_here : (start : WalkStart) (hides hides' : Bool) (hidden hidden' : StoredKey)
      (r : Entry)
      → IsAhead at S start (IsHidden hides hidden) (On r)
      → IsJudged at hides hidden r hides' hidden' true → IsFirst Forward
      (λ p. IsShown at S p × WalkMeets Forward start p) (On r) × IsShown at S r
  shown_here start hides hides' hidden hidden' r a j =
      let shown : IsShown at S r = shown_by at S r (a.before.0, j.0) j.2
      (λ q seen same. elim (cases Forward q r) [
        | inl k ↦ absurd (j.1 (a.passed r q refl seen k same))
        | inr k ↦ elim k [
          | inl e ↦ let z = (equal_parts q r e).1 in omega (arith, z)
          | inr l ↦ let z = numbers_fall r q l (sym same) in omega (arith, z)
        ]
      ]) in
      (((shown, a.before.1), λ other h c. a.before.2 other h.0 h.1 c), shown)

  -- where no entry is left, none is shown
  pub shown_none : (start : WalkStart) (hid : StoredKey → Type 0) → IsAhead at S start hid Off
      → IsFirst Forward (λ p. IsShown at S p × WalkMeets Forward start p) Off
  shown_none start hid a = λ other h. a.before other h.0 h.1

  -- from the first entry on
  pub ahead_first : (hidden : StoredKey) (s : Position) → IsFirst Forward
      (λ p. S p × WalkMeets Forward AtEnd p) s → IsAhead at S AtEnd (IsHidden false hidden) s
  ahead_first hidden s f = record {
    before = before_of Forward AtEnd s f;
    passed = λ entry q on seen c same.
        let g : IsFirst Forward (λ p. S p × WalkMeets Forward AtEnd p) (On entry) =
        subst (λ v. IsFirst Forward (λ p. S p × WalkMeets Forward AtEnd p) v) on f in
        absurd (g.1 q (seen.0, tt) c);
    none = λ key p h sh m e. let z : false ≡ true = h.0 in cc;
  }

  -- from a key on
  pub ahead_seek : (hidden key : StoredKey) (s : Position) → IsFirst Forward
      (λ p. S p × WalkMeets Forward (At (spot key at)) p) s → IsAhead at S (At (spot key at))
      (IsHidden false hidden) s
  ahead_seek hidden key s f = record {
    before = before_of Forward (At (spot key at)) s f;
    passed = λ entry q on seen c same.
        let g : IsFirst Forward (λ p. S p × WalkMeets Forward (At (spot key at)) p) (On entry) =
        subst (λ v. IsFirst Forward (λ p. S p × WalkMeets Forward (At (spot key at)) p) v) on f
        in
        let fresh : (q.key ≡ key → ⊥) → EntryPrecedes Forward q (spot key at) → ⊥ =
        λ other k. elim (cases Forward entry (spot key at)) [
          | inl l ↦ g.0.1 l
          | inr m ↦ elim m [
            | inl e ↦ other (same ∙ (equal_parts entry (spot key at) e).0)
            | inr l ↦ other (same ∙ sym (between q (spot key at) entry k l same))
          ]
        ] in
        let late : EntryPrecedes Forward q (spot key at) → ⊥ =
        λ k. fresh (λ e. let z = numbers_fall q (spot key at) k e in let y = seen.1 in
        let x : at < q.number = z in omega (arith, x, y)) k in
        absurd (g.1 q (seen.0, late) c);
    none = λ k p h sh m e. let z : false ≡ true = h.0 in cc;
  }

  -- behind an entry that is shown
  pub ahead_after : (w : Entry) (key : StoredKey) (s : Position) → IsShown at S w → key ≡ w.key
      → IsFirst Forward (λ p. S p × EntryPrecedes Forward w p) s → IsAhead at S (After w)
      (IsHidden true key) s
  ahead_after w key s shown is f = record {
    before = before_of Forward (After w) s f;
    passed = λ entry q on seen c same.
        let g : IsFirst Forward (λ p. S p × EntryPrecedes Forward w p) (On entry) =
        subst (λ v. IsFirst Forward (λ p. S p × EntryPrecedes Forward w p) v) on f in
        elim (cases Forward q w) [
          | inl k ↦ (refl, is ∙ between q w entry k g.0.1 same)
          | inr k ↦ elim k [
            | inl e ↦ (refl, is ∙ (sym (equal_parts q w e).0 ∙ same))
            | inr l ↦ absurd (g.1 q (seen.0, l) c)
          ]
        ];
    none = λ k p h sh m e.
        let same : w.key ≡ p.key = sym is ∙ (h.1 ∙ sym e) in
        let x = numbers_fall w p m same in let y = sh.newest.newest w shown.newest.seen same in
        omega (arith, x, y);
  }
