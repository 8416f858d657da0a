-- Steps of a search back for the entry that is shown before.
use Rattle.std.proofs.Common.{◌≡◌, ◌<◌, ◌≤◌, ℕ, inl, inr, refl, sym, ◌∙◌, subst, arith, List, Bool}
use Rattle.std.proofs.Common.{true, false, IsTrue, Option, IsSome}
use Rattle.merge_iter.specs.declared.direction.Direction.{Direction}
use Rattle.merge_iter.specs.declared.direction.Direction.TheVariants.{Forward, Backward}
use Rattle.kv_types.specs.{Entry, IsShown}
use Rattle.merge_iter.specs.Order.{EntryPrecedes, IsApart}
use Rattle.merge_iter.specs.Positions.{Position, On, Off, Broken, WalkStart, After, WalkMeets}
use Rattle.merge_iter.specs.Positions.{IsFirst}
use Rattle.merge_iter.specs.EntryOrder.{cases, not_both, chain, equal_apart, equal_back, upward}
use Rattle.merge_iter.specs.EntryParts.{equal_parts, numbers_fall, between}
use Rattle.merge_iter.specs.ShownEntries.{IsBefore, IsPassed, IsCandidate, IsJudgedBack, IsOnTheWay}
use Rattle.merge_iter.specs.AlikeViews.{shown_by}
use Rattle.merge_iter.proofs.ForwardSearches.{before_step}

module _ (at : ℕ) (S : Entry → Type 0) where
  not_beyond : (way : Direction) (r q : Entry) (s : Position) → IsFirst way
      (λ p. S p × EntryPrecedes way r p) s → S q → EntryPrecedes way r q → way ≡ Backward
      → IsPassed q s → ⊥
  not_beyond Backward r q (On t) f h l e p = f.1 q (h, l) p
  not_beyond Backward r q Off f h l e p = f q (h, l)
  not_beyond Backward r q Broken f h l e p = p
  not_beyond Forward r q s f h l e p = let z : Forward ≡ Backward = e in cc

  among_of : (r : Entry) (s : Position) → IsFirst Backward (λ p. S p × EntryPrecedes Backward r p) s
      → (entry : Entry) → s ≡ On entry → S entry
  among_of r s f entry on = let g : IsFirst Backward (λ p. S p × EntryPrecedes Backward r p)
      (On entry) = subst (λ v. IsFirst Backward (λ p. S p × EntryPrecedes Backward r p) v) on f in
      g.0.0

  passed_by : (r w : Entry) (s : Position) → IsFirst Backward (λ p. S p × EntryPrecedes Backward r
      p) s → EntryPrecedes Backward w r → IsPassed w s
  passed_by r w (On q) f l = chain Backward w r q l f.0.1
  passed_by r w Off f h = tt
  passed_by r w Broken f h = f

  -- a newer entry of its key takes the candidate's place
  drop : (start : WalkStart) (w r : Entry) → IsCandidate at S start w (On r) → r.number ≤ at
      → w.key ≡ r.key → IsBefore Backward at S start (On r)
  drop start w r c le same = (
    c.among r refl,
    upward Backward start w r c.from (not_both Backward w r c.passed),
    λ p sh m k.
        let z = equal_parts p w (c.alone p sh m k) in
        let x = numbers_fall r w c.passed (sym same) in
        let y = sh.newest.newest r (c.among r refl, le) (sym (z.0 ∙ same)) in
        let v = z.1 in
        omega (arith, x, y, v),
  )

  take : (start : WalkStart) (r : Entry) (s : Position) → IsBefore Backward at S start (On r)
      → r.number ≤ at → IsSome r.value → IsFirst Backward (λ p. S p × EntryPrecedes Backward r p) s
      → IsCandidate at S start r s
  take start r s b le put f = record {
    seen = (b.0, le);
    put = put;
    from = b.1;
    passed = itself_passed s f;
    among = among_of r s f;
    newest = λ q seen same p. elim (cases Backward q r) [
      | inl k ↦ let z = numbers_fall r q k (sym same) in omega (arith, z)
      | inr k ↦ elim k [
        | inl e ↦ let z = (equal_parts q r e).1 in omega (arith, z)
        | inr l ↦ absurd
            (not_beyond Backward r q s f seen.0 l refl p)
      ]
    ];
    alone = λ q sh m p. elim (cases Backward q r) [
      | inl k ↦ absurd (b.2 q sh m k)
      | inr k ↦ elim k [
        | inl e ↦ e
        | inr l ↦ absurd (not_beyond Backward r q s f sh.newest.seen.0 l
            refl p)
      ]
    ];
  }
    where
      itself_passed : (s : Position) → IsFirst Backward (λ p. S p × EntryPrecedes Backward r p) s
          → IsPassed r s
      itself_passed (On q) f = f.0.1
      itself_passed Off f = tt
      itself_passed Broken f = f

  skip : (start : WalkStart) (w r : Entry) (s : Position) → IsCandidate at S start w (On r)
      → at < r.number → IsFirst Backward (λ p. S p × EntryPrecedes Backward r p) s → IsCandidate at
      S start w s
  skip start w r s c big f = record {
    seen = c.seen;
    put = c.put;
    from = c.from;
    passed = passed_by r w s f c.passed;
    among = among_of r s f;
    newest = λ q seen same p. elim (cases Backward q r) [
      | inl k ↦ c.newest q seen same k
      | inr k ↦ elim k [
        | inl e ↦ absurd (let z = (equal_parts q r e).1 in let y = seen.1 in
            omega (arith, z, y, big))
        | inr l ↦ absurd (not_beyond Backward r q s f seen.0 l refl p)
      ]
    ];
    alone = λ q sh m p. elim (cases Backward q r) [
      | inl k ↦ c.alone q sh m k
      | inr k ↦ elim k [
        | inl e ↦ absurd (let z = (equal_parts q r e).1 in let y =
            sh.newest.seen.1 in omega (arith, z, y, big))
        | inr l ↦ absurd
            (not_beyond Backward r q s f sh.newest.seen.0 l refl p)
      ]
    ];
  }

  way_on : (start : WalkStart) (found : Bool) (w r : Entry) → IsOnTheWay found at S start w (On r)
      → r.number ≤ at → (IsTrue found → w.key ≡ r.key) → IsBefore Backward at S start (On r)
  way_on start true w r c le same = drop start w r c le (same refl)
  way_on start false w r c le same = c

  skips : (start : WalkStart) (found : Bool) (w r : Entry) (s : Position) → IsOnTheWay found at S
      start w (On r) → at < r.number → IsFirst Backward (λ p. S p × EntryPrecedes Backward r p) s
      → IsOnTheWay found at S start w s
  skips start true w r s c big f = skip start w r s c big f
  skips start false w r s c big f = before_step at S Backward start r s c (λ p sh m e. let z =
      (equal_parts p r e).1 in let y = sh.newest.seen.1 in omega (arith, z, y, big)) f

  -- an entry that is passed on the way back leaves the search on its way
  pub judged_back : IsApart S → (start : WalkStart) (found found' : Bool) (w w' r : Entry)
      (s : Position) → IsOnTheWay found at S start w (On r)
      → IsJudgedBack at found w r found' w' false → IsFirst Backward
      (λ p. S p × EntryPrecedes Backward r p) s → IsOnTheWay found' at S start w' s
  judged_back apart start found found' w w' r s c (inl j) f =
      subst (λ b. IsOnTheWay b at S start w' s) (sym j.1)
      (subst (λ x. IsOnTheWay found at S start x s) (sym j.2) (skips start found w r s c j.0 f))
  judged_back apart start found found' w w' r s c (inr j) f =
      let b = way_on start found w r c j.0 j.1 in
      elim j.2 [
        | inl gone ↦
            subst (λ t. IsOnTheWay t at S start w' s) (sym gone.1)
            (before_step at S Backward start r s b (λ p sh m e.
            let same : p ≡ r = apart p r sh.newest.seen.0 b.0 e in
            let y : IsSome r.value = subst (λ (x : Entry). IsSome x.value) same sh.put in
            let z = subst (λ (o : Option (List ℕ)). IsSome o) gone.0 y in let v : false ≡ true =
            z in cc) f)
        | inr had ↦
            subst (λ t. IsOnTheWay t at S start w' s) (sym had.1)
            (subst (λ x. IsCandidate at S start x s) (sym had.2) (take start r s b j.0 had.0 f))
      ]

  settle : (start : WalkStart) (w : Entry) (s : Position) → IsCandidate at S start w s → IsShown at
      S w
      → IsFirst Backward (λ p. IsShown at S p × WalkMeets Backward start p) (On w)
      × (IsShown at S w × IsBefore Backward at S (After w) s)
  settle start w s c shown = (
    (
      (shown, c.from),
      λ other h k. equal_apart Backward other w
          (c.alone other h.0 h.1 (earlier other s k c.passed)) k,
    ),
    (shown, behind s c),
  )
    where
      earlier : (other : Entry) (s : Position) → EntryPrecedes Backward other w → IsPassed w s
          → IsPassed other s
      earlier other (On r) k p = chain Backward other w r k p
      earlier other Off k p = tt
      earlier other Broken k p = p

      behind : (s : Position) → IsCandidate at S start w s → IsBefore Backward at S (After w) s
      behind (On r) c = (
        c.among r refl,
        c.passed,
        λ p sh m k.
            let from = upward Backward start w p c.from (not_both Backward w p m) in
            equal_apart Backward w p (equal_back p w (c.alone p sh from k)) m,
      )
      behind Off c = λ p sh m. equal_apart Backward w p
          (equal_back p w (c.alone p sh (upward Backward start w p c.from (not_both Backward w p m))
          tt)) m
      behind Broken c = c.passed

  -- the walk has come to another key
  pub settled_left : (start : WalkStart) (found found' : Bool) (w w' r : Entry) → IsOnTheWay found
      at S start w (On r) → IsJudgedBack at found w r found' w' true
      → IsFirst Backward (λ p. IsShown at S p × WalkMeets Backward start p) (On w')
      × (IsShown at S w' × IsBefore Backward at S (After w') (On r))
  settled_left start false found' w w' r c j = absurd (let z : false ≡ true = j.1 in cc)
  settled_left start true found' w w' r c j =
      let free : w.key ≡ r.key → ⊥ = j.2 in
      let shown : IsShown at S w = shown_by at S w c.seen c.put
      (λ q seen same. elim (cases Backward q r) [
        | inl k ↦ c.newest q seen same k
        | inr k ↦ elim k [
          | inl e ↦ absurd (free (sym same ∙ (equal_parts q r e).0))
          | inr l ↦ absurd (free (sym (between q r w l c.passed same)))
        ]
      ]) in
      subst (λ x. IsFirst Backward (λ p. IsShown at S p × WalkMeets Backward start p) (On x)
      × (IsShown at S x × IsBefore Backward at S (After x) (On r))) (sym j.4)
      (settle start w (On r) c shown)

  -- the walk has come to the end
  pub settled_end : (start : WalkStart) (w : Entry) → IsCandidate at S start w Off
      → IsFirst Backward (λ p. IsShown at S p × WalkMeets Backward start p) (On w)
      × (IsShown at S w × IsBefore Backward at S (After w) Off)
  settled_end start w c =
      settle start w Off c (shown_by at S w c.seen c.put (λ q seen same. c.newest q seen same tt))
