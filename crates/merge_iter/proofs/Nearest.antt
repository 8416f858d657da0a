-- The child whose entry is nearest: of the first children, of all, and of all but one.
use Rattle.std.proofs.Common.{◌≡◌, ◌<◌, ◌≤◌, ◌+◌, ℕ, ◌⊎◌, inl, inr, refl, sym, ◌∙◌, ap, subst}
use Rattle.std.proofs.Common.{List, [], ◌∷◌, zero, suc, slice_set, length, Some, None, arith}
use Rattle.std.proofs.Common.{get_or, Option}
use Rattle.std.specs.List.{slice_get}
use Rattle.std.proofs.lemmas.Option.{slice_get_within, slice_get_read}
use Rattle.merge_iter.specs.declared.direction.Direction.{Direction}
use Rattle.kv_types.specs.{Entry}
use Rattle.merge_iter.specs.Order.{EntryPrecedes}
use Rattle.merge_iter.specs.Positions.{Position, On, Off, Broken, IsOn, IsBroken}
use Rattle.merge_iter.specs.Merging.{IsBest, IsNearest}
use Rattle.merge_iter.specs.Merging.{IsSecond, OthersStay, child_position}
use Rattle.std.proofs.lemmas.Bool.{cases_lt}
use Rattle.merge_iter.specs.EntryOrder.{never, chain}

up_to : (j i : ℕ) → j < i + 1 → (j < i) ⊎ (j ≡ i)
up_to j i l = grind arith

same_or_not : (j k : ℕ) → (j ≡ k) ⊎ (j ≡ k → ⊥)
same_or_not j k = elim (cases_lt j k) [
  | inl l ↦ inr (λ e. omega (arith, l, e))
  | inr m ↦ elim (cases_lt k j)
      [ inl l ↦ inr (λ e. omega (arith, l, e)) | inr l ↦ inl (omega (arith, m, l)) ]
]

on_row : (s : Position) → IsOn s → (entry : Entry) × (s ≡ On entry)
on_row (On entry) h = (entry, refl)
on_row Off h = absurd h
on_row Broken h = absurd h

module _ {C : Type 0} (position : C → Position) where
  at_one : (xs : List C) (i j : ℕ) (c d : C) → slice_get xs i ≡ Some c → slice_get xs j ≡ Some d
      → j ≡ i → d ≡ c
  at_one xs i j c d p q e = let h : Some d ≡ Some c = sym q ∙ (ap (slice_get xs) e ∙ p) in cc

  -- child i is the best of i + 1 children, where no earlier one comes before it
  pub takes : (way : Direction) (children : List C) (but i : ℕ) (c : C)
      → slice_get children i ≡ Some c → (i ≡ but → ⊥) → IsOn (position c)
      → ((entry : Entry) → position c ≡ On entry → (j : ℕ) (d : C) (q : Entry) → j < i
      → (j ≡ but → ⊥) → slice_get children j ≡ Some d → position d ≡ On q
      → EntryPrecedes way q entry → ⊥)
      → IsBest position way children but (i + 1) i
  takes way children but i c at apart on earlier =
      let r = on_row (position c) on in
      record {
        within = slice_get_within children i c at;
        apart = apart;
        child = c;
        entry = r.0;
        found = at;
        on = r.1;
        best = λ j d q l other is stood precedes. elim (up_to j i l) [
          | inl k ↦ earlier r.0 r.1 j d q k other is stood precedes
          | inr e ↦
              let same : On q ≡ On r.0 = sym stood ∙ (ap position (at_one children i j c d at is e)
              ∙ r.1) in
              let entries : q ≡ r.0 = cc in
              never way r.0 (subst (λ x. EntryPrecedes way x r.0) entries precedes)
        ];
      }

  pub takes_first : (way : Direction) (children : List C) (but i : ℕ) (c : C)
      → slice_get children i ≡ Some c → (i ≡ but → ⊥) → IsOn (position c)
      → IsNearest position way children but i None → IsBest position way children but (i + 1) i
  takes_first way children but i c at apart on none = takes way children but i c at apart on
      (λ entry is j d q l other found stood precedes.
      none j d l other found (subst IsOn (sym stood) tt))

  -- the best stays
  pub keeps : (way : Direction) (children : List C) (but i k : ℕ) (c : C)
      → slice_get children i ≡ Some c → (b : IsBest position way children but i k)
      → ((q : Entry) → position c ≡ On q → EntryPrecedes way q b.entry → ⊥)
      → IsBest position way children but (i + 1) k
  keeps way children but i k c at b late = record {
    within = b.within;
    apart = b.apart;
    child = b.child;
    entry = b.entry;
    found = b.found;
    on = b.on;
    best = λ j d q l other is stood precedes. elim (up_to j i l) [
      | inl m ↦ b.best j d q m other is stood precedes
      | inr e ↦ late q (subst (λ x. position x ≡ On q) (at_one children i j c d at is e) stood)
          precedes
    ];
  }

  pub takes_over : (way : Direction) (children : List C) (but i k : ℕ) (c : C)
      → slice_get children i ≡ Some c → (i ≡ but → ⊥) → IsOn (position c)
      → (b : IsBest position way children but i k)
      → ((q : Entry) → position c ≡ On q → EntryPrecedes way q b.entry)
      → IsBest position way children but (i + 1) i
  takes_over way children but i k c at apart on b sooner = takes way children but i c at apart on
      (λ entry is j d q l other found stood precedes. b.best j d q l other found stood
      (chain way q entry b.entry precedes (sooner entry is)))

  -- a child that is left out, or stands on no entry, changes nothing
  pub passes_by : (way : Direction) (children : List C) (but i : ℕ) (found : Option ℕ)
      → ((d : C) → (i ≡ but → ⊥) → slice_get children i ≡ Some d → IsOn (position d) → ⊥)
      → IsNearest position way children but i found
      → IsNearest position way children but (i + 1) found
  passes_by way children but i None out none =
      λ j d l other is on. elim (up_to j i l) [
        | inl m ↦ none j d m other is on
        | inr e ↦ out d (λ k. other (e ∙ k)) (subst (λ n. slice_get children n ≡ Some d) e is) on
      ]
  passes_by way children but i (Some k) out b = record {
    within = b.within;
    apart = b.apart;
    child = b.child;
    entry = b.entry;
    found = b.found;
    on = b.on;
    best = λ j d q l other is stood precedes. elim (up_to j i l) [
      | inl m ↦ b.best j d q m other is stood precedes
      | inr e ↦ out d (λ k. other (e ∙ k)) (subst (λ n. slice_get children n ≡ Some d) e is)
          (subst IsOn (sym stood) tt)
    ];
  }

  -- child k stays the best of all, where it comes before the best of the others
  pub stays_best : (way : Direction) (children : List C) (but n k other : ℕ) (c : C)
      → length children ≤ but → slice_get children k ≡ Some c → IsOn (position c)
      → (b : IsBest position way children k (length children) other)
      → ((q : Entry) → position c ≡ On q → EntryPrecedes way q b.entry)
      → IsBest position way children but n k
  stays_best way children but n k other c past at on b sooner =
      let r = on_row (position c) on in
      let w : k < length children = slice_get_within children k c at in
      record {
        within = w;
        apart = λ e. omega (arith, e);
        child = c;
        entry = r.0;
        found = at;
        on = r.1;
        best = λ j d q l out is stood precedes. elim (same_or_not j k) [
          | inl e ↦
              let same : On q ≡ On r.0 = sym stood ∙ (ap position (at_one children k j c d at is e)
              ∙ r.1) in
              let entries : q ≡ r.0 = cc in
              never way r.0 (subst (λ x. EntryPrecedes way x r.0) entries precedes)
          | inr e ↦ b.best j d q (slice_get_within children j d is) e is stood
              (chain way q r.0 b.entry precedes (sooner r.0 r.1))
        ];
      }

  -- else the best of the others is the best of all
  pub other_best : (way : Direction) (children : List C) (but n k other : ℕ) (c : C)
      → length children ≤ but → slice_get children k ≡ Some c
      → (b : IsBest position way children k (length children) other)
      → ((q : Entry) → position c ≡ On q → EntryPrecedes way q b.entry → ⊥)
      → IsBest position way children but n other
  other_best way children but n k other c past at b late =
      let w = b.within in
      record {
        within = w;
        apart = λ e. omega (arith, e, w);
        child = b.child;
        entry = b.entry;
        found = b.found;
        on = b.on;
        best = λ j d q l out is stood precedes. elim (same_or_not j k) [
          | inl e ↦ late q (subst (λ x. position x ≡ On q) (at_one children k j c d at is e) stood)
              precedes
          | inr e ↦ b.best j d q (slice_get_within children j d is) e is stood precedes
        ];
      }

  -- where no other child stands on an entry, one that does is the best of all
  pub alone_best : (way : Direction) (children : List C) (but n k : ℕ) (c : C)
      → length children ≤ but → slice_get children k ≡ Some c → IsOn (position c)
      → IsSecond position way children k None → IsBest position way children but n k
  alone_best way children but n k c past at on none =
      let r = on_row (position c) on in
      let w : k < length children = slice_get_within children k c at in
      record {
        within = w;
        apart = λ e. omega (arith, e);
        child = c;
        entry = r.0;
        found = at;
        on = r.1;
        best = λ j d q l out is stood precedes. elim (same_or_not j k) [
          | inl e ↦
              let same : On q ≡ On r.0 = sym stood ∙ (ap position (at_one children k j c d at is e)
              ∙ r.1) in
              let entries : q ≡ r.0 = cc in
              never way r.0 (subst (λ x. EntryPrecedes way x r.0) entries precedes)
          | inr e ↦ none j d (slice_get_within children j d is) e is (subst IsOn (sym stood) tt)
        ];
      }

  -- and if that one does not either, none does
  pub none_of_all : (way : Direction) (children : List C) (but n k : ℕ) (c : C)
      → slice_get children k ≡ Some c → (IsOn (position c) → ⊥)
      → IsSecond position way children k None → IsNearest position way children but n None
  none_of_all way children but n k c at off none = λ j d l out is on. elim (same_or_not j k) [
    | inl e ↦ off (subst (λ x. IsOn (position x)) (at_one children k j c d at is e) on)
    | inr e ↦ none j d (slice_get_within children j d is) e is on
  ]

  -- the nearest of the others is the second one
  pub second_of : (way : Direction) (children : List C) (k n : ℕ) (second : Option ℕ)
      → length children ≤ n → IsNearest position way children k n second
      → IsSecond position way children k second
  second_of way children k n None all near = λ j d l. near j d (omega (arith, l, all))
  second_of way children k n (Some other) all near = record {
    within = near.within;
    apart = near.apart;
    child = near.child;
    entry = near.entry;
    found = near.found;
    on = near.on;
    best = λ j d q l. near.best j d q (omega (arith, l, all));
  }

  -- the nearest of the others stays so while they stay
  pub second_stays : (way : Direction) (old new : List C) (k : ℕ) (second : Option ℕ)
      → length new ≡ length old → OthersStay k old new → IsSecond position way old k second
      → IsSecond position way new k second
  second_stays way old new k None len stay none =
      λ j d l out is. none j d (omega (arith, l, len)) out (sym (stay j out) ∙ is)
  second_stays way old new k (Some other) len stay b =
      let w = b.within in
      record {
        within = omega (arith, w, len);
        apart = b.apart;
        child = b.child;
        entry = b.entry;
        found = stay other b.apart ∙ b.found;
        on = b.on;
        best = λ j d q l out is stood precedes.
            b.best j d q (omega (arith, l, len)) out (sym (stay j out) ∙ is) stood precedes;
      }

-- a child that stands on an entry is not broken
pub unbroken_at : {C : Type 0} (position : C → Position) (xs : List C) (k : ℕ) (c : C)
    → slice_get xs k ≡ Some c → IsOn (position c)
    → IsBroken (child_position position (slice_get xs k)) → ⊥
unbroken_at position xs k c at on broken =
    let r = on_row (position c) on in
    let h : IsBroken (position c) = subst (λ o. IsBroken (child_position position o)) at broken in
    let e : IsBroken (On r.0) = subst IsBroken r.1 h in
    e

same_get : {C : Type 0} (xs : List C) (i : ℕ) (v : C) (j : ℕ) → (j ≡ i → ⊥)
    → slice_get (slice_set xs i v) j ≡ slice_get xs j
same_get [] i v j n = refl
same_get (x ∷ xs) zero v zero n = absurd (n refl)
same_get (x ∷ xs) zero v (suc j) n = refl
same_get (x ∷ xs) (suc i) v zero n = refl
same_get (x ∷ xs) (suc i) v (suc j) n = same_get xs i v j (λ e. n (ap suc e))

-- where one child is replaced the others stay
pub others_stay : {C : Type 0} (xs : List C) (k : ℕ) (v : C) → OthersStay k xs (slice_set xs k v)
others_stay xs k v j n = same_get xs k v j n

pub best_child : {C : Type 0} (position : C → Position) (way : Direction) (xs : List C)
    (but n k : ℕ) (b : IsBest position way xs but n k) (d : C) → d ≡ get_or xs k d
    → position d ≡ On b.entry
best_child position way xs but n k b d e =
    let same : Some d ≡ Some b.child = sym (slice_get_read xs (length xs) k d refl b.within e)
    ∙ b.found in
    let alike : d ≡ b.child = cc in
    ap position alike ∙ b.on
