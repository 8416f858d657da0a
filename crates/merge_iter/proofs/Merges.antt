-- From where the children stand to where their union stands.
use Rattle.std.proofs.Common.{◌≡◌, ◌↔◌, ◌<◌, ◌≤◌, ℕ, ◌⊎◌, inl, inr, refl, sym, ◌∙◌, ap, subst}
use Rattle.std.proofs.Common.{List, [], ◌∷◌, zero, suc, slice_set, length, Some, None, arith}
use Rattle.std.proofs.Common.{Result, Ok, Err, Option}
use Rattle.std.specs.List.{slice_get}
use Rattle.std.proofs.lemmas.Option.{slice_get_within}
use Rattle.std.specs.declared.cmp.Ordering.TheVariants.{Equal}
use Rattle.merge_iter.specs.declared.direction.Direction.{Direction}
use Rattle.kv_types.specs.{Entry}
use Rattle.merge_iter.specs.Order.{entry_cmp, EntryPrecedes}
use Rattle.merge_iter.specs.Positions.{Position, On, Off, Broken, IsFirst, IsOn, IfOn}
use Rattle.merge_iter.specs.Positions.{WalkStart}
use Rattle.merge_iter.specs.Positions.{AtEnd, At, After, WalkMeets}
use Rattle.merge_iter.specs.Merging.{UnionHolds, IsBest, IsNearest, ChildrenAreFirst, IsOpposite}
use Rattle.merge_iter.specs.Merging.{IsPlaced, IsSecond, child_position}
use Rattle.merge_iter.specs.Merging.{union_position}
use Rattle.merge_iter.specs.declared.place.Place.TheVariants as place
use Rattle.merge_iter.specs.Moves.{MoveFinds}
use Rattle.merge_iter.specs.Unions.{same_first}
use Rattle.merge_iter.specs.declared.error.CursorError.{CursorError}
use Rattle.merge_iter.specs.EntryOrder.{IsUpward, upward, entry_total, not_both, chain}
use Rattle.merge_iter.specs.EntryOrder.{cases, same_right, equal_back, equal_apart}

-- a child that is not on the entry steps past it by standing still
pub past_others : (way : Direction) (H : Entry → Type 0) (entry : Entry) (s : Position)
    → ((p : Entry) → H p → entry_cmp p entry ≡ Equal → ⊥)
    → IsFirst way (λ p. H p × (EntryPrecedes way p entry → ⊥)) s → IsFirst way
    (λ p. H p × EntryPrecedes way entry p) s
past_others way H entry s other =
    same_first way (λ p. H p × (EntryPrecedes way p entry → ⊥)) (λ p. H p × EntryPrecedes way entry
    p) s
    (λ p. (
      (λ h. (
        h.0,
        elim (cases way p entry) [
          | inl k ↦ absurd (h.1 k)
          | inr m ↦ elim m
              [ inl e ↦ absurd (other p h.0 e) | inr l ↦ l ]
        ],
      )),
      (λ h. (h.0, λ k. not_both way p entry k h.1)),
    ))

-- a child that was ahead the other way and is stepped once, or started where it stood on none
pub turned_on : (old way : Direction) (H : Entry → Type 0) (entry q : Entry) (s : Position)
    → ((a b : Entry) → EntryPrecedes old a b ↔ EntryPrecedes way b a)
    → IsFirst old (λ p. H p × (EntryPrecedes old p entry → ⊥)) (On q) → IsFirst way
    (λ p. H p × EntryPrecedes way q p) s → IsFirst way (λ p. H p × EntryPrecedes way entry p) s
turned_on old way H entry q s flip was =
    same_first way (λ p. H p × EntryPrecedes way q p) (λ p. H p × EntryPrecedes way entry p) s
    (λ p. (
      (λ h. (
        h.0,
        elim (cases way entry p) [
          | inl k ↦ k
          | inr m ↦ absurd (was.1 p (
            h.0,
            λ k. elim m [
              | inl e ↦ equal_apart way entry p e ((flip p entry).0 k)
              | inr l ↦
                  not_both way p entry l ((flip p entry).0 k)
            ],
          ) ((flip p q).1 h.1))
        ],
      )),
      (λ h. (
        h.0,
        elim (cases way q p) [
          | inl k ↦ k
          | inr m ↦ absurd (was.0.1
              ((flip q entry).1 (elim m [
                | inl e ↦ same_right way entry p q (equal_back q p e) h.1
                | inr l ↦ chain way entry p q h.1 l
              ])))
        ],
      )),
    ))

pub turned_off : (old way : Direction) (H : Entry → Type 0) (entry : Entry) (s : Position)
    → ((a b : Entry) → EntryPrecedes old a b ↔ EntryPrecedes way b a)
    → IsFirst old (λ p. H p × (EntryPrecedes old p entry → ⊥)) Off → IsFirst way H s → IsFirst way
    (λ p. H p × EntryPrecedes way entry p) s
turned_off old way H entry s flip was =
    same_first way H (λ p. H p × EntryPrecedes way entry p) s
    (λ p. (
      (λ h. (
        h,
        elim (cases way entry p) [
          | inl k ↦ k
          | inr m ↦ absurd (was p (
            h,
            λ k. elim m [
              | inl e ↦ equal_apart way entry p e ((flip p entry).0 k)
              | inr l ↦
                  not_both way p entry l ((flip p entry).0 k)
            ],
          ))
        ],
      )),
      (λ h. h.0),
    ))

-- the child is ahead of the entry that the union stands on
pub settled_child : (way : Direction) (H P : Entry → Type 0) (entry : Entry) (s : Position)
    → IsUpward way P → P entry → ((q : Entry) → s ≡ On q → EntryPrecedes way q entry → ⊥)
    → IsFirst way (λ p. H p × P p) s → IsFirst way (λ p. H p × (EntryPrecedes way p entry → ⊥)) s
settled_child way H P entry (On q) up here late f =
    ((f.0.0, late q refl), λ other h c. f.1 other (h.0, up entry other here h.1) c)
settled_child way H P entry Off up here late f = λ other h. f other (h.0, up entry other here h.1)
settled_child way H P entry Broken up here late f = f

ahead : (way : Direction) (H P : Entry → Type 0) (entry p : Entry) (s : Position) → IsFirst way
    (λ p. H p × P p) s → ((q : Entry) → s ≡ On q → EntryPrecedes way q entry → ⊥) → H p → P p
    → EntryPrecedes way p entry → ⊥
ahead way H P entry p (On q) f late h k c =
    elim (cases way q p) [
      | inl l ↦ late q refl (chain way q p entry l c)
      | inr m ↦ elim m [
        | inl e ↦ late q refl
            (elim (cases way q entry) [
              | inl g ↦ g
              | inr g ↦ elim g [
                | inl e2 ↦ absurd (equal_apart way p entry (peq way q p entry e e2) c)
                | inr l ↦ absurd
                    (not_both way p entry c (same_right way entry q p e l))
              ]
            ])
        | inr l ↦ f.1 p (h, k) l
      ]
    ]
  where
    peq : (way : Direction) (q p entry : Entry) → entry_cmp q p ≡ Equal → entry_cmp q entry ≡ Equal
        → entry_cmp p entry ≡ Equal
    peq way q p entry e e2 = sym (entry_total.congr q p entry e) ∙ e2
ahead way H P entry p Off f late h k c = f p (h, k)
ahead way H P entry p Broken f late h k c = f

module _ {C : Type 0} (holds : C → Entry → Type 0) (position : C → Position) where
  pub settled : (way : Direction) (start : WalkStart) (children : List C) (but n k : ℕ)
      → length children ≤ but → length children ≤ n
      → ChildrenAreFirst holds position way start children
      → (best : IsBest position way children but n k)
      → IsFirst way (λ p. UnionHolds holds children p × WalkMeets way start p) (On best.entry)
      × ChildrenAreFirst holds position way (At best.entry) children
  settled way start children but n k past all first best =
      let P : Entry → Type 0 = WalkMeets way start in
      let up = upward way start in
      let here : IsFirst way (λ p. holds best.child p × P p) (On best.entry) =
      subst (λ s. IsFirst way (λ p. holds best.child p × P p) s) best.on
      (first k best.child best.found) in
      let late : (j : ℕ) (d : C) → slice_get children j ≡ Some d → (q : Entry) → position d ≡ On q
      → EntryPrecedes way q best.entry → ⊥ =
      λ j d is q on. let w : j < length children = slice_get_within children j d is in
      best.best j d q (omega arith) (λ e. omega (arith, e)) is on in (
        (
          ((k, best.child, best.found, here.0.0), here.0.1),
          λ other h c. ahead way (holds h.0.1) P best.entry other (position h.0.1)
              (first h.0.0 h.0.1 h.0.2) (late h.0.0 h.0.1 h.0.2) h.0.3 h.1 c,
        ),
        λ j d is. settled_child way (holds d) P best.entry (position d) up here.0.1 (late j d is)
            (first j d is),
      )

  -- the union stands on the best child
  pub placed : (way : Direction) (start : WalkStart) (children : List C) (but n k : ℕ)
      (second : Option ℕ) → length children ≤ but → length children ≤ n
      → ChildrenAreFirst holds position way start children
      → IsBest position way children but n k → IsSecond position way children k second
      → IsFirst way (λ p. UnionHolds holds children p × WalkMeets way start p)
      (union_position position children (place.On way k second))
      × IsPlaced holds position children (place.On way k second)
  placed way start children but n k second past all first best next =
      let r = settled way start children but n k past all first best in
      let P : Entry → Type 0 = λ p. UnionHolds holds children p × WalkMeets way start p in (
        subst (λ s. IsFirst way P (child_position position s)) (sym best.found)
            (subst (λ s. IsFirst way P s) (sym best.on) r.0),
        (best.child, best.entry, best.found, best.on, r.1, next),
      )

  none_on : (way : Direction) (P : Entry → Type 0) (s : Position) → IsFirst way P s → (IsOn s → ⊥)
      → (p : Entry) → P p → ⊥
  none_on way P (On q) f none = absurd (none tt)
  none_on way P Off f none = f
  none_on way P Broken f none = absurd f

  pub settled_off : (way : Direction) (start : WalkStart) (children : List C) (but n : ℕ)
      → length children ≤ but → length children ≤ n
      → ChildrenAreFirst holds position way start children
      → IsNearest position way children but n None
      → IsFirst way (λ p. UnionHolds holds children p × WalkMeets way start p) Off
  settled_off way start children but n past all first none =
      λ other h. let w : h.0.0 < length children = slice_get_within children h.0.0 h.0.1 h.0.2 in
      none_on way (λ p. holds h.0.1 p × WalkMeets way start p) (position h.0.1)
      (first h.0.0 h.0.1 h.0.2)
      (none h.0.0 h.0.1 (omega arith) (λ e. omega (arith, e)) h.0.2) other (h.0.3, h.1)

pub get_set : {C : Type 0} (xs : List C) (i : ℕ) (v : C) (j : ℕ) (c : C) → slice_get
    (slice_set xs i v) j ≡ Some c → ((j ≡ i) × (c ≡ v)) ⊎ ((j ≡ i → ⊥) × (slice_get xs j ≡ Some c))
get_set [] i v j c e = absurd (let h : None ≡ Some c = e in cc)
get_set (x ∷ xs) zero v zero c e = inl (refl, cc)
get_set (x ∷ xs) zero v (suc j) c e = inr ((λ z. omega arith), e)
get_set (x ∷ xs) (suc i) v zero c e = inr ((λ z. omega arith), e)
get_set (x ∷ xs) (suc i) v (suc j) c e = elim (get_set xs i v j c e)
    [ inl p ↦ inl (ap suc p.0, p.1) | inr q ↦ inr ((λ z. q.0 (omega arith)), q.1) ]

pub if_on : (s s' : Position) (P : Entry → Entry → Type 0) (a b : Entry) → s ≡ On a → s' ≡ On b
    → IfOn s (λ x. IfOn s' (λ y. P x y)) → P a b
if_on s s' P a b e e2 h = subst (λ v. IfOn v (λ y. P a y)) e2
    (subst (λ v. IfOn v (λ x. IfOn s' (λ y. P x y))) e h)

pub turn_step : (was way : Direction) (H : Entry → Type 0) (entry : Entry) (s s' : Position)
    (r : Result (Unit {0}) CursorError) → IsOn s → IsOpposite was way
    → IsFirst was (λ p. H p × WalkMeets was (At entry) p) s
    → IfOn s (λ q. MoveFinds way (After q) H r s') → MoveFinds way (After entry) H r s'
turn_step was way H entry (On q) s' (Ok u) on flip first step = turned_on was way H entry q s' flip
    first step
turn_step was way H entry (On q) s' (Err e) on flip first step = tt
turn_step was way H entry Off s' r on flip first step = absurd on
turn_step was way H entry Broken s' r on flip first step = absurd on

pub turn_start : (was way : Direction) (H : Entry → Type 0) (entry : Entry) (s s' : Position)
    (r : Result (Unit {0}) CursorError) → (IsOn s → ⊥) → IsOpposite was way
    → IsFirst was (λ p. H p × WalkMeets was (At entry) p) s → MoveFinds way AtEnd H r s' → MoveFinds
    way (After entry) H r s'
turn_start was way H entry (On q) s' r off flip first find = absurd (off tt)
turn_start was way H entry Off s' (Ok u) off flip first find = turned_off was way H entry s' flip
    first (same_first way (λ p. H p × Unit {0}) H s' (λ p. ((λ h. h.0), (λ h. (h, tt)))) find)
turn_start was way H entry Off s' (Err e) off flip first find = tt
turn_start was way H entry Broken s' r off flip first find = absurd first
