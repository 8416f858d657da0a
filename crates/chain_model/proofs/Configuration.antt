-- Neighbours in a configuration, and configurations that shrink.
use Rattle.std.proofs.Common.{◌≡◌, ◌⊎◌, inl, inr, ⊎_elim, ℕ, zero, suc, ◌<◌, ◌≤◌, List, [], ◌∷◌}
use Rattle.std.proofs.Common.{length, Some, Bool, true, false, ◌==◌, sym, refl, ◌∙◌, subst, arith}
use Rattle.std.proofs.Common.{eqb-true, eq-eqb, lt-ltb}
use Rattle.std.specs.Cmp.Derive.{both_true}
use Rattle.std.proofs.lemmas.Bool.{cond_both, cases_Bool, cases_lt, false≢true, cond-true}
use Rattle.std.proofs.lemmas.Bool.{cond-false}
use Rattle.kv_types.specs.{AllDifferent, Part, has}
use Rattle.configurations.specs.{Lawful, at_epoch, is_head, is_tail, last_of, predecessor}
use Rattle.configurations.specs.{successor}
use Rattle.configurations.specs.NodeLists.{IsBeforeIn, Shrinks, leaves_out}
use Rattle.kv_types.specs.ListsLemmas.{part_refl, part_test, part_trans}

-- each later one is some of the one before, in order, and not empty
abbrev pub Shrink : List ℕ → List (List ℕ) → Type 0
Shrink c [] = Unit {0}
Shrink c (d ∷ cs) = Part d c × (length d < length c) × (0 < length d) × Shrink d cs

-- the properties of a lawful list that the theorems use
abbrev pub IsChain : List (List ℕ) → Type 0
IsChain [] = ⊥
IsChain (c ∷ cs) = AllDifferent c × (0 < length c) × Shrink c cs

-- from places to recursion
shrink_of : (c : List ℕ) (cs : List (List ℕ))
    → ((e : ℕ) → suc e < length (c ∷ cs) → Shrinks (at_epoch (c ∷ cs) e)
    (at_epoch (c ∷ cs) (suc e))) → Shrink c cs
shrink_of c [] each = tt
shrink_of c (d ∷ cs) each =
    let first : Shrinks c d = each 0 (omega arith) in (
      first.part,
      first.shorter,
      first.not_empty,
      shrink_of d cs
          (λ e h. each (suc e) (omega (arith, h))),
    )

-- each lawful list has the properties that the theorems use
pub chain_of : (cs : List (List ℕ)) → Lawful cs → IsChain cs
chain_of [] lawful = absurd (omega (arith, lawful.at_least_one))
chain_of (c ∷ cs) lawful = (lawful.different, lawful.nodes, shrink_of c cs lawful.shrinks)

-- the first or a later one
has_cases : (y : ℕ) (c : List ℕ) (x : ℕ) → has (y ∷ c) x ≡ true → (y ≡ x) ⊎ (has c x ≡ true)
has_cases y c x h = go (y == x) refl
  where
    go : (b : Bool) → (y == x) ≡ b → (y ≡ x) ⊎ (has c x ≡ true)
    go true e = inl (eqb-true y x e)
    go false e = inr (sym (cond-false (y == x) true (has c x) e) ∙ h)

-- a list has its first node
has_first : (y : ℕ) (c : List ℕ) (x : ℕ) → y ≡ x → has (y ∷ c) x ≡ true
has_first y c x e = cond-true (y == x) true (has c x) (eq-eqb y x e)

-- a list has the nodes behind its first
has_later : (y : ℕ) (c : List ℕ) (x : ℕ) → has c x ≡ true → has (y ∷ c) x ≡ true
has_later y c x h = cond_both (y == x) true (has c x) (λ b. b ≡ true) (λ e. refl) (λ e. h)

-- the nodes of a sublist are nodes of the list
pub has_part : (d c : List ℕ) (x : ℕ) → Part d c → has d x ≡ true → has c x ≡ true
has_part [] c x p h = absurd (false≢true h)
has_part (y ∷ d) [] x p h = absurd p
has_part (y ∷ d) (z ∷ c) x (inl p) h = ⊎_elim (λ e. has_first z c x (sym p.0 ∙ e))
    (λ k. has_later z c x (has_part d c x p.1 k)) (has_cases y d x h)
has_part (y ∷ d) (z ∷ c) x (inr p) h = has_later z c x (has_part (y ∷ d) c x p h)

-- the order of two nodes in a sublist is their order in the list
pub before_part : (d c : List ℕ) (x y : ℕ) → Part d c → IsBeforeIn d x y → IsBeforeIn c x y
before_part [] c x y p h = absurd h
before_part (a ∷ d) [] x y p h = absurd p
before_part (a ∷ d) (z ∷ c) x y (inl p) (inl h) = inl (sym p.0 ∙ h.0, has_part d c y p.1 h.1)
before_part (a ∷ d) (z ∷ c) x y (inl p) (inr h) = inr (before_part d c x y p.1 h)
before_part (a ∷ d) (z ∷ c) x y (inr p) h = inr (before_part (a ∷ d) c x y p h)

-- a node that the list lacks is in no sublist
lacks_part : (d c : List ℕ) (x : ℕ) → Part d c → has c x ≡ false → has d x ≡ false
lacks_part d c x p h = ⊎_elim (λ e. absurd (false≢true (sym h ∙ has_part d c x p e)))
    (λ e. e) (cases_Bool (has d x))

-- a part of different ids has different ids
different_part : (d c : List ℕ) → Part d c → AllDifferent c → AllDifferent d
different_part [] c p a = tt
different_part (y ∷ d) [] p a = absurd p
different_part (y ∷ d) (z ∷ c) (inl p) a =
    (subst (λ k. has d k ≡ false) (sym p.0) (lacks_part d c z p.1 a.0), different_part d c p.1 a.1)
different_part (y ∷ d) (z ∷ c) (inr p) a = different_part (y ∷ d) c p a.1

-- a node that precedes another is in the list
pub before_left : (c : List ℕ) (x y : ℕ) → IsBeforeIn c x y → has c x ≡ true
before_left [] x y h = absurd h
before_left (z ∷ c) x y (inl h) = has_first z c x h.0
before_left (z ∷ c) x y (inr h) = has_later z c x (before_left c x y h)

-- a node that another precedes is in the list
pub before_right : (c : List ℕ) (x y : ℕ) → IsBeforeIn c x y → has c y ≡ true
before_right [] x y h = absurd h
before_right (z ∷ c) x y (inl h) = has_later z c y h.1
before_right (z ∷ c) x y (inr h) = has_later z c y (before_right c x y h)

-- no node precedes the first
none_before_first : (y : ℕ) (c : List ℕ) (x : ℕ) → AllDifferent (y ∷ c) → IsBeforeIn (y ∷ c) x y → ⊥
none_before_first y c x a (inl h) = false≢true (sym a.0 ∙ h.1)
none_before_first y c x a (inr h) = false≢true (sym a.0 ∙ before_right c x y h)

-- no node precedes the head
pub none_before_head : (c : List ℕ) (x y : ℕ) → AllDifferent c → is_head c y ≡ true
    → IsBeforeIn c x y → ⊥
none_before_head [] x y a e h = h
none_before_head (z ∷ c) x y a e h =
    let same : z ≡ y = eqb-true z y e in
    none_before_first z c x a (subst (λ k. IsBeforeIn (z ∷ c) x k) (sym same) h)

-- no node precedes itself
pub none_before_itself : (c : List ℕ) (x : ℕ) → AllDifferent c → IsBeforeIn c x x → ⊥
none_before_itself [] x a h = h
none_before_itself (z ∷ c) x a (inl h) =
    false≢true (sym a.0 ∙ subst (λ k. has c k ≡ true) (sym h.0) h.1)
none_before_itself (z ∷ c) x a (inr h) = none_before_itself c x a.1 h

-- a list has its tail
pub tail_has : (c : List ℕ) (t : ℕ) → is_tail c t ≡ true → has c t ≡ true
tail_has [] t e = e
tail_has (y ∷ []) t e = has_first y [] t (eqb-true y t e)
tail_has (y ∷ z ∷ c) t e = has_later y (z ∷ c) t (tail_has (z ∷ c) t e)

-- all nodes but the tail precede the tail
pub before_tail : (c : List ℕ) (x t : ℕ) → is_tail c t ≡ true → has c x ≡ true
    → (x ≡ t) ⊎ IsBeforeIn c x t
before_tail [] x t e h = absurd (false≢true h)
before_tail (y ∷ []) x t e h = ⊎_elim (λ k. inl (sym k ∙ eqb-true y t e))
    (λ k. absurd (false≢true k)) (has_cases y [] x h)
before_tail (y ∷ z ∷ c) x t e h =
    ⊎_elim (λ k. inr (inl (k, tail_has (z ∷ c) t e)))
    (λ k. ⊎_elim (λ s. inl s) (λ b. inr (inr b)) (before_tail (z ∷ c) x t e k))
    (has_cases y (z ∷ c) x h)

-- a predecessor precedes its node
pub predecessor_before : (c : List ℕ) (y p : ℕ) → predecessor c y ≡ Some p → IsBeforeIn c p y
predecessor_before [] y p e = absurd (cc)
predecessor_before (a ∷ []) y p e = absurd (cc)
predecessor_before (a ∷ z ∷ c) y p e =
    ⊎_elim
    (λ t. let same : Some a ≡ Some p =
    sym (cond-true (z == y) (Some a) (predecessor (z ∷ c) y) t) ∙ e in
    inl (cc same, has_first z c y (eqb-true z y t)))
    (λ t. inr
    (predecessor_before (z ∷ c) y p
    (sym (cond-false (z == y) (Some a) (predecessor (z ∷ c) y) t) ∙ e)))
    (cases_Bool (z == y))

-- a node before y is its predecessor, or precedes that
pub before_predecessor : (c : List ℕ) (x y p : ℕ) → AllDifferent c → predecessor c y ≡ Some p
    → IsBeforeIn c x y → (x ≡ p) ⊎ IsBeforeIn c x p
before_predecessor [] x y p a e h = absurd h
before_predecessor (w ∷ []) x y p a e h = absurd (cc)
before_predecessor (w ∷ z ∷ c) x y p a e (inl h) =
    ⊎_elim
    (λ t. let same : Some w ≡ Some p =
    sym (cond-true (z == y) (Some w) (predecessor (z ∷ c) y) t) ∙ e in inl (sym h.0 ∙ cc same))
    (λ t. inr
    (inl (
      h.0,
      before_left (z ∷ c) p y
          (predecessor_before (z ∷ c) y p
          (sym (cond-false (z == y) (Some w) (predecessor (z ∷ c) y) t) ∙ e)),
    )))
    (cases_Bool (z == y))
before_predecessor (w ∷ z ∷ c) x y p a e (inr h) =
    ⊎_elim
    (λ t. absurd
    (none_before_first z c x a.1 (subst (λ k. IsBeforeIn (z ∷ c) x k) (sym (eqb-true z y t)) h)))
    (λ t. ⊎_elim (λ s. inl s) (λ b. inr (inr b)) (before_predecessor (z ∷ c) x y p a.1
    (sym (cond-false (z == y) (Some w) (predecessor (z ∷ c) y) t) ∙ e) h))
    (cases_Bool (z == y))

-- a list has each successor
pub successor_is_in : (c : List ℕ) (x s : ℕ) → successor c x ≡ Some s → has c s ≡ true
successor_is_in [] x s e = absurd (cc)
successor_is_in (a ∷ []) x s e = absurd (cc)
successor_is_in (a ∷ z ∷ c) x s e =
    ⊎_elim
    (λ t. let same : Some z ≡ Some s = sym (cond-true (a == x) (Some z) (successor (z ∷ c) x) t)
    ∙ e in has_later a (z ∷ c) s (has_first z c s (cc same)))
    (λ t. has_later a (z ∷ c) s
    (successor_is_in (z ∷ c) x s (sym (cond-false (a == x) (Some z) (successor (z ∷ c) x) t)
    ∙ e)))
    (cases_Bool (a == x))

-- the first configuration has all that a later one has
part_first : (c : List ℕ) (cs : List (List ℕ)) (e : ℕ) → Shrink c cs → e < length cs
    → Part (at_epoch cs e) c
part_first c [] e s h = absurd (omega arith)
part_first c (d ∷ cs) zero s h = s.0
part_first c (d ∷ cs) (suc e) s h = part_trans (at_epoch cs e) d c
    (part_first d cs e s.3 (omega arith)) s.0

-- of a list that shrinks, a later configuration is a part of an earlier one
shrinks_part : (c : List ℕ) (cs : List (List ℕ)) (e e' : ℕ) → Shrink c cs → e ≤ e'
    → e' < length (c ∷ cs) → Part (at_epoch (c ∷ cs) e') (at_epoch (c ∷ cs) e)
shrinks_part c cs zero zero s h l = part_refl c
shrinks_part c cs zero (suc e') s h l = part_first c cs e' s (omega arith)
shrinks_part c cs (suc e) zero s h l = absurd (omega arith)
shrinks_part c [] (suc e) (suc e') s h l = absurd (omega arith)
shrinks_part c (d ∷ cs) (suc e) (suc e') s h l = shrinks_part d cs e e' s.3 (omega arith)
    (omega arith)

-- a later configuration is a part of an earlier one
pub later_part : (cs : List (List ℕ)) (e e' : ℕ) → IsChain cs → e ≤ e' → e' < length cs
    → Part (at_epoch cs e') (at_epoch cs e)
later_part [] e e' w h l = absurd w
later_part (c ∷ cs) e e' w h l = shrinks_part c cs e e' w.2 h l

-- behind the list of configurations there is none
at_epoch-past : (cs : List (List ℕ)) (e : ℕ) → length cs ≤ e → at_epoch cs e ≡ []
at_epoch-past [] e past = refl
at_epoch-past (c ∷ cs) zero past = absurd (omega arith)
at_epoch-past (c ∷ cs) (suc e) past = at_epoch-past cs e (omega arith)

-- each node of a configuration is in configuration 0
pub created_has : (cs : List (List ℕ)) (e x : ℕ) → IsChain cs → has (at_epoch cs e) x ≡ true
    → has (at_epoch cs 0) x ≡ true
created_has cs e x w is = elim (cases_lt e (length cs)) [
  | inl within ↦ has_part (at_epoch cs e) (at_epoch cs 0) x
      (later_part cs 0 e w (omega arith) within) is
  | inr past ↦ absurd (false≢true
      (subst (λ c. has c x ≡ true) (at_epoch-past cs e past) is))
]

-- the order of two nodes that a smaller list keeps
pub before_back : (d c : List ℕ) (x y : ℕ) → Part d c → AllDifferent c → has d x ≡ true
    → has d y ≡ true → IsBeforeIn c x y → IsBeforeIn d x y
before_back [] c x y p a hx hy b = absurd (false≢true hx)
before_back (w ∷ d) [] x y p a hx hy b = absurd b
before_back (w ∷ d) (z ∷ c) x y (inr p) a hx hy (inl b) =
    absurd (false≢true
    (sym a.0 ∙ has_part (w ∷ d) c z p (subst (λ k. has (w ∷ d) k ≡ true) (sym b.0) hx)))
before_back (w ∷ d) (z ∷ c) x y (inr p) a hx hy (inr b) = before_back (w ∷ d) c x y p a.1 hx hy b
before_back (w ∷ d) (z ∷ c) x y (inl p) a hx hy (inl b) =
    ⊎_elim (λ e. absurd (false≢true (sym a.0 ∙ subst (λ k. has c k ≡ true) (sym e ∙ p.0) b.1)))
    (λ k. inl (p.0 ∙ b.0, k)) (has_cases w d y hy)
before_back (w ∷ d) (z ∷ c) x y (inl p) a hx hy (inr b) =
    ⊎_elim
    (λ e. absurd
    (false≢true (sym a.0 ∙ subst (λ k. has c k ≡ true) (sym e ∙ p.0) (before_left c x y b))))
    (λ kx. ⊎_elim
    (λ e. absurd
    (false≢true (sym a.0 ∙ subst (λ k. has c k ≡ true) (sym e ∙ p.0)
    (before_right c x y b)))) (λ ky. inr (before_back d c x y p.1 a.1 kx ky b))
    (has_cases w d y hy))
    (has_cases w d x hx)

-- each configuration has different ids
pub all_different : (cs : List (List ℕ)) (e : ℕ) → IsChain cs → e < length cs
    → AllDifferent (at_epoch cs e)
all_different [] e w l = absurd w
all_different (c ∷ cs) e w l = different_part (at_epoch (c ∷ cs) e) c
    (later_part (c ∷ cs) zero e w (omega arith) l) w.0

-- the last configuration is that of the last epoch
pub last_epoch : (cs : List (List ℕ)) → IsChain cs
    → (e : ℕ) × ((suc e ≡ length cs) × (last_of cs ≡ at_epoch cs e) × (0 < length (last_of cs)))
last_epoch [] w = absurd w
last_epoch (c ∷ cs) w = go c cs w.1 w.2
  where
    go : (c : List ℕ) (cs : List (List ℕ)) → 0 < length c → Shrink c cs
        → (e : ℕ) × ((suc e ≡ length (c ∷ cs)) × (last_of (c ∷ cs) ≡ at_epoch (c ∷ cs) e)
        × (0 < length (last_of (c ∷ cs))))
    go c [] l s = (0, (refl, refl, l))
    go c (d ∷ cs) l s = let r = go d cs s.2 s.3 in (suc r.0, (omega (arith, r.1.0), r.1.1, r.1.2))

-- a list that is not empty has a node
pub someone : (c : List ℕ) → 0 < length c → (x : ℕ) × (has c x ≡ true)
someone [] h = absurd (omega arith)
someone (y ∷ c) h = (y, has_first y c y refl)

-- the test of a notice is passed by exactly the parts that are shorter
pub leaves_out_is : (d c : List ℕ) → Part d c → length d < length c → leaves_out d c ≡ true
leaves_out_is d c p h = both_true (part_test d c p) (lt-ltb (length d) (length c) h)

-- a later configuration of a chain is shorter
shrinks_shorter : (c : List ℕ) (cs : List (List ℕ)) (e e' : ℕ) → Shrink c cs → e < e'
    → e' < length (c ∷ cs) → length (at_epoch (c ∷ cs) e') < length (at_epoch (c ∷ cs) e)
shrinks_shorter c [] e e' s h l = absurd (omega arith)
shrinks_shorter c (d ∷ cs) zero zero s h l = absurd (omega arith)
shrinks_shorter c (d ∷ cs) zero (suc zero) s h l = s.1
shrinks_shorter c (d ∷ cs) zero (suc (suc e')) s h l =
    omega (arith, shrinks_shorter d cs zero (suc e') s.3 (omega arith) (omega arith), s.1)
shrinks_shorter c (d ∷ cs) (suc e) zero s h l = absurd (omega arith)
shrinks_shorter c (d ∷ cs) (suc e) (suc e') s h l = shrinks_shorter d cs e e' s.3 (omega arith)
    (omega arith)

-- a notice of a later epoch passes its test
pub later_leaves_out : (cs : List (List ℕ)) (e e' : ℕ) → IsChain cs → e < e' → e' < length cs
    → leaves_out (at_epoch cs e') (at_epoch cs e) ≡ true
later_leaves_out [] e e' w h l = absurd w
later_leaves_out (c ∷ cs) e e' w h l =
    leaves_out_is (at_epoch (c ∷ cs) e') (at_epoch (c ∷ cs) e)
    (later_part (c ∷ cs) e e' w (omega arith) l) (shrinks_shorter c cs e e' w.2 h l)
