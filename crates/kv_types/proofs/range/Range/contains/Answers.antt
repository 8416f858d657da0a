use Rattle.std.proofs.Common.{◌≡◌, ◌↔◌, ℕ, Bool, true, false, IsTrue, List, Option}
use Rattle.std.proofs.Common.{IfSome, refl, sym, ap, subst}
use Rattle.std.proofs.lemmas.Bool.{false≢true}
use Rattle.byte_fields.specs.Order.{IsBelow}
use Rattle.byte_fields.specs.ByteOrderLemmas.{not_below, from_below}
use Rattle.kv_types.specs.Spans.{Span}
use Rattle.kv_types.specs.Pages.{IsWithin}
use Rattle.kv_types.proofs.range.Range.contains.Goals as goal

below : (range : Span) (key from : List ℕ) → from ≡ range.from → IsBelow key from
    → IsTrue false ↔ IsWithin range key
below range key from is h = (
  λ e. absurd cc,
  λ within. absurd (from_below range.from key within.0 (subst (IsBelow key) is h)),
)

-- at or above the first key, the bound decides
bounded : (range : Span) (key from : List ℕ) (to : Option (List ℕ)) (test : Bool)
    → from ≡ range.from → to ≡ range.to → (IsBelow key from → ⊥)
    → (IsTrue test ↔ IfSome to (λ t. IsBelow key t)) → IsTrue test ↔ IsWithin range key
bounded range key from to test from_is to_is h decides =
    let at = not_below range.from key (λ lower. h (subst (IsBelow key) (sym from_is) lower)) in
    let ends = λ (o : Option (List ℕ)). IfSome o (λ t. IsBelow key t) in (
      λ e. (at, subst ends to_is (decides.0 e)),
      λ within. decides.1 (subst ends (sym to_is) within.1),
    )

pub returns-then-is_below : goal.returns-then-is_below
returns-then-is_below c =
    let from_is = ap (λ (s : Span). s.from) c.self.view_is in
    below c.args.self.now c.args.key.now c.self.inside.from from_is (c.if-is_below.ensures.0 refl)

pub returns-in-Some : goal.returns-in-Some
returns-in-Some c =
    let key = c.args.key.now in
    let from_is = ap (λ (s : Span). s.from) c.self.view_is in
    let to_is = ap (λ (s : Span). s.to) c.self.view_is in
    let test = c.is_below-in-Some.result in
    let ends = λ (o : Option (List ℕ)). IsTrue test ↔ IfSome o (λ t. IsBelow key t) in
    bounded c.args.self.now key c.self.inside.from c.self.inside.to test from_is to_is
    (λ lower. false≢true (c.if-is_below.ensures.1 lower))
    (subst ends (sym c.in-Some.is) c.is_below-in-Some.ensures)

pub returns-in-None : goal.returns-in-None
returns-in-None c =
    let key = c.args.key.now in
    let from_is = ap (λ (s : Span). s.from) c.self.view_is in
    let to_is = ap (λ (s : Span). s.to) c.self.view_is in
    let ends = λ (o : Option (List ℕ)). IsTrue true ↔ IfSome o (λ t. IsBelow key t) in
    bounded c.args.self.now key c.self.inside.from c.self.inside.to true from_is to_is
    (λ lower. false≢true (c.if-is_below.ensures.1 lower))
    (subst ends (sym c.in-None.is) (λ e. tt, λ h. refl))
