use Rattle.std.proofs.Common.{◌≡◌, ◌*◌, ℕ, length, Bool, ap, sym, subst, inl, inr, ◌∙◌, arith}
use Rattle.std.proofs.Common.{refl, eq-eqb}
use Rattle.std.specs.Prelude.{◌↔◌, IsTrue}
use Rattle.std.proofs.lemmas.Bool.{cases_lt, false≢true}
use Rattle.bloom.specs.Filters.{HasBit, probe_of}
use Rattle.bloom.proofs.Walking.{begun}
use Rattle.bloom.proofs.filter.may_hold_hashed.Goals as goal

pub loop-i-init : goal.loop-i-init
loop-i-init c = record {
  set = λ i few. absurd (omega (arith, few));
  walk = begun c.args.filter.now c.args.hashes c.args.hashes c.bits_of.result c.first-probes.result
      c.bits_of.ensures refl c.first-probes.ensures;
}

-- one probe more is set
pub loop-i-preserved : goal.loop-i-preserved
loop-i-preserved c =
    let filter = c.args.filter.now in
    let at = c.loop-i in
    let bits = 8 * length filter in
    let set : HasBit filter at.probes.place = (subst (λ (b : Bool).
    IsTrue b ↔ HasBit filter at.probes.place) c.if-not-has_bit.false c.has_bit.ensures).0 refl
    in record {
      set = λ i few. elim (cases_lt i at.i) [
        | inl low ↦ at.invariant.set i low
        | inr high ↦
            let last : at.i ≡ i = omega (arith, few, high) in
            subst (λ (j : ℕ). HasBit filter (probe_of bits c.args.hashes j)) last
            (subst (λ (p : ℕ). HasBit filter p) at.invariant.walk.place set)
      ];
      walk = c.advance.ensures bits c.args.hashes at.i at.invariant.walk;
    }

-- one is not set
pub returns-then-not-has_bit : goal.returns-then-not-has_bit
returns-then-not-has_bit c =
    let filter = c.args.filter.now in
    let place = c.loop-i.probes.place in
    let unset = (subst (λ (b : Bool). IsTrue b ↔ HasBit filter place) c.if-not-has_bit.true
    c.has_bit.ensures).1 in (
      λ wrong. absurd (false≢true wrong),
      λ covers. elim covers [
        | inl empty ↦ absurd (false≢true (sym c.if-is_empty.false ∙ c.is_empty.ensures
            ∙ eq-eqb (length filter) 0 (ap length empty)))
        | inr all ↦ unset (subst (λ (p : ℕ). HasBit filter p) (sym c.loop-i.invariant.walk.place)
            (all c.loop-i.i c.loop-i-test.true))
      ],
    )

-- all are set
pub returns : goal.returns
returns c = (
  λ is. inr (λ i few. c.loop-i.invariant.set i (omega (arith, few, c.loop-i-test.false))),
  λ covers. refl,
)
