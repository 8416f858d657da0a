use Rattle.std.proofs.Common.{◌≡◌, ◌↔◌, true, refl, sym, ◌∙◌, ap, subst, rules, IsTrue}
use Rattle.std.specs.declared.cmp.Ordering.{Ordering}
use Rattle.std.specs.declared.cmp.Ordering.TheVariants.{Less, Equal, Greater}
use Rattle.std.specs.Ordering.{is_ge, is_le, ordering_reverse}
use Rattle.byte_fields.specs.{StoredKey, stored_cmp}
use Rattle.byte_fields.specs.StoredKeysLemmas.{stored_total}
use Rattle.store_model.specs.{KeyPrecedes}
use Rattle.store_tables.proofs.levels.OpenTable.may_have.Goals as goal

not_before : (a b : StoredKey) → is_ge (stored_cmp a b) ≡ true → KeyPrecedes a b → ⊥
not_before a b is before = let e : is_ge Less ≡ true = sym (ap is_ge before) ∙ is in cc

by_answer : (o : Ordering) → IsTrue (is_le o) ↔ (ordering_reverse o ≡ Less → ⊥)
by_answer Less = (λ h e. cc, λ h. search rules)
by_answer Equal = (λ h e. cc, λ h. search rules)
by_answer Greater = (λ h e. search rules, λ h. absurd (h refl))

not_behind : (a b : StoredKey) → IsTrue (is_le (stored_cmp a b)) ↔ (KeyPrecedes b a → ⊥)
not_behind a b =
    subst (λ (o : Ordering). IsTrue (is_le (stored_cmp a b)) ↔ (o ≡ Less → ⊥))
    (sym (stored_total.antisymm b a)) (by_answer (stored_cmp a b))

pub returns-then-ge : goal.returns-then-ge
returns-then-ge c =
    let key = c.args.key.now in
    let line = c.args.self.now.line in
    let both = not_behind key line.greatest in
    rw (c.le.ensures) (
      λ is. (not_before key line.least (sym c.ge.ensures ∙ c.if-ge.true), both.0 is),
      λ within. both.1 within.1,
    )
